-- Cases of 02, item 13: what is given, and the addresses that the rules must read of it.
use Rattle.std.specs.Prelude.{Bool, true, false, List, [], ◌∷◌, ◌++◌, ℕ, zero, suc, eqb, get_or, replicate}
use Rattle.rules.specs.Machine.{◌also◌, cpu, vdp, register, size, group, mem, State, state, put, sub_pointer, status}
use Rattle.rules.specs.Calls.{run}
use Rattle.rules.specs.Cards.{Code, Holds, code, pad, burnt, poured}
use Rattle.rules.specs.Reads.{run_reads}

pub record Case : Type 0 where
  -- given: how many bytes the image has, those that are not 0, the writable groups, the cells, how many words the journal has, pc, and how many steps to run
  pub bytes : ℕ
  pub image : List Code
  pub groups : ℕ
  pub given : List Holds
  pub room : ℕ
  pub from : ℕ
  pub run : ℕ
  -- to come out: the addresses read, in their order
  pub reads : List ℕ

-- ---- the test

-- other cells 0, >73 = >7E unless said
abbrev pub state_of : Case → State
state_of c =
    state c.from false (poured c.given (put cpu sub_pointer 0x7E (mem (burnt c.image (replicate c.bytes 0)) c.groups (replicate (size cpu) 0)
    (replicate (size vdp) 0) (replicate (size register) 0) (replicate c.room 0) 0 0 0 false)))

abbrev pub equal : List ℕ → List ℕ → Bool
equal [] [] = true
equal [] (y ∷ ys) = false
equal (x ∷ xs) [] = false
equal (x ∷ xs) (y ∷ ys) = eqb x y also equal xs ys

unfoldable pub passes : Case → Bool
passes c = equal (run_reads c.run (state_of c)) c.reads

unfoldable pub every_passes : List Case → Bool
every_passes [] = true
every_passes (c ∷ cs) = passes c also every_passes cs

-- ---- the cases

-- n addresses from a on
abbrev pub from : ℕ → ℕ → List ℕ
from zero a = []
from (suc n) a = a ∷ from n (suc a)

-- at most n steps from 0, in an image of one group that is not writable, or is
abbrev pub reading : ℕ → List Code → List Holds → List ℕ → Case
reading n image given reads =
    record { bytes = group; image = image; groups = 0; given = given; room = 64; from = 0; run = n; reads = reads }

abbrev pub writing : ℕ → List Code → ℕ → List ℕ → Case
writing w image room reads =
    record { bytes = group; image = image; groups = w; given = []; room = room; from = 0; run = 1; reads = reads }

-- one step from the image's end, or beyond it; of an image of so many bytes
abbrev pub late : ℕ → ℕ → List Code → List ℕ → Case
late bytes pc image reads =
    record { bytes = bytes; image = image; groups = 0; given = []; room = 64; from = pc; run = 1; reads = reads }

-- three bytes from >0100 into the image itself, from >0101 on
abbrev pub into_gram : List Code
into_gram = code 7 0x21000301010100 0 ∷ code 4 0xAA112233 0x0100 ∷ []

abbrev pub cases : List Case
cases =
    -- opcode, operand and immediate: ADD of 1 to 00
    reading 1 (code 3 0xA20001 0 ∷ []) [] (from 3 0)
    -- a branch reads its second byte, taken or not: BR with the condition clear, and set
    ∷ reading 1 (code 2 0x4009 0 ∷ []) [] (from 2 0)
    ∷ reading 1 (code 2 0x4009 0 ∷ []) (pad status 0x20 ∷ []) (from 2 0)
    -- FETCH, of the byte at >0100
    ∷ reading 1 (code 2 0x8800 0 ∷ []) (pad sub_pointer 0x80 ∷ pad 0x80 0x01 ∷ []) (from 2 0 ++ from 1 0x0100)
    -- a MOVE's source, from GROM; from pad, none
    ∷ reading 1 (code 6 0x310002000100 0 ∷ []) [] (from 6 0 ++ from 2 0x0100)
    ∷ reading 1 (code 5 0x3500020004 0 ∷ []) [] (from 5 0)
    -- a format string: one letter and the end
    ∷ reading 1 (code 4 0x080041FB 0 ∷ []) [] (from 4 0)
    -- COINC's table at >0100: its four bytes, and the one of the bit
    ∷ reading 1 (code 6 0xED0002000100 0 ∷ []) [] (from 6 0 ++ from 5 0x0100)
    -- the start of a sound list at >0100 reads nothing of it
    ∷ reading 1 (code 3 0xF60000 0 ∷ []) (pad 0 0x01 ∷ []) (from 3 0)
    -- a store into GROM reads nothing where it stores; what it has stored is read like any other byte
    ∷ writing 1 into_gram 64 (from 7 0 ++ from 3 0x0100)
    -- a refused step's reads count: by 24, after the first byte; by 10, with no room for the mark; and the opcode that 2 stops
    ∷ writing 0 into_gram 64 (from 7 0 ++ from 1 0x0100)
    ∷ writing 0 into_gram 0 (from 1 0)
    ∷ reading 1 (code 1 0x0E 0 ∷ []) [] (from 1 0)
    -- so do those of the step that ends a run: CLR of 00, and EXIT
    ∷ reading 9 (code 3 0x86000B 0 ∷ []) [] (from 3 0)
    -- beyond the image there is nothing to read: a source that ends there, and pc; where the low 13 bits wrap there is
    ∷ reading 1 (code 6 0x310002001FFF 0 ∷ []) [] (from 6 0 ++ from 1 0x1FFF)
    ∷ late group 0x2000 [] []
    ∷ late group 0x1FFF (code 1 0x43 0x1FFF ∷ []) (from 1 0x1FFF ++ from 1 0)
    -- test 11 comes first
    ∷ late 8193 0 [] []
    ∷ []

-- ---- "old bytes of them in the journal, may end different"

-- a MOVE of one byte to >0101, where b stands: the word that it lays for it, after the mark and the three of the push
abbrev pub old_byte : ℕ → ℕ
old_byte b = get_or (run 1 (state_of (writing 1 (code 7 0x21000101010100 0 ∷ code 1 b 0x0101 ∷ []) 64 []))).end.mem.journal 4 0
