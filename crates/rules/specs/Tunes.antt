-- Facts of 02, item 10: lists in GROM and in VDP RAM, started, ticked and stepped back, and the answers, bytes, words and cells that must come out.
use Rattle.std.specs.Prelude.{Bool, true, false, List, [], ◌∷◌, ◌++◌, ℕ, ◌+◌, ◌*◌, eqb, length, replicate}
use Rattle.rules.specs.Machine.{pick, ◌also◌, cpu, vdp, register, size, group, mem, State, state, put, sub_pointer}
use Rattle.rules.specs.Calls.{Reply, answer, left, instruction, tick, tick_output, step_back}
use Rattle.rules.specs.Demands.{Op, forth, aback, reply}
use Rattle.rules.specs.Cards.{Code, Holds, code, pad, vram, burnt, poured, all_hold}
use Rattle.rules.specs.Gram.{words_are}
use Rattle.rules.specs.Rings.{equal}

-- a call with the number and the address of its answer; of a tick, also the output that it leaves, where each byte was lent as 7
pub record Turn : Type 0 where
  pub call : Op
  pub number : ℕ
  pub address : ℕ
  pub output : List ℕ

abbrev pub stepped : ℕ → ℕ → Turn
stepped n a = record { call = forth instruction; number = n; address = a; output = [] }

abbrev pub backed : ℕ → Turn
backed n = record { call = aback; number = n; address = 0; output = [] }

abbrev pub ticked : ℕ → ℕ → List ℕ → Turn
ticked n a o = record { call = forth (tick (length o)); number = n; address = a; output = o }

-- n ticks in whose turn no block is due
abbrev pub waits : ℕ → List Turn
waits n = replicate n (ticked 0 0 [])

pub record Case : Type 0 where
  -- given: how many groups the image has, its bytes, how many words the journal has, cells, pc and the source flag
  pub groups : ℕ
  pub image : List Code
  pub room : ℕ
  pub given : List Holds
  pub from : ℕ
  pub source : Bool
  -- to come out: the answers, pc and the flag, the journal's words from the first on, and cells
  pub turns : List Turn
  pub pc : ℕ
  pub flag : Bool
  pub words : List ℕ
  pub left : List Holds

-- ---- the test

abbrev pub same : Bool → Bool → Bool
same true b = b
same false b = pick b false true

abbrev pub comes_out : Case → State → Bool
comes_out c s = eqb s.pc c.pc also same s.source c.flag also words_are c.words s.mem.journal also all_hold c.left s.mem

abbrev pub answers : Turn → Reply → Bool
answers t r = eqb (answer r).number t.number also eqb (answer r).address t.address

-- a tick alone does something to an output
abbrev pub output_of : Op → List ℕ → State → List ℕ
output_of (forth (tick n)) o s = tick_output o s
output_of (forth instruction) o s = o
output_of aback o s = o

abbrev pub taking : Case → List Turn → State → Bool
taking c [] s = comes_out c s
taking c (t ∷ ts) s =
    answers t (reply t.call s) also equal (output_of t.call (replicate (length t.output) 7) s) t.output
    also taking c ts (left (reply t.call s))

-- >73 = >7E, all else 0
abbrev pub given : Case → State
given c =
    state c.from c.source (poured c.given (put cpu sub_pointer 0x7E (mem (burnt c.image (replicate (c.groups * group) 0)) 0 (replicate (size cpu) 0)
    (replicate (size vdp) 0) (replicate (size register) 0) (replicate c.room 0) 0 0 0 false)))

unfoldable pub plays : Case → Bool
plays c = taking c c.turns (given c)

unfoldable pub every_plays : List Case → Bool
every_plays [] = true
every_plays (c ∷ cs) = plays c also every_plays cs

-- ---- the start

-- one step of some code, with >00 and >01 = >0100: its answer, pc, the flag and the words that it leaves
abbrev pub started : Code → List Holds → ℕ → ℕ → ℕ → Bool → List ℕ → List Holds → Case
started first given n a pc flag words left =
    record {
      groups = 1;
      image = first ∷ [];
      room = 8;
      given = pad 0 1 ∷ pad 1 0 ∷ given;
      from = 0;
      source = false;
      turns = stepped n a ∷ [];
      pc = pc;
      flag = flag;
      words = words;
      left = left;
    }

-- a mark at 0, and the words of >CC, >CD and >CE, which were 0
abbrev pub start_words : List ℕ
start_words = 0x60000000 ∷ 0xCC00 ∷ 0xCD00 ∷ 0xCE00 ∷ 0 ∷ []

abbrev pub start_cells : List Holds
start_cells = pad 0xCC 1 ∷ pad 0xCD 0 ∷ pad 0xCE 1 ∷ []

abbrev pub start_facts : List Case
start_facts =
    -- "the pad word at the destination goes to >CC, then 1 to >CE"; "when the source is 0 (GROM) or 1 (VDP RAM)": immediate, a word, an operand
    started (code 3 0xF60000 0) [] 0 0 3 false start_words start_cells
    ∷ started (code 3 0xF60001 0) [] 0 0 3 true start_words start_cells
    ∷ started (code 4 0xF7000001 0) [] 0 0 4 true start_words start_cells
    ∷ started (code 3 0xF40002 0) (pad 2 1 ∷ []) 0 0 3 true start_words start_cells
    -- "Other functions, or a VDP destination, answer 3 after the mark and the operands."
    ∷ started (code 3 0xF60002 0) [] 3 0 0 false (0 ∷ []) (pad 0xCE 0 ∷ [])
    ∷ started (code 4 0xF70000FF 0) [] 3 0 0 false (0 ∷ []) (pad 0xCE 0 ∷ [])
    ∷ started (code 4 0xF6A00000 0) [] 3 0 0 false (0 ∷ []) (pad 0xCE 0 ∷ [])
    ∷ started (code 4 0xF680E002 0) [] 4 0xE0 0 false (0 ∷ []) (pad 0xCE 0 ∷ [])
    -- of a byte at >DF the word's second byte is beyond the pad
    ∷ started (code 4 0xF680DF00 0) [] 4 0xE0 0 false (0 ∷ []) (pad 0xCE 0 ∷ [])
    ∷ []

-- ---- the tick

-- turns over some bytes and cells, from pc >9000, where nothing can be read
abbrev pub playing : ℕ → List Code → ℕ → Bool → List Holds → List Turn → Bool → List ℕ → List Holds → Case
playing groups image room source given turns flag words left =
    record {
      groups = groups;
      image = image;
      room = room;
      given = given;
      from = 0x9000;
      source = source;
      turns = turns;
      pc = 0x9000;
      flag = flag;
      words = words;
      left = left;
    }

-- a list at this address, due at the next tick
abbrev pub due_at : ℕ → ℕ → List Holds
due_at high low = pad 0xCC high ∷ pad 0xCD low ∷ pad 0xCE 1 ∷ []

-- two blocks, and an end
abbrev pub blocks : Code
blocks = code 7 0x02E4F20501FF00 0x100

-- a new address, there a change of source, and then a block in VDP RAM
abbrev pub jumps : List Code
jumps = code 3 0x000110 0x100 ∷ code 3 0xFF0200 0x110 ∷ []

abbrev pub in_vdp : List Holds
in_vdp = due_at 1 0 ++ vram 0x200 1 ∷ vram 0x201 0x9F ∷ vram 0x202 0x30 ∷ []

-- the words of a due block in GROM, begun at >9000 with the stack as it was: >CE counted down, the push, >CC, >CD and >CE, the pop
abbrev pub grom_words : ℕ → ℕ → ℕ → ℕ → List ℕ
grom_words high low stood under =
    0x60009000 ∷ 0xCE01 ∷ 0x737E ∷ stood ∷ under ∷ (0xCC00 + high) ∷ (0xCD00 + low) ∷ 0xCE00 ∷ 0x7380 ∷ []

abbrev pub tick_facts : List Case
tick_facts =
    -- "count down, send the next block's bytes", "end on a count of 0": then a mark alone
    playing 1 (blocks ∷ []) 32 false (due_at 1 0)
    (ticked 0 0 (0xE4 ∷ 0xF2 ∷ 7 ∷ []) ∷ waits 4 ++ ticked 0 0 (0xFF ∷ []) ∷ ticked 0 0 (7 ∷ []) ∷ [])
    false
    (grom_words 1 0 0x8000 0x8100
    ++ 0x60009000 ∷ 0xCE05 ∷ 0x60009000 ∷ 0xCE04 ∷ 0x60009000 ∷ 0xCE03 ∷ 0x60009000 ∷ 0xCE02 ∷ grom_words 1 4 0x8090 0x8100 ++ 0x60009000 ∷ 0 ∷ [])
    (pad 0xCC 1 ∷ pad 0xCD 7 ∷ pad 0xCE 0 ∷ pad 0x73 0x7E ∷ [])
    -- "a size of 0 as a new address and >FF as a change of source with a new address (either ends the tick with 1 in >CE)"
    ∷ playing 1 jumps 32 false in_vdp (ticked 0 0 (7 ∷ []) ∷ []) false (grom_words 1 0 0x8000 0x8100) (pad 0xCC 1 ∷ pad 0xCD 0x10 ∷ pad 0xCE 1 ∷ [])
    ∷ playing 1 jumps 32 false in_vdp (ticked 0 0 [] ∷ ticked 0 0 [] ∷ []) true [] (pad 0xCC 2 ∷ pad 0xCD 0 ∷ pad 0xCE 1 ∷ [])
    -- "is bit 16 of the mark word"; in VDP RAM no push and no pop
    ∷ playing 1 jumps 32 false in_vdp (ticked 0 0 [] ∷ ticked 0 0 [] ∷ ticked 0 0 (0x9F ∷ 7 ∷ []) ∷ []) true
    (grom_words 1 0 0x8000 0x8100 ++ grom_words 1 0x10 0x8090 0x8100 ++ 0x60019000 ∷ 0xCE01 ∷ 0xCC02 ∷ 0xCD00 ∷ 0xCE00 ∷ 0 ∷ [])
    (pad 0xCC 2 ∷ pad 0xCD 3 ∷ pad 0xCE 0x30 ∷ [])
    -- "step-back sets it with pc"
    ∷ playing 1 jumps 32 false in_vdp (ticked 0 0 [] ∷ ticked 0 0 [] ∷ backed 0 ∷ []) false (grom_words 1 0 0x8000 0x8100 ++ 0 ∷ [])
    (pad 0xCC 1 ∷ pad 0xCD 0x10 ∷ pad 0xCE 1 ∷ [])
    -- "26 output full", "a refused tick zeroes what it wrote there"
    ∷ playing 1 (blocks ∷ []) 32 false (due_at 1 0) (ticked 26 0 (0 ∷ []) ∷ ticked 26 0 [] ∷ []) false (0 ∷ []) (pad 0x73 0x7E ∷ pad 0x80 0 ∷ due_at 1 0)
    -- "after 6 or 5 for the byte concerned": where the output is full, the byte that can't be read answers
    ∷ playing 1 (code 1 1 0x1FFF ∷ []) 32 false (due_at 0x1F 0xFF) (ticked 6 0x2000 [] ∷ []) false (0 ∷ []) (due_at 0x1F 0xFF)
    ∷ playing 1 [] 32 true (vram 0x3FFF 1 ∷ due_at 0x3F 0xFF) (ticked 5 0x4000 [] ∷ []) true (0 ∷ []) (due_at 0x3F 0xFF)
    -- 10 at the first store after the bytes
    ∷ playing 1 (blocks ∷ []) 5 false (due_at 1 0) (ticked 10 0 (0 ∷ 0 ∷ 7 ∷ []) ∷ []) false (replicate 5 0) (due_at 1 0)
    -- the push: 7
    ∷ playing 1 (blocks ∷ []) 32 false (pad 0x73 0x9E ∷ due_at 1 0) (ticked 7 0 (7 ∷ []) ∷ []) false (0 ∷ []) (due_at 1 0)
    ∷ []

-- "List addresses count in 16 bits.": >FFFF, and then 0
abbrev pub round_fact : Case
round_fact =
    playing 8 (code 1 1 0xFFFF ∷ code 2 0x9F03 0 ∷ []) 32 false (due_at 0xFF 0xFF) (ticked 0 0 (0x9F ∷ []) ∷ []) false [] (pad 0xCC 0 ∷ pad 0xCD 2 ∷ pad 0xCE 3 ∷ [])

-- a surplus bit of a mark is one above the flag: the step back answers, and the flag
unfoldable pub back_says : ℕ → ℕ → Bool → Bool
back_says word n flag =
    let r : Reply = step_back (state 0 false (mem (replicate group 0) 0 (replicate (size cpu) 0) (replicate (size vdp) 0) (replicate (size register) 0)
    (word ∷ []) 1 1 0 false)) in
    eqb (answer r).number n also same (left r).source flag

abbrev pub back_facts : Bool
back_facts = back_says 0x60000000 0 false also back_says 0x60010000 0 true also back_says 0x60020000 12 false
