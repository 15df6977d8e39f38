-- 01, "Bench cards", and facts of 02: a case is what is given and what must come out, and one test says whether it does.
use Rattle.std.specs.Prelude.{Bool, true, false, List, [], ◌∷◌, ◌++◌, ℕ, zero, suc, ◌+◌, ◌*◌, ◌/◌, ◌%◌, eqb, get_or, replicate}
use Rattle.std.proofs.lemmas.List.Edits.{sets}
use Rattle.rules.specs.Machine.{◌also◌, Kind, cpu, vdp, register, size, group, Mem, mem, state, cells, put, sub_pointer, status, buffer, ypt, xpt, seed_cell, register_copy, random_number}
use Rattle.rules.specs.Calls.{Report, run}

-- bytes from an address on
pub record Code : Type 0 where
  pub at : ℕ
  pub these : List ℕ

-- a byte in a cell
pub record Holds : Type 0 where
  pub kind : Kind
  pub at : ℕ
  pub byte : ℕ

pub record Case : Type 0 where
  -- given: the image's bytes, the cells, pc, and how many steps to run
  pub image : List Code
  pub given : List Holds
  pub from : ℕ
  pub run : ℕ
  -- to come out: answer and address, steps and stores, pc, and these cells
  pub answer : ℕ
  pub address : ℕ
  pub steps : ℕ
  pub stores : ℕ
  pub pc : ℕ
  pub left : List Holds

-- n bytes, written as one number
abbrev pub hex : ℕ → ℕ → List ℕ
hex zero x = []
hex (suc n) x = hex n (x / 256) ++ x % 256 ∷ []

-- n bytes of code, from an address on
abbrev pub code : ℕ → ℕ → ℕ → Code
code n x a = record { at = a; these = hex n x }

-- a cell of the pad, of VDP RAM, a register
abbrev pub pad : ℕ → ℕ → Holds
pad a b = record { kind = cpu; at = a; byte = b }

abbrev pub vram : ℕ → ℕ → Holds
vram a b = record { kind = vdp; at = a; byte = b }

abbrev pub reg : ℕ → ℕ → Holds
reg a b = record { kind = register; at = a; byte = b }

-- ---- the test

abbrev pub burnt : List Code → List ℕ → List ℕ
burnt [] i = i
burnt (b ∷ bs) i = burnt bs (sets i b.at b.these)

abbrev pub poured : List Holds → Mem → Mem
poured [] m = m
poured (h ∷ hs) m = poured hs (put h.kind h.at h.byte m)

abbrev pub all_hold : List Holds → Mem → Bool
all_hold [] m = true
all_hold (h ∷ hs) m = eqb (get_or (cells h.kind m) h.at 0) h.byte also all_hold hs m

-- "Code at 0, other cells 0, >73 = >7E unless said": an image of one group, and a journal of 1,024 words
abbrev pub bench : List Code → Mem
bench codes =
    put cpu sub_pointer 0x7E (mem (burnt codes (replicate group 0)) 0 (replicate (size cpu) 0) (replicate (size vdp) 0) (replicate (size register) 0)
    (replicate 1024 0) 0 0 0 false)

abbrev pub comes_out : Case → Report → Bool
comes_out c r =
    eqb r.answer.number c.answer also eqb r.answer.address c.address also eqb r.steps c.steps also eqb r.stores c.stores
    also eqb r.end.pc c.pc also all_hold c.left r.end.mem

unfoldable pub passes : Case → Bool
passes c = comes_out c (run c.run (state c.from false (poured c.given (bench c.image))))

unfoldable pub every_passes : List Case → Bool
every_passes [] = true
every_passes (c ∷ cs) = passes c also every_passes cs

-- ---- cards a to l

-- one step of some code, which is done: the number of stores, the pc and the cells that it leaves
abbrev pub card : Code → List Holds → ℕ → ℕ → List Holds → Case
card first given stores pc left =
    record { image = first ∷ []; given = given; from = 0; run = 1; answer = 0; address = 0; steps = 1; stores = stores; pc = pc; left = left }

-- ">43 at >1FFF, >10 at 0, pc >1FFF: pc >0310."
abbrev pub card_j : Case
card_j =
    record {
      image = code 1 0x43 0x1FFF ∷ code 1 0x10 0 ∷ [];
      given = [];
      from = 0x1FFF;
      run = 1;
      answer = 0;
      address = 0;
      steps = 1;
      stores = 1;
      pc = 0x0310;
      left = pad status 0 ∷ [];
    }

abbrev pub cards : List Case
cards =
    -- a. "`A20001`, pad 00 = >7F: >80": 02, "Card a then gives >8C; b and c stand."
    card (code 3 0xA20001 0) (pad 0 0x7F ∷ []) 2 3 (pad 0 0x80 ∷ pad status 0x8C ∷ [])
    -- b. "`A60080`, >80: 0, status >38."
    ∷ card (code 3 0xA60080 0) (pad 0 0x80 ∷ []) 2 3 (pad 0 0 ∷ pad status 0x38 ∷ [])
    -- c. "`A60000`, 5: 5, status >C0."
    ∷ card (code 3 0xA60000 0) (pad 0 5 ∷ []) 2 3 (pad 0 5 ∷ pad status 0xC0 ∷ [])
    -- d. "`A80002`, >82 and pad 02 = >F3: >7B66 (guide)."
    ∷ card (code 3 0xA80002 0) (pad 0 0x82 ∷ pad 2 0xF3 ∷ []) 2 3 (pad 0 0x7B ∷ pad 1 0x66 ∷ pad status 0 ∷ [])
    -- e. "`AE0008`, >0105: >20, >05, status 0."
    ∷ card (code 3 0xAE0008 0) (pad 0 0x01 ∷ pad 1 0x05 ∷ []) 3 3 (pad 0 0x20 ∷ pad 1 0x05 ∷ pad status 0 ∷ [])
    -- f. "`AE0001`, >0105: unchanged, status >08."
    ∷ card (code 3 0xAE0001 0) (pad 0 0x01 ∷ pad 1 0x05 ∷ []) 2 3 (pad 0 0x01 ∷ pad 1 0x05 ∷ pad status 0x08 ∷ [])
    -- g. "`E20000`, >FF: 0."
    ∷ card (code 3 0xE20000 0) (pad 0 0xFF ∷ []) 1 3 (pad 0 0 ∷ pad status 0 ∷ [])
    -- h. "`DE0003`, >90: >F2."
    ∷ card (code 3 0xDE0003 0) (pad 0 0x90 ∷ []) 1 3 (pad 0 0xF2 ∷ pad status 0 ∷ [])
    -- i. "`0209`: seed >7AB9, pad 78 = 2."
    ∷ card (code 2 0x0209 0) [] 3 2 (pad seed_cell 0x7A ∷ pad 0xC1 0xB9 ∷ pad random_number 2 ∷ [])
    -- j
    ∷ card_j
    -- k. "`8A00`, >FF: pc 0."
    ∷ card (code 2 0x8A00 0) (pad 0 0xFF ∷ []) 1 0 (pad status 0 ∷ [])
    -- l. "`08C10041FB0002FB`: screen 0, 1 = >41, pc 8, 13 stores, pad 80 = 0."
    ∷ card (code 8 0x08C10041FB0002FB 0) [] 13 8 (vram 0 0x41 ∷ vram 1 0x41 ∷ pad 0x80 0 ∷ pad sub_pointer 0x7E ∷ pad ypt 0 ∷ pad xpt 2 ∷ [])
    ∷ []

-- ---- the other facts

-- a run of at most n steps from the first byte of some code at 0: its answer, steps, stores, pc, and cells
abbrev pub runs : Code → List Holds → ℕ → ℕ → ℕ → ℕ → ℕ → List Holds → Case
runs first given n answer steps stores pc left =
    record { image = first ∷ []; given = given; from = 0; run = n; answer = answer; address = 0; steps = steps; stores = stores; pc = pc; left = left }

-- one step that is refused: its answer and its address
abbrev pub refuses : Code → List Holds → ℕ → ℕ → Case
refuses first given answer address =
    record { image = first ∷ []; given = given; from = 0; run = 1; answer = answer; address = address; steps = 0; stores = 0; pc = 0; left = [] }

abbrev pub facts : List Case
facts =
    -- 01's sample for the program
    card (code 4 0x08412AFB 0) (pad sub_pointer 0 ∷ pad ypt 0x17 ∷ pad xpt 0x1F ∷ []) 8 4 (pad ypt 0 ∷ pad xpt 1 ∷ vram 0 0x2A ∷ vram 0x02FF 0x2A ∷ [])
    -- 02: ">04 when the result has an odd number of one bits": INC of 0, which gives 1, and of 2, which gives 3
    ∷ card (code 2 0x9000 0) [] 2 2 (pad 0 1 ∷ pad status 0xC4 ∷ [])
    ∷ card (code 2 0x9000 0) (pad 0 2 ∷ []) 2 2 (pad 0 3 ∷ pad status 0xC0 ∷ [])
    -- "For word adds .. >04 is always set": INC, DEC and DECT of 1
    ∷ card (code 2 0x9100 0) (pad 1 1 ∷ []) 3 2 (pad 1 2 ∷ pad status 0xC4 ∷ [])
    ∷ card (code 2 0x9300 0) (pad 1 1 ∷ []) 3 2 (pad 1 0 ∷ pad status 0x34 ∷ [])
    ∷ card (code 2 0x9700 0) (pad 1 1 ∷ []) 3 2 (pad 0 0xFF ∷ pad 1 0xFF ∷ pad status 0x84 ∷ [])
    -- "01's other status rules stand": AND, of 1 and 1
    ∷ card (code 3 0xB20001 0) (pad 0 1 ∷ []) 2 3 (pad 0 1 ∷ pad status 0xC0 ∷ [])
    -- "VDP >3FFF as byte passes, as word 5"
    ∷ card (code 4 0x86AF3FFF 0) (vram 0x3FFF 1 ∷ []) 1 4 (vram 0x3FFF 0 ∷ [])
    ∷ refuses (code 4 0x87AF3FFF 0) [] 5 0x4000
    -- "16 calls deep pass, the 17th is 7"
    ∷ runs (code 3 0x060000 0) [] 16 0 16 64 0 (pad sub_pointer 0x9E ∷ pad 0x9F 3 ∷ [])
    ∷ runs (code 3 0x060000 0) [] 17 7 16 64 0 (pad sub_pointer 0x9E ∷ pad 0x9F 3 ∷ [])
    -- "MOVE from 0 of a one-group image to VDP 0: length .. >8001 moves one byte"; and so does length 0
    ∷ card (code 7 0x318001A0000000 0) [] 5 7 (vram 0 0x31 ∷ vram 1 0 ∷ pad sub_pointer 0x7E ∷ [])
    ∷ card (code 7 0x310000A0000000 0) [] 5 7 (vram 0 0x31 ∷ vram 1 0 ∷ pad sub_pointer 0x7E ∷ [])
    -- "GROM source addresses count in 16 bits": the third byte is beyond an image of one group
    ∷ refuses (code 7 0x310003A0001FFE 0) [] 6 0x2000
    -- "A byte for register 1 has bit >80 set .. and goes to >D4 first, then to the register."
    ∷ card (code 6 0x390001010001 0) [] 6 6 (reg 1 0x80 ∷ pad register_copy 0x80 ∷ [])
    ∷ card (code 6 0x390001010000 0) [] 6 6 (reg 1 0xB9 ∷ pad register_copy 0xB9 ∷ [])
    -- "ALL: 768 screen bytes from 0, then >7E and >7F become 0."
    ∷ card (code 2 0x072A 0) (pad ypt 1 ∷ pad xpt 1 ∷ []) 770 2 (pad ypt 0 ∷ pad xpt 0 ∷ vram 0 0x2A ∷ vram 767 0x2A ∷ vram 768 0 ∷ [])
    ∷ []

-- ---- the character buffer: the second paragraph of "Operands"

-- row 0, column 2: the screen byte there, and what stands in >7D
abbrev pub screen : ℕ → ℕ → List Holds → List Holds
screen b at hs = vram 2 b ∷ pad xpt 2 ∷ pad buffer at ∷ hs

abbrev pub buffer_facts : List Case
buffer_facts =
    -- "If a result's last byte .. goes to pad >7D, that byte then goes to the screen too": a word at >7C
    card (code 2 0x877C 0) (screen 0x55 7 (pad status 1 ∷ [])) 3 2 (screen 0 0 (pad status 0 ∷ []))
    -- "A read whose first byte is pad >7D first stores the screen byte there": a word at >7D, whose last byte goes to >7E
    ∷ card (code 2 0x857D 0) (screen 0x55 7 []) 3 2 (screen 0x55 0xAA (pad ypt 0xFF ∷ []))
    -- "each half of MUL's or DIV's is one": MUL's low half, and its high half
    ∷ card (code 3 0xAA7C03 0) (screen 0x55 7 (pad status 0x50 ∷ [])) 3 3 (screen 0xF0 0xF0 (pad status 0 ∷ []))
    ∷ card (code 3 0xAA7D03 0) (screen 0x60 7 []) 4 3 (screen 1 1 (pad ypt 0x20 ∷ []))
    -- DIV's remainder, its dividend's low half read as it stands; and its quotient
    ∷ card (code 3 0xAE7C02 0) (screen 0x55 9 []) 4 3 (screen 1 1 (pad status 4 ∷ []))
    ∷ card (code 3 0xAE7D10 0) (screen 1 7 []) 5 3 (screen 0x10 0x10 (pad ypt 0 ∷ pad status 0 ∷ []))
    -- "MOVE's length operand is read as any other": >0001 of the screen byte and the row, and not >0101
    ∷ card (code 5 0x307D000000 0) (pad ypt 1 ∷ pad buffer 1 ∷ []) 6 5 (pad 0 0x30 ∷ pad buffer 0 ∷ [])
    -- "Index words, pointers, .. MOVE's bytes and format strings do neither": MOVE's destination and its source
    ∷ card (code 6 0x3100017D0000 0) (screen 0x55 7 []) 5 6 (screen 0x55 0x31 [])
    ∷ card (code 5 0x350001007D 0) (screen 0x55 7 []) 5 5 (screen 0x55 7 (pad 0 7 ∷ []))
    -- an index word, >0010; a pointer
    ∷ card (code 4 0x86C0007D 0) (pad ypt 0x10 ∷ pad 0x10 9 ∷ vram 0x200 0x55 ∷ []) 1 4 (pad 0x10 0 ∷ pad buffer 0 ∷ [])
    ∷ card (code 3 0x86907D 0) (screen 0x55 0x10 (pad 0x10 9 ∷ [])) 1 3 (screen 0x55 0x10 (pad 0x10 0 ∷ []))
    -- a format operand: the character that stands there is shown
    ∷ card (code 4 0x08E07DFB 0) (screen 0x55 0x41 []) 5 4 (vram 2 0x41 ∷ pad buffer 0x41 ∷ pad xpt 3 ∷ [])
    -- both stores of EX
    ∷ card (code 3 0xC07D00 0) (screen 0x55 7 (pad 0 0x41 ∷ [])) 4 3 (screen 0x41 0x41 (pad 0 0x55 ∷ []))
    ∷ card (code 3 0xC0007D 0) (screen 0x55 7 (pad 0 0x41 ∷ [])) 4 3 (screen 0x41 0x41 (pad 0 0x55 ∷ []))
    ∷ []

-- ---- 02, item 2: "the offending 16-bit address .. must come out with the refusal"

abbrev pub address_facts : List Case
address_facts =
    -- a fetch: the opcode, beyond an image of one group
    record { image = []; given = []; from = 0x2000; run = 1; answer = 6; address = 0x2000; steps = 0; stores = 0; pc = 0x2000; left = [] }
    -- an operand: a byte; "of a word, the first byte out of range"
    ∷ refuses (code 3 0x9080E0 0) [] 4 0xE0
    ∷ refuses (code 3 0x9180DF 0) [] 4 0xE0
    ∷ refuses (code 4 0x918FFFFF 0) [] 4 0xFFFF
    ∷ refuses (code 4 0x90AF4001 0) [] 5 0x4001
    ∷ refuses (code 4 0x91AF3FFF 0) [] 5 0x4000
    -- an index word, and the cell after it
    ∷ refuses (code 4 0x90C000DF 0) [] 4 0xE0
    ∷ refuses (code 4 0x90C000E5 0) [] 4 0xE5
    ∷ refuses (code 4 0x90C00A20 0) (pad 0x20 0xFF ∷ []) 4 0xFF0A
    -- a pointer, byte and word, and what it holds
    ∷ refuses (code 3 0x9090E2 0) [] 4 0xE2
    ∷ refuses (code 3 0x90B0DF 0) [] 4 0xE0
    ∷ refuses (code 3 0x919010 0) (pad 0x10 0xDF ∷ []) 4 0xE0
    ∷ refuses (code 3 0x90B010 0) (pad 0x10 0x51 ∷ pad 0x11 0x23 ∷ []) 5 0x5123
    -- the second half of MUL; DIV's low half, of a byte and of a word
    ∷ refuses (code 4 0xAA80DF02 0) [] 4 0xE0
    ∷ refuses (code 5 0xAAAF3FFF02 0) [] 5 0x4000
    ∷ refuses (code 4 0xAE80DF02 0) [] 4 0xE0
    ∷ refuses (code 5 0xAF80DE0002 0) [] 4 0xE0
    -- a MOVE: its source's index word, its source in the pad and in VDP RAM, its destination
    ∷ refuses (code 7 0x330001000000DF 0) [] 4 0xE0
    ∷ refuses (code 6 0x3500020080DF 0) [] 4 0xE0
    ∷ refuses (code 7 0x35000200AF3FFF 0) [] 5 0x4000
    ∷ refuses (code 7 0x31000280DF0000 0) [] 4 0xE0
    ∷ refuses (code 8 0x310002AF3FFF0000 0) [] 5 0x4000
    -- FETCH: the top word
    ∷ refuses (code 2 0x8800 0) (pad sub_pointer 0x80 ∷ pad 0x80 0x90 ∷ pad 0x81 0x01 ∷ []) 6 0x9001
    -- "of a format operand, its VDP cell"; beyond VDP RAM it is no cell; text from the pad
    ∷ refuses (code 4 0x08FDA010 0) [] 4 0x10
    ∷ refuses (code 5 0x08FDAF5000 0) [] 5 0x5000
    ∷ refuses (code 4 0x08E380DE 0) [] 4 0xE0
    -- a block's address
    ∷ refuses (code 5 0x08C1FB9ABC 0) [] 6 0x9ABC
    -- "It is 0 for every other answer": EXIT, no such instruction, a stack pointer, a VDP register
    ∷ refuses (code 1 0x0B 0) [] 1 0
    ∷ refuses (code 1 0x0E 0) [] 2 0
    ∷ refuses (code 2 0x8800 0) (pad sub_pointer 0xE0 ∷ []) 7 0
    ∷ refuses (code 6 0x390001080000 0) [] 13 0
    -- "the first cause met in 01's order": the destination before the source
    ∷ refuses (code 5 0xA080E080E1 0) [] 4 0xE0
    ∷ []

-- ---- 02, item 3: COINC

-- the guide's figure E.4, from >0100 on: limits 4 and 5, sizes 2 and 2, and five rows of six bits, 011100 and then ones
abbrev pub figure : List Code
figure = code 8 0x0405020273FFFFFC 0x0100 ∷ []

-- a word of the pad
abbrev pub word : ℕ → ℕ → List Holds
word a w = pad a (w / 256) ∷ pad (a + 1) (w % 256) ∷ []

-- COINC with this granularity, by a table at >0100: the destination's pair at 00, the source's at 02, and the status before and after.
-- Five stores: >73, pc's two bytes, >7C, >73
abbrev pub meeting : List Code → ℕ → ℕ → ℕ → ℕ → ℕ → Case
meeting table g d s before after =
    record {
      image = code 6 (0xED0002000100 + g * 0x10000) 0 ∷ table;
      given = pad status before ∷ word 0 d ++ word 2 s;
      from = 0;
      run = 1;
      answer = 0;
      address = 0;
      steps = 1;
      stores = 5;
      pc = 6;
      left = pad status after ∷ pad sub_pointer 0x7E ∷ word 0x80 6;
    }

abbrev pub coinc_facts : List Case
coinc_facts =
    -- "counted from the left, row by row": of the differences -2 and -2 the first bit; -2 and -1, 1, 2; 2 and 3, the last
    meeting figure 0 0x6432 0x6230 0 0
    ∷ meeting figure 0 0x6432 0x6231 0 0x20
    ∷ meeting figure 0 0x6432 0x6233 0 0x20
    ∷ meeting figure 0 0x6432 0x6234 0 0
    ∷ meeting figure 0 0x6432 0x6635 0 0x20
    -- "outside it is cleared": one row too low, too high; one column too far right, left
    ∷ meeting figure 0 0x6432 0x6732 0x20 0
    ∷ meeting figure 0 0x6432 0x6132 0x20 0
    ∷ meeting figure 0 0x6432 0x6436 0x20 0
    ∷ meeting figure 0 0x6432 0x642F 0x20 0
    -- "source minus destination, as signed bytes": 0 less >FF is 1
    ∷ meeting figure 0 0xFFFF 0x0000 0 0x20
    -- "shifted down by the granularity": by 1, -4 is -2 and -5 is -3; by 7, -128 is -1 and 127 is 0
    ∷ meeting figure 1 0x6432 0x6032 0 0x20
    ∷ meeting figure 1 0x6432 0x5F32 0x20 0
    ∷ meeting (code 5 0x0101010180 0x0100 ∷ []) 7 0x8080 0 0 0x20
    ∷ meeting (code 5 0x0101010180 0x0100 ∷ []) 7 0x8180 0 0x20 0
    -- "added as unsigned": -128 and >90 make 16, and nothing wraps, 127 and >FF make 382 and not 126
    ∷ meeting (code 7 0xFF009000000080 0x0100 ∷ []) 0 0x8000 0 0 0x20
    ∷ meeting (code 4 0xFF00FF00 0x0100 ∷ code 1 0x02 0x0113 ∷ []) 0 0 0x7F00 0x20 0
    -- "the condition bit takes the table's bit": that bit alone
    ∷ meeting figure 0 0x6432 0x6231 0xDF 0xFF
    ∷ meeting figure 0 0x6432 0x6230 0xFF 0xDF
    -- a table at the image's end: its fifth byte is read inside, and outside it is not; its fourth is always
    ∷ refuses (code 6 0xED0002001FFC 0) [] 6 0x2000
    ∷ card (code 6 0xED0002001FFC 0) (pad 2 1 ∷ []) 5 6 (pad status 0 ∷ [])
    ∷ refuses (code 6 0xED0002001FFD 0) (pad 2 1 ∷ []) 6 0x2000
    -- "23 granularity above 7, before the table address is read"; 7 is "before the table is read"
    ∷ refuses (code 6 0xED000208FFFF 0) (pad sub_pointer 0x9E ∷ []) 23 0
    ∷ refuses (code 6 0xED000207FFFF 0) (pad sub_pointer 0x9E ∷ []) 7 0
    ∷ refuses (code 6 0xED000207FFFF 0) [] 6 0xFFFF
    -- "Other opcodes >EC to >EF still answer 2."
    ∷ refuses (code 1 0xEC 0) [] 2 0
    ∷ refuses (code 1 0xEE 0) [] 2 0
    ∷ refuses (code 1 0xEF 0) [] 2 0
    ∷ []
