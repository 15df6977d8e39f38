-- 02, item 9, "GRAM cards": cases of MOVE into GROM and of the journal's fourth memory, each with what is given and what must come out.
use Rattle.std.specs.Prelude.{Bool, true, false, List, [], ◌∷◌, ℕ, ◌*◌, eqb, replicate}
use Rattle.rules.specs.Machine.{◌also◌, cpu, vdp, register, grom, size, group, mem, State, state, put, sub_pointer}
use Rattle.rules.specs.Calls.{Reply, answer, left, step_back, Report, run}
use Rattle.rules.specs.Cards.{Code, Holds, code, reg, burnt, all_hold}

-- a byte of the image
abbrev pub chip : ℕ → ℕ → Holds
chip a b = record { kind = grom; at = a; byte = b }

pub record Card : Type 0 where
  -- given: how many groups the image has, which are writable, how many words the journal has, the code, and how many steps to run from 0
  pub size : ℕ
  pub writable : ℕ
  pub room : ℕ
  pub image : List Code
  pub run : ℕ
  -- to come out: answer and address, stores, pc, the used words, and these cells
  pub answer : ℕ
  pub address : ℕ
  pub stores : ℕ
  pub pc : ℕ
  pub words : List ℕ
  pub left : List Holds

-- >73 = >7E, all else 0
abbrev pub carded : Card → State
carded c =
    state 0 false (put cpu sub_pointer 0x7E (mem (burnt c.image (replicate (c.size * group) 0)) c.writable (replicate (size cpu) 0) (replicate (size vdp) 0)
    (replicate (size register) 0) (replicate c.room 0) 0 0 0 false))

-- the journal's words, each as it should be
abbrev pub words_are : List ℕ → List ℕ → Bool
words_are [] j = true
words_are (w ∷ ws) [] = false
words_are (w ∷ ws) (x ∷ j) = eqb w x also words_are ws j

abbrev pub comes_out : Card → Report → Bool
comes_out c r =
    eqb r.answer.number c.answer also eqb r.answer.address c.address also eqb r.stores c.stores also eqb r.end.pc c.pc
    also words_are c.words r.end.mem.journal also all_hold c.left r.end.mem

unfoldable pub holds : Card → Bool
holds c = comes_out c (run c.run (carded c))

unfoldable pub every_holds : List Card → Bool
every_holds [] = true
every_holds (c ∷ cs) = holds c also every_holds cs

-- two bytes from >0100 to >2000, the first of group 1, in an image of two groups: by the writable groups and the journal's room
abbrev pub moved : ℕ → ℕ → ℕ → ℕ → ℕ → List ℕ → List Holds → Card
moved w room a n pc words left =
    record {
      size = 2;
      writable = w;
      room = room;
      image = code 7 0x21000220000100 0 ∷ code 2 0xABCD 0x100 ∷ [];
      run = 1;
      answer = a;
      address = 0;
      stores = n;
      pc = pc;
      words = words;
      left = left;
    }

abbrev pub gram_facts : List Card
gram_facts =
    -- "Opcodes >20 to >25 become MOVE into GROM, the destination being a two-byte address": the words have "kind 4" and "kind times 2^29"
    moved 0x02 8 0 6 7 (0x60000000 ∷ 0x0000737E ∷ 0x00008000 ∷ 0x00008100 ∷ 0x80200000 ∷ 0x80200100 ∷ 0x00007380 ∷ 0 ∷ []) (chip 0x2000 0xAB ∷ chip 0x2001 0xCD ∷ [])
    -- "24 group not writable .. before 10": the mark and the push take four words
    ∷ moved 0x00 4 24 0 0 (0 ∷ 0 ∷ 0 ∷ 0 ∷ []) (chip 0x2000 0 ∷ [])
    ∷ moved 0xFD 8 24 0 0 (0 ∷ []) (chip 0x2000 0 ∷ [])
    ∷ moved 0x02 4 10 0 0 (0 ∷ 0 ∷ 0 ∷ 0 ∷ []) (chip 0x2000 0 ∷ [])
    -- "A refused step returns the image too": room for the first byte alone
    ∷ moved 0x02 5 10 0 0 (0 ∷ 0 ∷ 0 ∷ 0 ∷ 0 ∷ []) (chip 0x2000 0 ∷ chip 0x2001 0 ∷ [])
    -- "just after 6 for that byte": the destination is beyond the image and in no writable group
    ∷ record {
      size = 2;
      writable = 0;
      room = 8;
      image = code 7 0x210001FFFF0100 0 ∷ [];
      run = 1;
      answer = 6;
      address = 0xFFFF;
      stores = 0;
      pc = 0;
      words = [];
      left = [];
    }
    -- the second byte's destination is beyond the image, and the first is given back
    ∷ record {
      size = 2;
      writable = 0xFF;
      room = 8;
      image = code 7 0x2100023FFF0000 0 ∷ code 1 0x55 0x3FFF ∷ [];
      run = 1;
      answer = 6;
      address = 0x4000;
      stores = 0;
      pc = 0;
      words = [];
      left = chip 0x3FFF 0x55 ∷ [];
    }
    -- "A program that rewrites its own next instruction runs the new one": EXIT at 7 becomes BACK
    ∷ record {
      size = 1;
      writable = 0x01;
      room = 16;
      image = code 9 0x210001000701000B05 0 ∷ code 1 0x04 0x100 ∷ [];
      run = 2;
      answer = 0;
      address = 0;
      stores = 6;
      pc = 9;
      words = [];
      left = chip 7 0x04 ∷ reg 7 5 ∷ [];
    }
    ∷ []

-- a destination that counts "in 16 bits": >FFFF, and then 0
abbrev pub wrapped : Card
wrapped =
    record {
      size = 8;
      writable = 0xFF;
      room = 8;
      image = code 7 0x210002FFFF0001 0 ∷ [];
      run = 1;
      answer = 0;
      address = 0;
      stores = 6;
      pc = 7;
      words = [];
      left = chip 0 0x02 ∷ chip 0xFFFF 0 ∷ [];
    }

-- ---- step-back

-- a MOVE into GROM is taken back: address, image and stack pointer, and no word is used
unfoldable pub taken_back : Card → List Holds → Bool
taken_back c before =
    let r : Reply = step_back (run 1 (carded c)).end in
    eqb (answer r).number 0 also eqb (left r).pc 0 also eqb (left r).mem.used 0 also all_hold before (left r).mem

-- a step of one store, whose word is this, in an image of one group: the step back answers
unfoldable pub back_answers : ℕ → ℕ → ℕ
back_answers w word =
    (answer (step_back (state 0 false (mem (replicate group 0) w (replicate (size cpu) 0) (replicate (size vdp) 0) (replicate (size register) 0)
    (0x60000000 ∷ word ∷ []) 2 2 0 false)))).number

-- "Step-back's 12 covers kinds 5 to 7 and kind 4 outside those groups or beyond the image."
abbrev pub back_facts : Bool
back_facts =
    eqb (back_answers 0xFF 0x80000000) 0 also eqb (back_answers 0x01 0x801FFF00) 0
    also eqb (back_answers 0xFE 0x80000000) 12 also eqb (back_answers 0xFF 0x80200000) 12
    also eqb (back_answers 0xFF 0xA0000000) 12 also eqb (back_answers 0xFF 0xC0000000) 12 also eqb (back_answers 0xFF 0xE0000000) 12
