-- 01, "Instructions", its first paragraph: what each of the 256 opcodes stands for.
use Rattle.std.specs.Prelude.{Bool, true, false, List, [], ◌∷◌, ℕ, zero, suc, ◌-◌, ◌/◌, ◌%◌, ltb}
use Rattle.rules.specs.Machine.{pick, ◌also◌, bit}
use Rattle.rules.specs.Answers.{Why, ended, no_such, needs_host}
use Rattle.rules.specs.Operands.{Width}

-- H, GT, CARRY, OVF: by the status bit that they test
pub data Test : Type 0 where
  high greater carry overflow : Test

-- those of one operand that store status, result or both, and no more
pub data One : Type 0 where
  abs neg inv clr cz inc dec inct dect : One

-- those of two operands that store status, result or both to the destination, and no more
pub data Two : Type 0 where
  add sub and or xor st ch che cgt cge ceq clog sra sll srl src : Two

pub data Task : Type 0 where
  -- B is the long branch
  rtn rtnc rand back long call all fmt : Task
  test : Test → Task
  -- by its low five bits
  move : ℕ → Task
  -- BS, taken if the condition is set, or BR; and the high five of its 13 bits
  branch : Bool → ℕ → Task
  one : One → Width → Task
  fetch case push : Width → Task
  -- with an immediate source or not
  two : Two → Bool → Width → Task
  mul div : Bool → Width → Task
  ex : Width → Task
  coinc : Task

-- an opcode is stopped by 1, 2 or 3, has a task, or starts a sound list
pub data Class : Type 0 where
  stops : Why → Class
  does : Task → Class
  -- with an immediate source or not
  starts : Bool → Width → Class

-- the row at n; past the last one, no such instruction
abbrev pub row : ℕ → List Class → Class
row n [] = stops no_such
row zero (c ∷ cs) = c
row (suc n) (c ∷ cs) = row n cs

-- ">00 RTN, >01 RTNC, >02 RAND, >04 BACK, >05 B, >06 CALL, >07 ALL, >08 FMT, >09 H, >0A GT, >0C CARRY, >0D OVF"; >0B is under 1, >03 and >0F are under 3
abbrev pub low_rows : List Class
low_rows =
    does rtn ∷ does rtnc ∷ does rand ∷ stops needs_host
    ∷ does back ∷ does long ∷ does call ∷ does all
    ∷ does fmt ∷ does (test high) ∷ does (test greater) ∷ stops ended
    ∷ does (test carry) ∷ does (test overflow) ∷ stops no_such ∷ stops needs_host ∷ []

-- 02, item 9: "Opcodes >20 to >25 become MOVE into GROM"; ">26 to >2F still answer 2"
unfoldable pub gram_class : ℕ → Class
gram_class op = pick (ltb op 0x26) (does (move (op % 32))) (stops no_such)

-- ">30 to >3F MOVE"; ">36, >37, >3E, >3F .. answer 2"
unfoldable pub move_class : ℕ → Class
move_class op = pick (bit 2 op also bit 1 op) (stops no_such) (does (move (op % 32)))

-- "One operand: >80 ABS, >82 NEG, >84 INV, >86 CLR, >88 FETCH, >8A CASE, >8C PUSH, >8E CZ, >90 INC, >92 DEC, >94 INCT, >96 DECT."
abbrev pub one_rows : Width → List Class
one_rows w =
    does (one abs w) ∷ does (one neg w) ∷ does (one inv w) ∷ does (one clr w)
    ∷ does (fetch w) ∷ does (case w) ∷ does (push w) ∷ does (one cz w)
    ∷ does (one inc w) ∷ does (one dec w) ∷ does (one inct w) ∷ does (one dect w) ∷ []

-- "Two, destination first, bit 1 meaning immediate source: >A0 ADD, SUB, MUL, DIV, AND, OR, XOR, ST, >C0 EX, >C4 CH, CHE, CGT, CGE, CEQ, CLOG,
-- >DC SRA, SLL, SRL, >E8 SRC, in steps of four. Immediate EX .. answer 2."
-- 02, item 3: COINC at "opcode >ED"; "Other opcodes >EC to >EF still answer 2."
abbrev pub two_rows : Bool → Width → List Class
two_rows imm w =
    does (two add imm w) ∷ does (two sub imm w) ∷ does (mul imm w) ∷ does (div imm w)
    ∷ does (two and imm w) ∷ does (two or imm w) ∷ does (two xor imm w) ∷ does (two st imm w)
    ∷ pick imm (stops no_such) (does (ex w))
    ∷ does (two ch imm w) ∷ does (two che imm w) ∷ does (two cgt imm w) ∷ does (two cge imm w) ∷ does (two ceq imm w) ∷ does (two clog imm w)
    ∷ does (two sra imm w) ∷ does (two sll imm w) ∷ does (two srl imm w) ∷ does (two src imm w)
    ∷ pick imm (stops no_such) (pick w (does coinc) (stops no_such)) ∷ []

-- ">40 to >5F BR; >60 to >7F BS. From >80 on, bit 0 means word." "the rest not named here or under 1 and 3 answer 2".
-- 02, item 10: "Let >F4 to >F7, two operands in 01's way, start a list"
unfoldable pub class_of : ℕ → Class
class_of op =
    pick (ltb op 0x10) (row op low_rows)
    (pick (ltb op 0x20) (stops no_such)
    (pick (ltb op 0x30) (gram_class op)
    (pick (ltb op 0x40) (move_class op)
    (pick (ltb op 0x60) (does (branch false (op % 32)))
    (pick (ltb op 0x80) (does (branch true (op % 32)))
    (pick (ltb op 0xA0) (row ((op - 0x80) / 2) (one_rows (bit 0 op)))
    (pick (ltb op 0xF4) (row ((op - 0xA0) / 4) (two_rows (bit 1 op) (bit 0 op)))
    (pick (ltb op 0xF8) (starts (bit 1 op) (bit 0 op)) (stops no_such)))))))))
