-- The 256 opcodes by one computed test: those that 1, 2 and 3 stop are exactly 01's lists, and every other has a rule. The table's numbers by another: 1 to 8, 10 to 13, 23, 24, 26.
use mathlib.Core.Path.{◌≡◌, refl, ◌∙◌, ap, sym}
use mathlib.Core.Bool.{Bool, true, false}
use mathlib.Core.List.{List, [], ◌∷◌, ◌++◌}
use Prim.Native.Nat.{ℕ, zero, suc, ◌<◌}
use native.Mathlib.Omega.{arith}
use native.Mathlib.Decide.{ℕ_discrete}
use lib.Dec.{eqb}
use borrow.Author.Tests.{eqb-true}
use Rattle.rules.specs.Machine.{pick, ◌also◌, bit}
use Rattle.rules.specs.Answers.{Why, ended, no_such, needs_host, off_cpu, off_vdp, off_grom, off_stack, too_long, no_room, wrong_length, no_record, off_register, too_coarse, read_only, output_full, number}
use Rattle.rules.specs.Opcodes.{Class, stops, does, starts, class_of, gram_class, move_class}
use Rattle.rules.proofs.Tests.{false_true}
use Rattle.rules.proofs.Tests.{both}

-- ---- 01's lists

-- "ended: opcode >0B (EXIT)"
pub ending : List ℕ
ending = 0x0B ∷ []

-- "needs the host: >03, >0F"; 02, item 10, takes >F4 to >F7 from them
pub hosts : List ℕ
hosts = 0x03 ∷ 0x0F ∷ []

-- n opcodes from one on
pub from : ℕ → ℕ → List ℕ
from a zero = []
from a (suc n) = a ∷ from (suc a) n

-- those that 01 names as instructions: >00 to >0D but those above, MOVE but >36, >37, >3E, >3F, BR and BS, those of one operand, those of two but immediate EX;
-- and of 02 COINC, MOVE into GROM and the start of a sound list
pub instructions : List ℕ
instructions =
    from 0x00 3 ++ from 0x04 7 ++ from 0x0C 2
    ++ from 0x20 6 ++ from 0x30 6 ++ from 0x38 6
    ++ from 0x40 32 ++ from 0x60 32
    ++ from 0x80 24
    ++ from 0xA0 34 ++ from 0xC4 40 ++ from 0xED 1 ++ from 0xF4 4

pub among : ℕ → List ℕ → Bool
among op [] = false
among op (x ∷ xs) = pick (eqb op x) true (among op xs)

-- the answer before the mark that 01's lists give an opcode, or 0 where it has a rule
unfoldable pub listed : ℕ → ℕ
listed op = pick (among op instructions) 0 (pick (among op ending) 1 (pick (among op hosts) 3 2))

-- and that its class gives it
unfoldable pub verdict : Class → ℕ
verdict (stops why) = number why
verdict (does t) = 0
verdict (starts imm w) = 0

-- ---- the test, and what it says of each opcode

-- a test holds of every number below n
below : ℕ → (ℕ → Bool) → Bool
below zero p = true
below (suc n) p = p n also below n p

below_at : (n : ℕ) (p : ℕ → Bool) → below n p ≡ true → (k : ℕ) → k < n → p k ≡ true
unfolding below
below_at zero p h k l = absurd (omega arith)
below_at (suc n) p h k l = go (ℕ_discrete k n) (λ x. below_at n p (both h).1 k x)
  where
    go : Dec (k ≡ n) → (k < n → p k ≡ true) → p k ≡ true
    go (yes e) f = ap p e ∙ (both h).0
    go (no ne) f = f (omega arith)

right : ℕ → Bool
right op = eqb (verdict (class_of op)) (listed op)

all_right : below 256 right ≡ true
unfolding below right verdict class_of gram_class move_class listed among instructions ending hosts from ◌also◌ bit
all_right = refl

pub opcodes_listed : (op : ℕ) → op < 256 → verdict (class_of op) ≡ listed op
unfolding right
opcodes_listed op h = eqb-true _ _ (below_at 256 right all_right op h)

-- ---- the numbers of the table

numbers : List ℕ
numbers = from 1 8 ++ from 10 4 ++ from 23 2 ++ from 26 1

in_table : (why : Why) → among (number why) numbers ≡ true
unfolding among numbers from
in_table ended = refl
in_table no_such = refl
in_table needs_host = refl
in_table (off_cpu a) = refl
in_table (off_vdp a) = refl
in_table (off_grom a) = refl
in_table off_stack = refl
in_table too_long = refl
in_table no_room = refl
in_table wrong_length = refl
in_table no_record = refl
in_table off_register = refl
in_table too_coarse = refl
in_table read_only = refl
in_table output_full = refl

not_in_table : (n : ℕ) → among n numbers ≡ false → (why : Why) → number why ≡ n → ⊥
not_in_table n e why h = false_true (sym e ∙ ap (λ (k : ℕ). among k numbers) (sym h) ∙ in_table why)

-- no rule refuses with 0
pub never_done : (why : Why) → 0 < number why
unfolding among numbers from
never_done why = omega (arith, not_in_table 0 refl why)

-- nor with 9
pub never_9 : (why : Why) → number why ≡ 9 → ⊥
unfolding among numbers from
never_9 = not_in_table 9 refl
