-- 02, item 2: an answer's address has 16 bits, is 0 but with 4, 5 and 6, and that of an operand is the first byte out of range. By the table.
use mathlib.Core.Path.{◌≡◌, refl}
use mathlib.Core.Bool.{Bool, true, false}
use mathlib.Core.Logic.{◌⊎◌, inl, inr}
use Prim.Native.Nat.{ℕ, ◌+◌, ◌≤◌, ◌<◌}
use native.Mathlib.Nat.{mod-lt}
use native.Mathlib.Omega.{arith}
use lib.Dec.{ltb, lit<}
use borrow.Author.Tests.{ltb-true, ltb-false, leb-false}
use Rattle.rules.specs.Machine.{pick, reach}
use Rattle.rules.specs.Answers.{Why, ended, no_such, needs_host, off_cpu, off_vdp, off_grom, off_stack, too_long, no_room, wrong_length, no_record, off_register, too_coarse, read_only, output_full}
use Rattle.rules.specs.Answers.{Answer, answer_for}
use Rattle.rules.specs.Operands.{Cell, in_reach, first_out}
use Rattle.rules.specs.Demands.{Listed}

-- an address of 16 bits, with 4, 5 or 6; or none
pub data Placed : Answer → Type 0 where
  somewhere : {a : Answer} → 4 ≤ a.number → a.number ≤ 6 → a.address < 65536 → Placed a
  nowhere : {a : Answer} → a.address ≡ 0 → Placed a

placed_why : (why : Why) → Placed (answer_for why)
placed_why ended = nowhere refl
placed_why no_such = nowhere refl
placed_why needs_host = nowhere refl
placed_why (off_cpu a) = somewhere (lit< tt) (lit< tt) (mod-lt a (lit< tt))
placed_why (off_vdp a) = somewhere (lit< tt) (lit< tt) (mod-lt a (lit< tt))
placed_why (off_grom a) = somewhere (lit< tt) (lit< tt) (mod-lt a (lit< tt))
placed_why off_stack = nowhere refl
placed_why too_long = nowhere refl
placed_why no_room = nowhere refl
placed_why wrong_length = nowhere refl
placed_why no_record = nowhere refl
placed_why off_register = nowhere refl
placed_why too_coarse = nowhere refl
placed_why read_only = nowhere refl
placed_why output_full = nowhere refl

-- of every refusal of a call, which is one of the table's
pub listed_placed : {a : Answer} → Listed a → Placed a
listed_placed l = rw l.is (placed_why l.why)

-- "It is 0 for every other answer"
pub address_none : {a : Answer} → Placed a → (a.number < 4) ⊎ (6 < a.number) → a.address ≡ 0
address_none (somewhere l h b) (inl x) = absurd (omega arith)
address_none (somewhere l h b) (inr x) = absurd (omega arith)
address_none (nowhere e) x = e

pub address_small : {a : Answer} → Placed a → a.address < 65536
address_small (somewhere l h b) = b
address_small (nowhere e) = omega arith

-- "of a word, the first byte out of range": of n bytes from a cell on, a is the first
pub record First (n : ℕ) (c : Cell) (a : ℕ) : Type 0 where
  pub from : c.at ≤ a
  pub to : a < c.at + n
  pub out : reach c.kind ≤ a
  pub first : (b : ℕ) → c.at ≤ b → b < a → b < reach c.kind

pub first_out_lem : (n : ℕ) (c : Cell) → 1 ≤ n → in_reach n c ≡ false → First n c (first_out c)
first_out_lem n c l h = go (ltb c.at (reach c.kind)) refl
  where
    far : reach c.kind < c.at + n
    far = leb-false (c.at + n) (reach c.kind) h

    go : (t : Bool) → ltb c.at (reach c.kind) ≡ t → First n c (pick t (reach c.kind) c.at)
    go true e = record { from = omega (arith, ltb-true c.at (reach c.kind) e); to = far; out = omega arith; first = λ b x y. y }
    go false e = record { from = omega arith; to = omega arith; out = ltb-false c.at (reach c.kind) e; first = λ b x y. absurd (omega arith) }
