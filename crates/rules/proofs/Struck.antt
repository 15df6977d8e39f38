-- 02, item 8: "Show that 9 can't be given". Row and column are bytes, so the old test held of every position: with it before screen stores and screen reads a rule
-- does what it does without, by induction on the rule. And no reason of the table has the number 9.
use mathlib.Core.Path.{◌≡◌, refl, ◌∙◌, ap, sym}
use mathlib.Core.Logic.{inl, inr}
use Prim.Native.Nat.{ℕ, ◌+◌, ◌*◌, ◌%◌, ◌<◌}
use native.Mathlib.Omega.{arith}
use lib.Dec.{ltb}
use lib.ListN.{get_or}
use borrow.Author.Tests.{lt-ltb}
use Rattle.rules.specs.Machine.{pick, cpu, vdp, size, Mem, State, ypt, xpt}
use Rattle.rules.specs.Answers.{Answer, saying}
use Rattle.rules.specs.Rules.{Act, Rule, ◌>>=◌, ◌>>◌, Out, got, stopped, then, perform, exec, peek, poke}
use Rattle.rules.specs.Operands.{position, screen_byte, to_screen}
use Rattle.rules.specs.Format.{show, set_cursor, wrap_show}
use Rattle.rules.specs.Demands.{Bytes, Listed, BackCause, wrong_parts, no_record_there}
use Rattle.rules.proofs.Laws.{exec_then}
use Rattle.rules.proofs.Stores.{mem_of}
use Rattle.rules.proofs.Laid.{bytes_act}
use Rattle.rules.proofs.Opcodes.{never_9}
use Rattle.rules.proofs.Named.{Answered}

-- ---- the position

-- "every position is worked out again from them before a store": from the bytes that stand in >7E and >7F
abbrev pub position_of : Mem → ℕ
position_of m = get_or m.pad ypt 0 * 32 + get_or m.pad xpt 0 % 32

position_is : (pc : ℕ) (m : Mem) → exec position pc m ≡ got (position_of m) pc m
unfolding position exec perform ◌>>=◌
position_is pc m = refl

-- "Row and column bytes give a screen position below 8,192"
pub position_below : (m : Mem) → Bytes m → position_of m < 8192
position_below m b = omega (arith, b.0 cpu ypt, b.0 cpu xpt)

-- ---- the old test

-- a rule in which it stands wherever a position is worked out for a screen store or a screen read
pub data Tested (A : Type 0) : Type 0 where
  act : Act → (ℕ → Tested A) → Tested A
  screen : (ℕ → Tested A) → Tested A
  rest : Rule A → Tested A

-- with it: 9, "screen position outside VDP RAM"
unfoldable pub tested : {A : Type 0} → Tested A → ℕ → Mem → Out A
tested (act q k) pc m = then (perform q pc m) (λ v. tested (k v))
tested (screen k) pc m = then (exec position pc m) (λ p pc₁ m₁. pick (ltb p (size vdp)) (tested (k p) pc₁ m₁) (stopped (saying 9 0) m₁))
tested (rest r) pc m = exec r pc m

-- without it
unfoldable pub struck : {A : Type 0} → Tested A → Rule A
struck (act q k) = Rule.act q (λ v. struck (k v))
struck (screen k) = position >>= (λ p. struck (k p))
struck (rest r) = r

module _ {A : Type 0} where
  going_on : {B : Type 0} (o : Out B) (f g : B → ℕ → Mem → Out A) → Bytes (mem_of o)
      → ((v : B) (pc : ℕ) (m : Mem) → Bytes m → f v pc m ≡ g v pc m) → then o f ≡ then o g
  going_on (got v pc m) f g b h = h v pc m b
  going_on (stopped n m) f g b h = refl

  pub test_struck : (t : Tested A) (pc : ℕ) (m : Mem) → Bytes m → tested t pc m ≡ exec (struck t) pc m
  unfolding tested struck exec
  test_struck (act q k) pc m b =
      going_on (perform q pc m) (λ v. tested (k v)) (λ v. exec (struck (k v))) (bytes_act q pc m b) (λ v. test_struck (k v))
  test_struck (screen k) pc m b =
      rw (exec_then position (λ p. struck (k p)) pc m, position_is pc m, lt-ltb (position_of m) 16384 (omega (arith, position_below m b)))
      (test_struck (k (position_of m)) pc m b)
  test_struck (rest r) pc m b = refl

-- so of the rules that had it: the screen byte's read, the screen store of a result, and a character shown
module _ (pc : ℕ) (m : Mem) (b : Bytes m) where
  pub read_struck : tested (screen (λ p. rest (peek vdp p))) pc m ≡ exec screen_byte pc m
  unfolding struck screen_byte
  read_struck = test_struck _ pc m b

  pub store_struck : (x : ℕ) → tested (screen (λ p. rest (poke vdp p x))) pc m ≡ exec (to_screen x) pc m
  unfolding struck to_screen
  store_struck x = test_struck _ pc m b

  pub show_struck : (step x : ℕ) → tested (screen (λ p. rest (poke vdp p x >> set_cursor (wrap_show (p + step))))) pc m ≡ exec (show step x) pc m
  unfolding struck show
  show_struck step x = test_struck _ pc m b

-- ---- no refusal is 9

pub listed_not_9 : {a : Answer} → Listed a → a.number ≡ 9 → ⊥
listed_not_9 l e = never_9 l.why (sym (ap (λ (x : Answer). x.number) l.is) ∙ e)

pub answered_not_9 : {a : Answer} → Answered a → a.number ≡ 9 → ⊥
answered_not_9 (inl z) e = omega (arith, ap (λ (x : Answer). x.number) z)
answered_not_9 (inr l) e = listed_not_9 l e

pub back_not_9 : {s : State} {a : Answer} → BackCause s a → a.number ≡ 9 → ⊥
back_not_9 (wrong_parts f) e = omega arith
back_not_9 (no_record_there f l) e = omega arith
