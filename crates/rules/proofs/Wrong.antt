-- The wrong programs that 01 names, each shut out by a demand as it is stated: no such program meets the record.
use mathlib.Core.Path.{◌≡◌, ◌∙◌, sym, subst}
use mathlib.Core.Bool.{true, false}
use mathlib.Core.List.{[]}
use Prim.Native.Nat.{ℕ}
use native.Mathlib.Omega.{arith}
use Rattle.rules.specs.Machine.{◌also◌, Mem, mem, State, state}
use Rattle.rules.specs.Answers.{Answer, saying}
use Rattle.rules.specs.Rules.{Out, got, stopped}
use Rattle.rules.specs.Sound.{Source}
use Rattle.rules.specs.Calls.{Way, image_fits, fits, attempt}
use Rattle.rules.specs.Demands.{Cause, unfit, stops, Demand1, Demand2, Past, Demand3}
use Rattle.rules.proofs.Tests.{false_true}
use Rattle.rules.proofs.Forget.{drops_plain}

-- ---- demand 1

abbrev Going : Out Source → Type 0
Going (got a pc m) = Unit {0}
Going (stopped n m) = ⊥

-- refusing everything: what the rules accept is refused with no answer at all
pub refuses_everything : {w : Way} {s t : State} {a : Answer} {v : Source} {pc : ℕ} {m : Mem} → fits s.mem ≡ true → attempt w s ≡ got v pc m → Demand1 w s a t → ⊥
refuses_everything {w} {s} f e d = go d.cause
  where
    go : {a : Answer} → Cause w s a → ⊥
    go (unfit u) = false_true (sym u ∙ f)
    go (stops _ k) = subst Going (sym e ∙ k) tt

-- one fixed answer, 2: a machine without an image is to be refused with 11
nowhere : State
nowhere = state 0 false (mem [] 0 [] [] [] [] 0 0 0 false)

pub answers_2 : (w : Way) (a : ℕ) → ((s : State) → Demand1 w s (saying 2 a) s) → ⊥
unfolding nowhere image_fits ◌also◌
answers_2 w a d = go (d nowhere).cause
  where
    go : Cause w nowhere (saying 2 a) → ⊥
    go (stops f _) = false_true f

-- ---- demand 2

-- doing nothing: an accepted step has laid at least its mark, and where steps are not dropped the journal has grown by it
pub does_nothing : {w : Way} {s : State} {n : ℕ} → s.mem.ring ≡ false → Demand2 w s s n → ⊥
does_nothing e d = omega (arith, d.used, drops_plain e d.drops)

-- an invented store count: there is one only
pub one_count : {w : Way} {s t : State} {n k : ℕ} → Demand2 w s t n → Demand2 w s t k → n ≡ k
one_count d e = d.count ∙ sym e.count

-- ---- demand 3

-- a journal of made-up size: there is one only
pub one_size : {s₀ s t : State} {h : Past} → Demand3 s₀ h s → Demand3 s₀ h t → s.mem.used ≡ t.mem.used
one_size d e = d.used ∙ sym e.used
