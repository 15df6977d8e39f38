-- What a machine hands back, by the slices that it was lent.
use Rattle.std.proofs.Common.{◌≡◌, List, ℕ}
use Rattle.rules.specs.Machine.{State}
use Rattle.bench.specs.Numbers.{Ticked}
use Rattle.bench.specs.Meaning.{returned, Returned, Tells, Heard, heard}

pub back_as : {A B : Type 0} {say : Returned A → B} {f : State → B} {s : State} {r : A} {i p v g j i₁ p₁ v₁ g₁ j₁ : List ℕ}
    → Tells say f s (returned i p v g j r) → i₁ ≡ i → p₁ ≡ p → v₁ ≡ v → g₁ ≡ g → j₁ ≡ j → Tells say f s (returned i₁ p₁ v₁ g₁ j₁ r)
back_as t a b c d e = rw (a, b, c, d, e) t

-- and an output
pub heard_as : {f : State → Heard} {s : State} {r : Ticked} {o i p v g j o₁ i₁ p₁ v₁ g₁ j₁ : List ℕ}
    → Tells (heard o) f s (returned i p v g j r) → o₁ ≡ o → i₁ ≡ i → p₁ ≡ p → v₁ ≡ v → g₁ ≡ g → j₁ ≡ j → Tells (heard o₁) f s (returned i₁ p₁ v₁ g₁ j₁ r)
heard_as {r = r} t w a b c d e = rw (w, a, b, c, d, e) t
