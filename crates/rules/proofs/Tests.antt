-- What a test tells: that it was denied, or granted, or that two of them hold together.
use mathlib.Core.Path.{◌≡◌, refl, sym, subst}
use mathlib.Core.Bool.{Bool, true, false, not}
use Rattle.rules.specs.Machine.{◌also◌}

abbrev Is : Bool → Type 0
Is true = Unit {0}
Is false = ⊥

pub false_true : false ≡ true → ⊥
false_true h = subst Is (sym h) tt

pub denied : (b : Bool) → not b ≡ true → b ≡ false
denied true h = absurd (false_true h)
denied false h = refl

pub granted : (b : Bool) → not b ≡ false → b ≡ true
granted true h = refl
granted false h = absurd (false_true (sym h))

pub both : {b c : Bool} → (b also c) ≡ true → (b ≡ true) × (c ≡ true)
unfolding ◌also◌
both {b = true} h = (refl, h)
both {b = false} h = absurd (false_true h)

pub together : {b c : Bool} → b ≡ true → c ≡ true → (b also c) ≡ true
unfolding ◌also◌
together {c = c} e f = rw e f
