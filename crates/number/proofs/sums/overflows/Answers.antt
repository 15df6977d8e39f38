-- The two signs, each against that of the sum.
use Rattle.std.proofs.Common.{◌≡◌, ℕ, Bool, true, false, not, refl, sym, ap, ◌∙◌}
use Rattle.std.proofs.Math.Bool.{beq}
use Rattle.rules.specs.Machine.{◌also◌}
use Rattle.rules.specs.Arithmetic.{differ, negative, sum, overflows}
use Rattle.number.proofs.sums.overflows.Goals as goal

differ_is : (a b : Bool) → differ a b ≡ not (beq a b)
differ_is true true = refl
differ_is true false = refl
differ_is false true = refl
differ_is false false = refl

by_signs : (h a b : ℕ) {x y s : Bool} → x ≡ negative h a → y ≡ negative h b → s ≡ negative h (sum h a b)
    → overflows h a b ≡ (not (beq x s) also not (beq y s))
unfolding overflows
by_signs h a b {x} {y} {s} e f g = rw (sym e, sym f, sym g, differ_is x s, differ_is y s)

pub returns-then-negative-sign : goal.returns-then-negative-sign
unfolding ◌also◌
returns-then-negative-sign c =
    let g = c.negative-sign.ensures ∙ ap (negative _) c.sum.ensures in
    sym (by_signs _ _ _ c.negative.ensures c.negative-then-negative-sign.ensures g ∙ rw c.if-negative-sign.true)

pub returns-else-negative-sign : goal.returns-else-negative-sign
unfolding ◌also◌
returns-else-negative-sign c =
    let g = c.negative-sign.ensures ∙ ap (negative _) c.sum.ensures in
    sym (by_signs _ _ c.args.b c.negative.ensures refl g ∙ rw c.if-negative-sign.false)
