-- Below 0, or not above the limit.
use Rattle.std.proofs.Common.{◌≡◌, pos, true, false, sym, ap, ◌∙◌}
use Rattle.std.specs.Int.Signed.{le_z}
use Rattle.rules.specs.Machine.{◌also◌}
use Rattle.rules.specs.Coincidence.{inside}
use Rattle.number.proofs.Signed.{held, held_byte}
use Rattle.number.proofs.coincidence.inside.Goals as goal

pub returns-then-sum-ge0 : goal.returns-then-sum-ge0
unfolding inside ◌also◌
returns-then-sum-ge0 c =
    let e = held c.ranges.sum in
    let f : le_z (pos 0) c.args.sum ≡ true = ap (le_z (pos 0)) (sym e) ∙ c.if-sum-ge0.true in
    rw (held_byte c.args.limit c.ranges.limit.fits, e, f)

pub returns-else-sum-ge0 : goal.returns-else-sum-ge0
unfolding inside ◌also◌
returns-else-sum-ge0 c =
    let e = held c.ranges.sum in
    let f : le_z (pos 0) c.args.sum ≡ false = ap (le_z (pos 0)) (sym e) ∙ c.if-sum-ge0.false in
    rw (e, f)
