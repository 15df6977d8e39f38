-- The difference modulo 256, as it stands in the rule.
use Rattle.std.proofs.Common.{◌≡◌, ◌+◌, ◌-◌, ◌%◌, ap, ◌∙◌, arith}
use Rattle.rules.specs.Coincidence.{signed, difference}
use Rattle.number.proofs.Signed.{held}
use Rattle.number.proofs.coincidence.difference.Goals as goal

pub returns : goal.returns
unfolding difference
returns c =
    let around : (c.args.s + (256 - c.args.d)) % 256 ≡ (c.args.s + 256 - c.args.d) % 256 = omega (arith, c.ranges.d) in
    held (record { sfits = c.signed.type_inv }) ∙ c.signed.ensures ∙ ap signed around
