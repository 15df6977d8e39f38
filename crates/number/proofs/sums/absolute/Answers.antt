-- By the sign.
use Rattle.std.proofs.Common.{sym, ◌∙◌}
use Rattle.rules.specs.Arithmetic.{absolute}
use Rattle.number.proofs.sums.absolute.Goals as goal

pub returns-then-negative : goal.returns-then-negative
unfolding absolute
returns-then-negative c = rw (sym c.negative.ensures ∙ c.if-negative.true) c.complement.ensures

pub returns : goal.returns
unfolding absolute
returns c = rw (sym c.negative.ensures ∙ c.if-negative.false)
