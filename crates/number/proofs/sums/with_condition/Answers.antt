-- The sum, at what `flag` ensures.
use Rattle.rules.specs.Arithmetic.{with_condition}
use Rattle.number.proofs.sums.with_condition.Goals as goal

pub returns : goal.returns
unfolding with_condition
returns c = simp c.flag.ensures.0
