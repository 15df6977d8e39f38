-- What `wrapped` ensures.
use Rattle.rules.specs.Arithmetic.{sum}
use Rattle.number.proofs.sums.sum.Goals as goal

pub returns : goal.returns
unfolding sum
returns c = c.wrapped.ensures
