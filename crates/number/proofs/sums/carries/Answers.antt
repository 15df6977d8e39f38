-- The test, at what `all` ensures.
use Rattle.rules.specs.Arithmetic.{carries}
use Rattle.number.proofs.sums.carries.Goals as goal

pub returns : goal.returns
unfolding carries
returns c = simp c.all.ensures.0
