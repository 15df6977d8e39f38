-- The difference, at what `all` ensures.
use Rattle.rules.specs.Arithmetic.{inverse}
use Rattle.number.proofs.sums.inverse.Goals as goal

pub returns : goal.returns
unfolding inverse
returns c = simp c.all-last.ensures.0
