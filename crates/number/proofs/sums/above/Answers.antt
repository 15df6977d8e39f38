-- The test, at the two ranks.
use Rattle.rules.specs.Arithmetic.{above}
use Rattle.number.proofs.sums.above.Goals as goal

pub returns : goal.returns
unfolding above
returns c = simp (c.rank.ensures, c.rank-2.ensures)
