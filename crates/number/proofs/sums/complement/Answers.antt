-- What `wrapped` ensures, at what `all` ensures.
use Rattle.rules.specs.Arithmetic.{complement}
use Rattle.number.proofs.sums.complement.Goals as goal

pub returns : goal.returns
unfolding complement
returns c = simp (c.wrapped.ensures, c.all.ensures.0)
