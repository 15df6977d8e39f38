-- What `status_byte` ensures, at what `above` ensures.
use Rattle.rules.specs.Arithmetic.{compared}
use Rattle.number.proofs.sums.compared.Goals as goal

pub returns : goal.returns
unfolding compared
returns c = simp (c.status_byte.ensures, c.above.ensures)
