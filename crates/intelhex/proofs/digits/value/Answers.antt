-- A small letter is read as its capital.
use Rattle.intelhex.specs.Records.{value}
use Rattle.intelhex.proofs.digits.value.Goals as goal

pub returns : goal.returns
unfolding value
returns c = rw c.capital.ensures at c.digit.ensures
