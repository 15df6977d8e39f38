-- By what two digits say.
use Rattle.lines.specs.Digits.{byte_of}
use Rattle.intelhex.specs.Records.{value}
use Rattle.intelhex.specs.Records as format
use Rattle.intelhex.proofs.digits.pair.Goals as goal

pub returns : goal.returns
unfolding byte_of value format.pair
returns c = rw (c.capital.ensures, c.capital-2.ensures) at c.byte_of.ensures
