-- The count is the rule's.
use Rattle.rules.specs.Arithmetic.{odd_ones}
use Rattle.std.proofs.Common.{rules}
use Rattle.number.proofs.sums.odd_ones.Goals as goal

pub returns : goal.returns
unfolding odd_ones
returns c = search rules
