-- The product wraps, and so does the sum.
use Rattle.rules.specs.Arithmetic.{next_seed}
use Rattle.std.proofs.Common.{arith}
use Rattle.number.proofs.random.next_seed.Goals as goal

pub returns : goal.returns
unfolding next_seed
returns c = omega arith
