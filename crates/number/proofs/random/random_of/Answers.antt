-- A rest is below its divisor, which is at most 256.
use Rattle.rules.specs.Arithmetic.{random_of}
use Rattle.std.proofs.Common.{refl}
use Rattle.number.proofs.random.random_of.Goals as goal

pub returns : goal.returns
unfolding random_of
returns c = refl
