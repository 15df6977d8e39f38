-- What the 32 bits lose the 16 bits lose too.
use Rattle.rules.specs.Arithmetic.{leftward}
use Rattle.std.proofs.Math.Pow.{mod-mod-pow}
use Rattle.number.proofs.shifts.leftward.Goals as goal

pub returns : goal.returns
unfolding leftward
returns c = mod-mod-pow _ 16 16
