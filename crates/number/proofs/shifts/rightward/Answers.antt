-- A shift to the right is no more than the number.
use Rattle.rules.specs.Arithmetic.{rightward}
use Rattle.std.proofs.Common.{refl}
use Rattle.number.proofs.shifts.rightward.Goals as goal

pub returns : goal.returns
unfolding rightward
returns c = refl
