-- Of the image: 1 at its place in the map, which stays as long.
use Rattle.std.proofs.Common.{refl, length-set}
use Rattle.machine.specs.Meaning.{rest_of, kept}
use Rattle.machine.proofs.state.Machine.mark.Goals as goal

pub returns-in-Grom : goal.returns-in-Grom
unfolding rest_of kept
returns-in-Grom c = record { marks = rw (c.in-Grom.is, c.put.ensures) (refl, rw (length-set _ _ _) refl); words = refl }
