-- The slices are left as the machine and the output leave them.
use Rattle.std.proofs.Common.{rules}
use Rattle.machine.specs.Meaning.{kept}
use Rattle.bench.proofs.Lent.{heard_as}
use Rattle.bench.proofs.ticks.tick_arrays.Goals as goal

pub returns : goal.returns
unfolding kept
returns c =
    λ _. heard_as c.tick_machine.ensures.0 (search rules) (search rules) (search rules) (search rules) (search rules) (search rules)
