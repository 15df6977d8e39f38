-- The slices are left as the machine leaves them.
use Rattle.std.proofs.Common.{rules, ◌∙◌}
use Rattle.machine.specs.Meaning.{kept}
use Rattle.bench.proofs.Lent.{back_as}
use Rattle.bench.proofs.walk.step_arrays.Goals as goal

pub returns : goal.returns
unfolding kept
returns c = (
  λ _. back_as c.step_machine.ensures.0 (search rules) (search rules) (search rules) (search rules) (search rules),
  λ _. (search rules) ∙ c.step_machine.ensures.1,
)
