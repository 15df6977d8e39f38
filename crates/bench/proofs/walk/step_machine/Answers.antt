-- The instruction tried from where the machine stands is the rules' attempt.
use Rattle.std.proofs.Common.{◌∙◌}
use Rattle.rules.specs.Calls.{instruction}
use Rattle.bench.proofs.Beginning.{begun, as_step, map_left}
use Rattle.bench.proofs.walk.step_machine.Goals as goal

pub settle-requires : goal.settle-requires
settle-requires c =
    let a = c.attempt-tried.ensures in begun c.requires instruction _ (as_step c.requires a.0) a.1

pub returns : goal.returns
returns c =
    let a = c.attempt-tried.ensures in
    let e = as_step c.requires a.0 in (
      c.settle.ensures.0 (begun c.requires instruction _ e a.1),
      c.settle.ensures.1 ∙ map_left _ _ _ e,
      c.settle.ensures.2 ∙ a.1,
    )
