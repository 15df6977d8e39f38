-- By what the call ensures.
use Rattle.witness.proofs.Borne.{step_bears}
use Rattle.witness.proofs.step.Goals as goal

pub returns : goal.returns
returns c = λ _. step_bears _ (c.step.ensures _)
