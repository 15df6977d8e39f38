-- By what the call ensures.
use Rattle.witness.proofs.Heard.{step_heard}
use Rattle.witness.proofs.hosts.step.Goals as goal

pub returns : goal.returns
returns c = λ _. step_heard _ _ (c.argolythe_step.ensures.1 _)
