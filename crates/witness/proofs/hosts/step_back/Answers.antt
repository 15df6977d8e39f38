-- By what the call ensures.
use Rattle.witness.proofs.Heard.{back_heard}
use Rattle.witness.proofs.hosts.step_back.Goals as goal

pub returns : goal.returns
returns c = λ _. back_heard _ _ (c.argolythe_step_back.ensures.1 _)
