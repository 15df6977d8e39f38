-- By what the call ensures.
use Rattle.witness.proofs.Heard.{run_heard}
use Rattle.witness.proofs.hosts.run.Goals as goal

pub returns : goal.returns
returns c = λ _. run_heard _ _ _ (c.argolythe_run.ensures.1 _)
