-- A run of one step.
use Rattle.export.proofs.Numbers.{heard_once}
use Rattle.export.proofs.argolythe_step.Goals as goal

pub returns : goal.returns
returns c = (c.argolythe_run.ensures.0, λ _. heard_once _ _ (c.argolythe_run.ensures.1 _))
