-- By what the call ensures.
use Rattle.witness.proofs.Heard.{tick_heard}
use Rattle.witness.proofs.hosts.tick.Goals as goal

pub returns : goal.returns
returns c = λ _. tick_heard _ _ (c.argolythe_tick.ensures.1 _)
