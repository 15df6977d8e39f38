-- By what the call ensures.
use Rattle.witness.proofs.hosts.view.Goals as goal

pub returns : goal.returns
returns c = c.argolythe_view.ensures.bytes
