-- By what the call ensures.
use Rattle.witness.proofs.dumps.read_hex.Goals as goal

pub returns : goal.returns
returns c = (c.argolythe_read_hex.ensures.says, c.argolythe_read_hex.ensures.leaves)
