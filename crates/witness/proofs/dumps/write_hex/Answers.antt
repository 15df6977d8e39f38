-- By what the call ensures.
use Rattle.witness.proofs.dumps.write_hex.Goals as goal

pub returns : goal.returns
returns c = (c.argolythe_write_hex.ensures.says, c.argolythe_write_hex.ensures.leaves)
