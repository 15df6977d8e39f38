-- By what the call ensures.
use Rattle.witness.proofs.Borne.{run_bears}
use Rattle.witness.proofs.run.Goals as goal

pub returns : goal.returns
returns c = λ _. run_bears _ (c.run.ensures _)
