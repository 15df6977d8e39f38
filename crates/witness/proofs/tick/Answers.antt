-- By what the call ensures.
use Rattle.witness.proofs.Borne.{ticked_bears}
use Rattle.witness.proofs.tick.Goals as goal

pub returns : goal.returns
returns c = λ _. ticked_bears _ (c.tick.ensures _)
