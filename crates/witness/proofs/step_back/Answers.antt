-- By what the call ensures.
use Rattle.witness.proofs.Borne.{back_bears}
use Rattle.witness.proofs.step_back.Goals as goal

pub returns : goal.returns
returns c = λ _. back_bears (c.step_back.ensures _)
