-- By what the call ensures.
use Rattle.witness.proofs.Blame.{who_bears}
use Rattle.witness.proofs.who.who_wrote.Goals as goal

pub returns : goal.returns
returns c = λ _ l. who_bears _ _ c.who_wrote.ensures l
