-- By what the call ensures.
use Rattle.witness.proofs.Blame.{who_heard}
use Rattle.witness.proofs.hosts.who_wrote.Goals as goal

pub returns : goal.returns
returns c = λ k q _ _ _ _ g z h. who_heard k _ _ c.argolythe_who_wrote.ensures q g z h
