-- The step back of `bench`, its reply told in numbers.
use Rattle.bench.specs.Numbers.{of_reply}
use Rattle.export.proofs.Chosen.{of_back}
use Rattle.export.proofs.Numbers.{flag_told, heard_reply}
use Rattle.export.proofs.argolythe_step_back.Goals as goal

pub returns : goal.returns
returns c = (
  flag_told c.step_back-r.result.at.source c.tell.ensures,
  λ _. heard_reply _ (of_reply c.step_back-r.result) c.number-answer.ensures c.address.ensures (of_back (c.step_back-r.ensures _)) c.tell.ensures c.steps_of.ensures (c.step_back-r.ensures _),
)
