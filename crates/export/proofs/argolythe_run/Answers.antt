-- The run of `bench`, its report told in numbers.
use Rattle.bench.specs.Numbers.{of_report}
use Rattle.export.proofs.Chosen.{of_run}
use Rattle.export.proofs.Numbers.{flag_told, heard_report}
use Rattle.export.proofs.argolythe_run.Goals as goal

pub returns : goal.returns
returns c = (flag_told c.run-r.result.at.source c.tell.ensures, λ _. heard_report _ (of_report c.run-r.result) c.number.ensures c.address.ensures (of_run _ (c.run-r.ensures _)) c.tell.ensures (c.run-r.ensures _))
