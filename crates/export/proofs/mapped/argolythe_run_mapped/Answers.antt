-- The run of `bench` with its map, the report told in numbers.
use Rattle.bench.specs.Numbers.{of_report}
use Rattle.export.proofs.Chosen.{of_mapped}
use Rattle.export.proofs.Numbers.{flag_told, heard_report}
use Rattle.export.proofs.mapped.argolythe_run_mapped.Goals as goal

pub returns : goal.returns
returns c = (
  (
    flag_told c.run_mapped-r.result.at.source c.tell.ensures,
    λ _. heard_report _ (of_report c.run_mapped-r.result) c.number.ensures c.address.ensures (of_mapped _ _ (c.run_mapped-r.ensures.0 _)) c.tell.ensures (c.run_mapped-r.ensures.0 _),
  ),
  λ _. c.run_mapped-r.ensures.1 _,
)
