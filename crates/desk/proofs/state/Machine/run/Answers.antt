-- The bench's report is the rules'.
use Rattle.std.proofs.Common.{refl}
use Rattle.desk.proofs.state.Machine.run.Goals as goal

pub returns : goal.returns
returns c = record { is = (c.run-report.ensures _).is; at = refl }
