-- Each turn takes a field.
use Rattle.std.proofs.Common.{length}
use Rattle.table.proofs.cases.obey_fields.Given as goal

abbrev pub decreases-loop-field : goal.decreases-loop-field
decreases-loop-field l = length l.rest
