-- What is not judged is a part of one line, shorter than its buffer.
use Rattle.std.proofs.Common.{◌≤◌, length}
use Rattle.desk.specs.Desk.{longest}
use Rattle.table.proofs.whole.judge_input.Given as goal

abbrev pub invariant-loop : goal.invariant-loop
invariant-loop g l = length l.pending ≤ longest
