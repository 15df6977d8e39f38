-- The place stays within the lines, and each turn takes one of them.
use Rattle.std.proofs.Common.{◌-◌, ◌≤◌, length}
use Rattle.table.proofs.whole.judge_lines.Given as goal

abbrev pub invariant-loop-line : goal.invariant-loop-line
invariant-loop-line g l = l.at ≤ length l.lines

abbrev pub decreases-loop-line : goal.decreases-loop-line
decreases-loop-line g l = length l.lines - l.at
