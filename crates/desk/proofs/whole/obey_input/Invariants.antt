-- Some input was read and some text printed, and what is not obeyed is a part of one line, shorter than its buffer.
use Rattle.std.proofs.Common.{◌+◌, ◌-◌, ◌*◌, ◌≤◌, length}
use Rattle.desk.specs.Desk.{longest}
use Rattle.desk.specs.Meaning.{point, state_of}
use Rattle.desk.specs.Promised.{Midway}
use Rattle.desk.proofs.whole.obey_input.Given as goal

abbrev pub invariant-loop-place : goal.invariant-loop-place
invariant-loop-place g l = (length l.pending ≤ longest) × Midway (point l.place.number l.pending (state_of l.machine))

abbrev pub decreases-loop-place : goal.decreases-loop-place
decreases-loop-place g l = (18446744073709486068 - l.place.number) * 65548 + (65547 - length l.pending)
