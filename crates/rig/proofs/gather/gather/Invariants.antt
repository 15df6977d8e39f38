-- Line by line: what is left to do is kept.
use Rattle.std.proofs.Common.{◌+◌, ◌≤◌, length}
use Rattle.rig.proofs.Gathering.{Left}
use Rattle.rig.proofs.gather.gather.Given as goal

abbrev pub invariant-loop-line : goal.invariant-loop-line
invariant-loop-line l = Left l.text l.initial.image l.image l.number l.left × (l.number + length l.left ≤ length l.text)

abbrev pub decreases-loop-line : goal.decreases-loop-line
decreases-loop-line l = length l.left
