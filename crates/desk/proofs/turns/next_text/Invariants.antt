-- Nothing was printed from the first place to this one.
use Rattle.std.proofs.Common.{◌-◌, true, [], length}
use Rattle.desk.specs.Meaning.{Tells, Between}
use Rattle.desk.proofs.turns.next_text.Given as goal

abbrev pub invariant-loop-line : goal.invariant-loop-line
invariant-loop-line l =
    Between (λ x y. Tells l.ended x [] true y) l.text l.initial.place l.initial.machine l.place l.machine

abbrev pub decreases-loop-line : goal.decreases-loop-line
decreases-loop-line l = length l.text - l.place.from
