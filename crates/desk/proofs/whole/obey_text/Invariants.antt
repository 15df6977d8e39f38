-- Some text was printed from the first place to this one. Each turn prints more, up to the one that prints nothing.
use Rattle.std.proofs.Common.{◌-◌, true, length}
use Rattle.desk.specs.Meaning.{Said, Between}
use Rattle.desk.proofs.whole.obey_text.Given as goal

abbrev pub invariant-loop-count : goal.invariant-loop-count
invariant-loop-count g l =
    Between (λ x y. Said l.ended x true y) l.text l.initial.place l.initial.machine l.place l.machine

abbrev pub decreases-loop-count : goal.decreases-loop-count
decreases-loop-count g l = length l.text - l.place.from
