-- The invariant: the words so far are sound, and the trail is what they say of the cell.
use Rattle.std.proofs.Common.{◌≡◌, true, ◌≤◌, take}
use Rattle.rules.specs.Machine.{area_of}
use Rattle.rules.specs.Journal.{turned}
use Rattle.machine.specs.Meaning.{kind_of}
use Rattle.culprit.specs.Culprit.{nobody, trail, follow, all_sound}
use Rattle.culprit.specs.Meaning.{trail_of, after_of}
use Rattle.culprit.proofs.trail.trace.Given as goal

abbrev pub invariant-loop-u : goal.invariant-loop-u
invariant-loop-u l =
    (trail_of l.t ≡ follow (kind_of l.which) l.at (take l.u (turned l.b.ring l.b.place l.journal)) (trail 0 nobody))
    × (all_sound (area_of l.size l.groups) (take l.u (turned l.b.ring l.b.place l.journal)) ≡ true) × (after_of l.t ≤ l.u)
