-- The invariant: what is found among all words is what is found below, with the words passed above it.
use Rattle.std.proofs.Common.{◌≡◌, ◌-◌}
use Rattle.rules.specs.Machine.{area_of}
use Rattle.rules.specs.Journal.{turned}
use Rattle.rules.specs.Calls.{scan}
use Rattle.machine.proofs.Words.{higher}
use Rattle.machine.proofs.journal.find.Given as goal

abbrev pub invariant-loop-top : goal.invariant-loop-top
invariant-loop-top l =
    scan (area_of l.size l.groups) l.b.used (turned l.b.ring l.b.place l.journal)
    ≡ higher (l.b.used - l.top) (scan (area_of l.size l.groups) l.top (turned l.b.ring l.b.place l.journal))
