-- The invariant: what is left to drop now comes to what was to drop, the lengths are as they were, and so many words more may go.
use Rattle.std.proofs.Common.{◌≡◌, true, ◌-◌, ◌≤◌, length, take}
use Rattle.rules.specs.Machine.{Mem}
use Rattle.rules.specs.Journal.{turned, until_mark, forget}
use Rattle.ring.specs.Meaning.{booked}
use Rattle.ring.proofs.book.forget_unmarked.Given as goal

abbrev pub invariant-loop : goal.invariant-loop
invariant-loop l =
    ((x : Mem) → forget (until_mark (take (l.most - l.counter) (turned l.c.ring l.c.place l.journal))) (booked l.journal l.c x)
    ≡ forget (until_mark (take l.most (turned l.initial.c.ring l.initial.c.place l.initial.journal))) (booked l.initial.journal l.initial.c x))
    × (length l.journal ≡ length l.initial.journal) × (l.most - l.counter ≤ length l.journal) × (l.c.ring ≡ true)
    × (l.most - l.counter ≤ l.c.used) × (l.most - l.counter ≤ l.c.older)
