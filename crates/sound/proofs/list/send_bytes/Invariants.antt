-- The bytes that are left, sent now, are what the whole sends; the output stays the one that was lent, and the journal's words stay.
use Rattle.std.proofs.Common.{◌≡◌, ◌-◌, length}
use Rattle.rules.specs.Sound.{send_bytes}
use Rattle.machine.specs.Meaning.{state, kept}
use Rattle.sound.specs.Meaning.{plays, written, Stays}
use Rattle.sound.proofs.list.send_bytes.Given as goal

abbrev pub invariant-loop : goal.invariant-loop
invariant-loop l =
    (plays (send_bytes (length l.fn.output.bytes.now - l.fn.output.sent) l.source l.a l.n) (state l.fn.m) (written l.fn.output)
    ≡ plays (send_bytes (length l.output.bytes.now - l.output.sent) l.source l.at (l.n - l.counter)) (state l.m) (written l.output))
    × (kept l.m ≡ kept l.fn.m) × Stays l.fn.output l.output × (l.m.journal.now ≡ l.fn.m.journal.now)
