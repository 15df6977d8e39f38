-- The invariant: so many words of the whole are put back, and the journal is as long as it was.
use Rattle.std.proofs.Common.{◌≡◌, ◌≤◌, length}
use Rattle.rules.specs.Journal.{undo}
use Rattle.machine.specs.Meaning.{◌&◌, image_from, pad_from, vram_from, regs_from, journal_from, Became}
use Rattle.machine.proofs.journal.undo.Given as goal

abbrev pub invariant-loop : goal.invariant-loop
invariant-loop l =
    Became (undo l.counter) (image_from l.initial.image l.image & pad_from l.initial.pad l.pad & vram_from l.initial.vram l.vram & regs_from l.initial.regs l.regs & journal_from l.initial.journal l.journal) l.initial.b l.b
    × (length l.journal ≡ length l.initial.journal) × (l.b.used ≤ length l.journal)
