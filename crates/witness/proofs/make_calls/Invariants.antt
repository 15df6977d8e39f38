-- The invariant: calls have led from the start to where the machine is.
use Rattle.std.proofs.Common.{◌≡◌, length}
use Rattle.bench.specs.Meaning.{state_at}
use Rattle.witness.specs.Demanded.{Led}
use Rattle.witness.proofs.make_calls.Given as goal

abbrev pub invariant-loop-n : goal.invariant-loop-n
invariant-loop-n l =
    Led (state_at l.initial.image l.initial.pad l.initial.vram l.initial.regs l.initial.journal l.initial.here) (state_at l.image l.pad l.vram l.regs l.journal l.here)
    × (length l.journal ≡ length l.initial.journal)
