-- The invariant: the run is under way, and the parts keep their lengths.
use Rattle.std.proofs.Common.{◌≡◌, ◌-◌, length}
use Rattle.rules.specs.Reads.{run_reads}
use Rattle.bench.specs.Meaning.{state_at, marking}
use Rattle.bench.proofs.Ahead.{Underway}
use Rattle.bench.proofs.runs.fit_run.Given as goal

abbrev pub invariant-loop-done : goal.invariant-loop-done
invariant-loop-done l =
    Underway l.n (state_at l.initial.image l.initial.pad l.initial.vram l.initial.regs l.initial.journal l.initial.here) l.done l.stores (state_at l.image l.pad l.vram l.regs l.journal l.here)
    × (marking (run_reads (l.n - l.done)) l.map (state_at l.image l.pad l.vram l.regs l.journal l.here) ≡ marking (run_reads l.n) l.initial.map (state_at l.initial.image l.initial.pad l.initial.vram l.initial.regs l.initial.journal l.initial.here))
    × (length l.journal ≡ length l.initial.journal)
