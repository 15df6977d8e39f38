-- The invariant: wherever the calls began, no more of the steps are kept than step-backs are left to make.
use Rattle.std.proofs.Common.{◌≡◌, List, ◌-◌, ◌≤◌, length}
use Rattle.rules.specs.Machine.{State}
use Rattle.rules.specs.Calls.{Way}
use Rattle.bench.specs.Meaning.{state_at}
use Rattle.witness.specs.Demanded.{Behind, oldest}
use Rattle.witness.proofs.take_back.Given as goal

abbrev pub invariant-loop : goal.invariant-loop
invariant-loop l =
    ((s₀ : State) (ws : List Way) → length ws ≡ l.n → Behind s₀ ws l.n (state_at l.initial.image l.initial.pad l.initial.vram l.initial.regs l.initial.journal l.initial.here)
    → Behind s₀ (oldest l.steps ws) (l.n - l.counter) (state_at l.image l.pad l.vram l.regs l.journal l.here))
    × (length l.journal ≡ length l.initial.journal)
    × (l.n - l.counter ≤ l.steps) × (l.steps ≤ l.n)
