-- The invariant: of the whole, so many turns are left.
use Rattle.std.proofs.Common.{◌≡◌, ◌-◌}
use Rattle.rules.specs.Format.{text}
use Rattle.machine.specs.Meaning.{run, state, kept}
use Rattle.format.proofs.text.text.Given as goal

abbrev pub invariant-loop : goal.invariant-loop
invariant-loop l = (run (text l.n l.step l.bias) (state l.fn.m) ≡ run (text (l.n - l.counter) l.step l.bias) (state l.m)) × (kept l.m ≡ kept l.fn.m)
