-- The invariant: of the whole, so many turns are left.
use Rattle.std.proofs.Common.{◌≡◌, ◌-◌}
use Rattle.rules.specs.Format.{show_times}
use Rattle.machine.specs.Meaning.{run, state, kept}
use Rattle.format.proofs.text.show_times.Given as goal

abbrev pub invariant-loop : goal.invariant-loop
invariant-loop l = (run (show_times l.n l.step l.b) (state l.fn.m) ≡ run (show_times (l.n - l.counter) l.step l.b) (state l.m)) × (kept l.m ≡ kept l.fn.m)
