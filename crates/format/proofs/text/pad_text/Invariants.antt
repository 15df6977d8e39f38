-- The invariant: of the whole, so many turns are left.
use Rattle.std.proofs.Common.{◌≡◌, ◌+◌, ◌-◌}
use Rattle.rules.specs.Format.{pad_text}
use Rattle.machine.specs.Meaning.{run, state, kept}
use Rattle.format.proofs.text.pad_text.Given as goal

abbrev pub invariant-loop-k : goal.invariant-loop-k
invariant-loop-k l = (run (pad_text l.n l.a l.bias) (state l.fn.m) ≡ run (pad_text (l.n - l.k) (l.a + l.k) l.bias) (state l.m)) × (kept l.m ≡ kept l.fn.m)
