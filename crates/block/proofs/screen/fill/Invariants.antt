-- What is left to do, done now, is what the whole does.
use Rattle.std.proofs.Common.{◌+◌, ◌≡◌, ◌-◌}
use Rattle.rules.specs.Instructions.{fill}
use Rattle.machine.specs.Meaning.{state, run, kept}
use Rattle.block.proofs.screen.fill.Given as goal

abbrev pub invariant-loop-k : goal.invariant-loop-k
invariant-loop-k l = (run (fill l.n l.at l.b) (state l.fn.m) ≡ run (fill (l.n - l.k) (l.at + l.k) l.b) (state l.m)) × (kept l.m ≡ kept l.fn.m)
