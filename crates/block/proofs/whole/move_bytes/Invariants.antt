-- The bytes from the k-th on, moved now, are what is left of all of them.
use Rattle.std.proofs.Common.{◌≡◌, ◌-◌}
use Rattle.rules.specs.Instructions.{move_bytes}
use Rattle.machine.specs.Meaning.{state, run, kept}
use Rattle.block.specs.Meaning.{end_of}
use Rattle.block.proofs.whole.move_bytes.Given as goal

abbrev pub invariant-loop-k : goal.invariant-loop-k
invariant-loop-k l =
    (run (move_bytes l.n 0 (end_of l.from) (end_of l.to)) (state l.fn.m) ≡ run (move_bytes (l.n - l.k) l.k (end_of l.from) (end_of l.to)) (state l.m))
    × (kept l.m ≡ kept l.fn.m)
