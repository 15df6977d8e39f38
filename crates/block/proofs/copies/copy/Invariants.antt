-- The turns from the k-th on, made now, are what is left of all of them.
use Rattle.std.proofs.Common.{◌≡◌, ◌+◌, ◌-◌, length}
use Rattle.block.specs.Meaning.{screen, stored, outside}
use Rattle.block.proofs.copies.copy.Given as goal

abbrev pub invariant-loop-k : goal.invariant-loop-k
invariant-loop-k l =
    (stored l.n 0 (outside l.from l.a) l.t (screen l.fn.vram l.fn.journal l.used)
    ≡ stored (l.n - l.k) l.k (outside l.from l.a) l.t (screen l.vram l.journal (l.used + l.k)))
    × (length l.journal ≡ length l.fn.journal)
