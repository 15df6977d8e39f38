-- The invariant: what is left, filled in now, gives the whole.
use Rattle.std.proofs.Common.{◌≡◌}
use Rattle.intelhex.specs.Dump.{filled}
use Rattle.intelhex.specs.Records.{records}
use Rattle.intelhex.proofs.dump.fill.Given as goal

abbrev pub invariant-loop-said : goal.invariant-loop-said
invariant-loop-said l = filled l.initial.image (records l.text) ≡ filled l.image (records l.said-iterator.left.now)
