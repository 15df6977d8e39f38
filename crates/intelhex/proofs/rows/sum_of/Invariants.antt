-- The invariant: the sum so far, and that of the rest, give the whole.
use Rattle.std.proofs.Common.{◌≡◌, ◌+◌, ◌%◌, drop}
use Rattle.intelhex.specs.Records.{total}
use Rattle.intelhex.proofs.rows.sum_of.Given as goal

abbrev pub invariant-loop-b : goal.invariant-loop-b
invariant-loop-b l = total l.bytes % 256 ≡ (l.t + total (drop l.b-index l.bytes)) % 256
