-- The invariant: the sum so far, and that of the rest, give the whole.
use Rattle.std.proofs.Common.{◌≡◌, ◌+◌, ◌%◌}
use Rattle.std.specs.Slice.Iter.{chunks_exact_rest, chunks_exact_size}
use Rattle.intelhex.specs.Records.{pairs, total}
use Rattle.intelhex.proofs.digits.sum.Given as goal

abbrev pub invariant-loop-digits : goal.invariant-loop-digits
invariant-loop-digits l =
    (total (pairs l.s) % 256 ≡ (l.t + total (pairs (chunks_exact_rest l.digits-iterator))) % 256) × (chunks_exact_size l.digits-iterator ≡ 2)
