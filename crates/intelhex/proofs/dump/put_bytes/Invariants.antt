-- The invariant: the bytes that are left, laid over the rest, give the whole.
use Rattle.std.proofs.Common.{◌≡◌, ◌+◌}
use Rattle.std.specs.Iterator.Adapters.{enumerate_source, enumerate_count}
use Rattle.std.specs.Slice.Iter.{chunks_exact_rest, chunks_exact_size}
use Rattle.lines.specs.Digits.{laid}
use Rattle.intelhex.specs.Records.{pairs}
use Rattle.intelhex.proofs.dump.put_bytes.Given as goal

abbrev pub invariant-loop-i : goal.invariant-loop-i
invariant-loop-i l =
    let rest = enumerate_source l.i-iterator in
    (laid l.initial.image l.first (pairs l.bytes.digits.now) ≡ laid l.image (l.first + enumerate_count l.i-iterator) (pairs (chunks_exact_rest rest)))
    × (chunks_exact_size rest ≡ 2)
