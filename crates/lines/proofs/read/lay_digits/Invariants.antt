-- The invariant: the bytes that are left, laid over the rest, give the whole.
use Rattle.std.proofs.Common.{◌≡◌, ◌+◌, ◌/◌, ◌≤◌, length}
use Rattle.std.specs.Iterator.Adapters.{enumerate_source, enumerate_count}
use Rattle.std.specs.Slice.Iter.{chunks_exact_rest, chunks_exact_size}
use Rattle.lines.specs.Digits.{laid, bytes}
use Rattle.lines.proofs.read.lay_digits.Given as goal

abbrev pub invariant-loop-i : goal.invariant-loop-i
invariant-loop-i l =
    let pairs = enumerate_source l.i-iterator in
    let at = l.first + enumerate_count l.i-iterator in
    (laid l.initial.part l.first (bytes l.digits) ≡ laid l.part at (bytes (chunks_exact_rest pairs))) × (chunks_exact_size pairs ≡ 2)
    × (at + length (chunks_exact_rest pairs) / 2 ≤ length l.part)
