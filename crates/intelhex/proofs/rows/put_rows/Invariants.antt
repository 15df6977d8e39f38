-- The invariant: the rows of the bytes that are left, put now, give the whole; each has room.
use Rattle.std.proofs.Common.{◌≡◌, ◌+◌, ◌*◌, ◌/◌, ◌≤◌, length}
use Rattle.std.specs.Iterator.Adapters.{enumerate_source, enumerate_count}
use Rattle.std.specs.Slice.Iter.{chunks_exact_rest, chunks_exact_size}
use Rattle.lines.proofs.Printing.{Owes}
use Rattle.intelhex.specs.Dump.{rows}
use Rattle.intelhex.proofs.rows.put_rows.Given as goal

abbrev pub invariant-loop-k : goal.invariant-loop-k
invariant-loop-k l =
    let rest = chunks_exact_rest (enumerate_source l.k-iterator) in
    let k = enumerate_count l.k-iterator in
    Owes l.initial.out 0 (rows (length l.image / 16) 0 l.image) (rows (length rest / 16) (k * 16) rest) l.out l.past
    × (chunks_exact_size (enumerate_source l.k-iterator) ≡ 16) × (k * 16 + length rest ≡ length l.image) × (l.past ≤ k * 44)
