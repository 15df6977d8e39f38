-- Row by row: what is left to print is kept.
use Rattle.std.proofs.Common.{◌≡◌, ◌+◌, ◌*◌, ◌/◌, ◌≤◌, length}
use Rattle.std.specs.Iterator.Adapters.{enumerate_source, enumerate_count}
use Rattle.std.specs.Slice.Iter.{chunks_exact_rest, chunks_exact_size}
use Rattle.lines.proofs.Printing.{Owes}
use Rattle.rig.specs.Rig.{grom_lines}
use Rattle.rig.proofs.show.put_image.Given as goal

abbrev pub invariant-loop-k : goal.invariant-loop-k
invariant-loop-k l =
    let rest = chunks_exact_rest (enumerate_source l.k-iterator) in
    let k = enumerate_count l.k-iterator in
    Owes l.initial.out 0 (grom_lines 2048 0 l.image) (grom_lines (length rest / 16) (k * 16) rest) l.out l.past
    × (chunks_exact_size (enumerate_source l.k-iterator) ≡ 16) × (k * 16 + length rest ≡ 32768) × (l.past ≤ k * 43)
