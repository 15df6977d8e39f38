-- The invariant: the cells that are left, put now, give the whole; each has room for its line.
use Rattle.std.proofs.Common.{◌≡◌, ◌+◌, ◌*◌, ◌≤◌, length}
use Rattle.std.specs.Iterator.Adapters.{enumerate_source, enumerate_count, zip_first, zip_second}
use Rattle.std.specs.Slice.Iter.{iter_rest}
use Rattle.lines.specs.Shown.{changed}
use Rattle.lines.specs.Meaning.{part_of}
use Rattle.lines.proofs.Printing.{Owes}
use Rattle.lines.proofs.print.put_changed.Given as goal

abbrev pub invariant-loop-i : goal.invariant-loop-i
invariant-loop-i l =
    let was = iter_rest (zip_first (enumerate_source l.i-iterator)) in
    let is = iter_rest (zip_second (enumerate_source l.i-iterator)) in
    let cell = enumerate_count l.i-iterator in
    Owes l.initial.out l.from (changed (part_of l.part) 0 l.was l.is) (changed (part_of l.part) cell was is) l.out l.past
    × (cell + length is ≡ length l.is) × (l.past ≤ l.from + 13 * cell)
