-- The pieces, one after the other.
use Rattle.lines.specs.Shown.{counts_text}
use Rattle.lines.proofs.Printing.{more}
use Rattle.lines.proofs.print.put_counts.Goals as goal

pub returns : goal.returns
unfolding counts_text
returns c =
    let answer = rw c.from.ensures at c.put_decimal-b.ensures in
    let steps = rw c.from-2.ensures at c.put_decimal-d.ensures in
    let two = more c.put_word-a.ensures answer in
    let four = more (more two c.put_word-c.ensures) steps in
    more (more four c.put_word-e.ensures) c.put_decimal.ensures
