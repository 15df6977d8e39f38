-- The pieces, one after the other.
use Rattle.lines.specs.Digits.{show_hex}
use Rattle.lines.specs.Shown.{answer_line}
use Rattle.lines.proofs.Printing.{more}
use Rattle.lines.proofs.print.put_answer.Goals as goal

pub returns : goal.returns
unfolding answer_line show_hex
returns c = more (more (more c.put_counts-a.ensures c.put_word-b.ensures) (rw c.from.ensures at c.put_digits-c.ensures)) c.put_word.ensures
