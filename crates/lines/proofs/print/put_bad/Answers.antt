-- The pieces, one after the other.
use Rattle.lines.specs.Shown.{bad_line}
use Rattle.lines.proofs.Printing.{more}
use Rattle.lines.proofs.print.put_bad.Goals as goal

pub returns : goal.returns
unfolding bad_line
returns c = more (more c.put_word-a.ensures c.put_decimal-b.ensures) c.put_word.ensures
