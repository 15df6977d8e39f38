-- The pieces, one after the other.
use Rattle.lines.specs.Digits.{show_hex}
use Rattle.lines.specs.Shown.{pc_text}
use Rattle.lines.proofs.Printing.{more}
use Rattle.lines.proofs.print.put_pc.Goals as goal

pub returns : goal.returns
unfolding pc_text show_hex
returns c = more (more c.put_word-a.ensures (rw c.from.ensures at c.put_digits-b.ensures)) c.put_word.ensures
