-- The digits of the width.
use Rattle.lines.specs.Digits.{show_decimal}
use Rattle.lines.proofs.Printing.{within}
use Rattle.lines.proofs.print.put_decimal.Goals as goal

pub returns : goal.returns
unfolding show_decimal
returns c = rw (← c.width_of-width.ensures.0) (within 20 c.width_of-width.ensures.1 c.put_digits.ensures)
