-- By the length, then by the number.
use Rattle.std.proofs.Common.{arith}
use Rattle.lines.specs.Lines.{jumping}
use Rattle.lines.proofs.Reading.{within_limit, pc_other, pc_read}
use Rattle.lines.proofs.read.pc_line.Goals as goal

pub returns-then-s-ne4 : goal.returns-then-s-ne4
unfolding jumping
returns-then-s-ne4 c = pc_other _ c.if-s-ne4.true

pub returns-in_err-n : goal.returns-in_err-n
returns-in_err-n c = rw c.from_residual.ensures (pc_read _ _ c.if-s-ne4.false c.in_err-n.ensures)

pub overflow_cast-pc : goal.overflow_cast-pc
overflow_cast-pc c = omega (arith, within_limit _ _ _ c.in_ok-n.ensures)

pub returns : goal.returns
returns c = pc_read _ _ c.if-s-ne4.false c.in_ok-n.ensures
