-- By the number.
use Rattle.std.proofs.Common.{arith}
use Rattle.lines.proofs.Reading.{within_limit, run_read}
use Rattle.lines.proofs.read.run_line.Goals as goal

pub returns-in_err-n : goal.returns-in_err-n
returns-in_err-n c = rw c.from_residual.ensures (run_read _ _ c.in_err-n.ensures)

pub overflow_cast-steps : goal.overflow_cast-steps
overflow_cast-steps c = omega (arith, within_limit _ _ _ c.in_ok-n.ensures)

pub returns : goal.returns
returns c = run_read _ _ c.in_ok-n.ensures
