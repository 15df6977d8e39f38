-- By the sign: the shift of the number, or of its inverse.
use Rattle.rules.specs.Arithmetic.{arithmetic, rightward}
use Rattle.std.proofs.Common.{le-leb}
use borrow.Author.Tests.{lt-leb}
use Rattle.number.proofs.shifts.arithmetic.Goals as goal

pub returns-then-x-lt32768 : goal.returns-then-x-lt32768
unfolding arithmetic rightward
returns-then-x-lt32768 c = simp (lt-leb _ _ c.if-x-lt32768.true, c.rightward.ensures)

pub returns : goal.returns
unfolding arithmetic rightward
returns c = simp (le-leb _ _ c.if-x-lt32768.false, c.rightward-r.ensures)
