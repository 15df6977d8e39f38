-- By whether the low 4 bits are 0.
use Rattle.rules.specs.Arithmetic.{shift_count}
use Rattle.std.proofs.Common.{arith, ne_eqb}
use Rattle.number.proofs.shifts.shift_count.Goals as goal

pub returns-then-n-eq0 : goal.returns-then-n-eq0
unfolding shift_count
returns-then-n-eq0 c = (simp c.if-n-eq0.true, omega arith, omega arith)

pub returns : goal.returns
unfolding shift_count
returns c = (simp (ne_eqb _ _ c.if-n-eq0.false), omega arith, omega arith)
