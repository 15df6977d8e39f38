-- By the width.
use Rattle.rules.specs.Arithmetic.{repeated}
use Rattle.number.proofs.shifts.repeated.Goals as goal

pub returns-then-wide : goal.returns-then-wide
unfolding repeated
returns-then-wide c = simp c.if-wide.true

pub returns : goal.returns
unfolding repeated
returns c = simp c.if-wide.false
