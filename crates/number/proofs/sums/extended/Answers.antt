-- By the width, then by the sign.
use Rattle.rules.specs.Arithmetic.{extended}
use Rattle.std.proofs.Common.{le-leb}
use borrow.Author.Tests.{lt-leb}
use Rattle.number.proofs.sums.extended.Goals as goal

pub returns-then-wide : goal.returns-then-wide
unfolding extended
returns-then-wide c = simp c.if-wide.true

pub returns-then-x-lt128 : goal.returns-then-x-lt128
unfolding extended
returns-then-x-lt128 c = simp (c.if-wide.false, lt-leb _ _ c.if-x-lt128.true)

pub returns : goal.returns
unfolding extended
returns c = simp (c.if-wide.false, le-leb _ _ c.if-x-lt128.false)
