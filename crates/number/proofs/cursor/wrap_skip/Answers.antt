-- By the test.
use Rattle.std.proofs.Common.{le-ltb, lt-ltb}
use Rattle.rules.specs.Format.{wrap_skip}
use Rattle.number.proofs.cursor.wrap_skip.Goals as goal

pub returns-then-p-lt768 : goal.returns-then-p-lt768
unfolding wrap_skip
returns-then-p-lt768 c = rw (lt-ltb _ _ c.if-p-lt768.true)

pub returns : goal.returns
unfolding wrap_skip
returns c = rw (le-ltb _ _ c.if-p-lt768.false)
