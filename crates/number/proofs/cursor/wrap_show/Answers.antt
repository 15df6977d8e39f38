-- By the two tests.
use Rattle.std.proofs.Common.{le-ltb, lt-ltb}
use Rattle.rules.specs.Format.{wrap_show}
use Rattle.number.proofs.cursor.wrap_show.Goals as goal

pub returns-then-p-lt768 : goal.returns-then-p-lt768
unfolding wrap_show
returns-then-p-lt768 c = rw (lt-ltb _ _ c.if-p-lt768.true)

pub returns-then-p-lt800 : goal.returns-then-p-lt800
unfolding wrap_show
returns-then-p-lt800 c = rw (le-ltb _ _ c.if-p-lt768.false, lt-ltb _ _ c.if-p-lt800.true)

pub returns : goal.returns
unfolding wrap_show
returns c = rw (le-ltb _ _ c.if-p-lt768.false, le-ltb _ _ c.if-p-lt800.false)
