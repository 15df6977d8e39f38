-- By the tests.
use Rattle.std.proofs.Common.{lt-ltb, le-ltb}
use Rattle.intelhex.specs.Dump as format
use Rattle.intelhex.proofs.dump.groups.Goals as goal
use Rattle.intelhex.proofs.dump.groups.Goals.{then-n-lt8192-via-then-n-lt8192, then-n-lt8192-via-else-n-lt8192+then-n-gt65536}

pub returns-then-n-lt8192 : goal.returns-then-n-lt8192
unfolding format.groups
returns-then-n-lt8192 c =
    elim c.then-n-lt8192.branch [
      | then-n-lt8192-via-then-n-lt8192 w ↦ rw (lt-ltb _ 8192 w.if-n-lt8192.true)
      | then-n-lt8192-via-else-n-lt8192+then-n-gt65536 w ↦ rw (le-ltb _ 8192 w.if-n-lt8192.false, lt-ltb 65536 _ w.if-n-gt65536.true)
    ]

pub returns : goal.returns
unfolding format.groups
returns c = rw (le-ltb _ 8192 c.if-n-lt8192.false, le-ltb 65536 _ c.if-n-gt65536.false)
