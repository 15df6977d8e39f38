-- By the three tests.
use Rattle.std.proofs.Common.{eq-eqb, ne_eqb, le-leb}
use borrow.Author.Tests.{lt-leb}
use Rattle.rules.specs.Machine.{◌also◌}
use Rattle.rules.specs.Calls.{image_fits}
use Rattle.bench.proofs.fits.image_fits.Goals as goal

pub returns-then-n-ge8192 : goal.returns-then-n-ge8192
unfolding image_fits ◌also◌
returns-then-n-ge8192 c = rw (eq-eqb _ _ c.if-n-eq0.true, le-leb _ _ c.if-n-ge8192.true)

pub returns-else-n-ge8192 : goal.returns-else-n-ge8192
unfolding image_fits ◌also◌
returns-else-n-ge8192 c = rw (eq-eqb _ _ c.if-n-eq0.true, lt-leb _ _ c.if-n-ge8192.false)

pub returns-else-n-eq0 : goal.returns-else-n-eq0
unfolding image_fits ◌also◌
returns-else-n-eq0 c = rw (ne_eqb _ _ c.if-n-eq0.false)
