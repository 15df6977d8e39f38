-- Looked at in a ring alone, and not where it is 0.
use Rattle.std.proofs.Common.{eq-eqb, ne_eqb}
use Rattle.rules.specs.Calls.{place_fits}
use Rattle.bench.proofs.fits.place_fits.Goals as goal

pub returns-then-not-ring : goal.returns-then-not-ring
unfolding place_fits
returns-then-not-ring c = rw c.if-not-ring.true

pub returns-then-place-eq0 : goal.returns-then-place-eq0
unfolding place_fits
returns-then-place-eq0 c = rw (c.if-not-ring.false, eq-eqb c.args.place 0 c.if-place-eq0.true)

pub returns-else-place-eq0 : goal.returns-else-place-eq0
unfolding place_fits
returns-else-place-eq0 c = rw (c.if-not-ring.false, ne_eqb c.args.place 0 c.if-place-eq0.false)
