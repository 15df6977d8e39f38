-- Test by test.
use Rattle.std.proofs.Common.{◌∙◌, sym}
use Rattle.rules.specs.Machine.{◌also◌}
use Rattle.bench.proofs.fits.all_fit.Goals as goal

pub returns-then-parts_fit : goal.returns-then-parts_fit
unfolding ◌also◌
returns-then-parts_fit c =
    rw (sym c.image_fits.ensures ∙ c.if-image_fits.true, sym c.parts_fit.ensures ∙ c.if-parts_fit.true) c.place_fits.ensures

pub returns-else-parts_fit : goal.returns-else-parts_fit
unfolding ◌also◌
returns-else-parts_fit c = rw (sym c.image_fits.ensures ∙ c.if-image_fits.true, c.if-parts_fit.false, sym c.parts_fit.ensures ∙ c.if-parts_fit.false)

pub returns-else-image_fits : goal.returns-else-image_fits
unfolding ◌also◌
returns-else-image_fits c = rw (c.if-image_fits.false, sym c.image_fits.ensures ∙ c.if-image_fits.false)
