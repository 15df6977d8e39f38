-- Each step fits 16 bits, so what they hold is the sum.
use Rattle.std.proofs.Common.{◌^◌}
use Rattle.rules.specs.Coincidence.{along}
use Rattle.number.proofs.Signed.{sum_fits, sum_is}
use Rattle.number.proofs.coincidence.along.Goals as goal

pub overflow_add-r : goal.overflow_add-r
overflow_add-r c = sum_fits (2 ^ c.args.g) _ _ c.difference.ensures c.ranges.size.fits

pub returns : goal.returns
unfolding along
returns c = sum_is (2 ^ c.args.g) _ _ c.difference.ensures c.ranges.size.fits
