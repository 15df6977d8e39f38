-- What the proofs share.
use Rattle.std.proofs.Common.{◌<◌, Bool, true, false, arith}
use Rattle.rules.specs.Arithmetic.{half, span}

-- the largest step of INC to DECT is a number of each width
pub two_below : (w : Bool) → 2 < span (half w)
two_below true = omega arith
two_below false = omega arith
