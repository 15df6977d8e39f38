-- The code's table is the row of digits.
use Rattle.std.proofs.Common.{refl}
use Rattle.lines.specs.Digits.{glyph}
use Rattle.lines.proofs.digits.glyph.Goals as goal

pub returns : goal.returns
unfolding glyph
returns c = refl
