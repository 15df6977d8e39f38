-- Where there is no word nothing is added; else the sum is reduced twice.
use Rattle.std.proofs.Math.Nat.{mod-add-mod}
use Rattle.ring.proofs.book.further.Goals as goal

pub returns : goal.returns
returns c = mod-add-mod _ _ _
