use Rattle.std.proofs.Common.{refl, arith}
use Rattle.lines.proofs.Overlay.{laid_mid}
use Rattle.lines.proofs.print.put_word.Goals as goal

pub returns : goal.returns
returns c = record { over = rw c.copy_from_slice.ensures.after (laid_mid _ _ _ c.requires); ends = refl; fits = omega arith }
