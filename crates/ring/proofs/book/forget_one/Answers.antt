-- 0 in the word at the place, and the place moves on.
use Rattle.std.proofs.Common.{refl}
use Rattle.ring.proofs.Books.{forgot}
use Rattle.ring.proofs.book.forget_one.Goals as goal

pub returns : goal.returns
returns c = λ x. forgot _ _ _ _ _ x _ _ c.requires.1 c.requires.0 refl c.after.ensures
