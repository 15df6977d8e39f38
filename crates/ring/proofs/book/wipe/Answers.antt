-- By its slot.
use Rattle.ring.proofs.Books.{wiped}
use Rattle.ring.proofs.book.wipe.Goals as goal

pub returns : goal.returns
returns c = λ x. wiped _ c.args.b x _ _ c.requires c.slot-at.ensures.0
