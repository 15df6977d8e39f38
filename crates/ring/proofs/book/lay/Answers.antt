-- In a plain journal at the used words' end; in a ring so many places on from the step's first word.
use Rattle.std.proofs.Common.{refl, arith, [], ◌∷◌}
use Rattle.ring.proofs.Laying.{laid_plain, laid_ring}
use Rattle.ring.proofs.book.lay.Goals as goal

pub returns-in_default : goal.returns-in_default
returns-in_default c = λ o a. rw c.in_default.is (laid_plain _ [] _ _ (omega arith) c.requires o a)

pub returns : goal.returns
returns c = λ o a. rw c.in-Some.is (laid_ring _ (c.in-Some.first ∷ o ∷ []) _ _ _ (omega arith) c.requires c.within-at.ensures.0 o a)
