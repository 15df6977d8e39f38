-- By what `copy_within` leaves.
use Rattle.desk.proofs.Front.{to_front}
use Rattle.desk.proofs.input.to_front.Goals as goal

pub returns : goal.returns
returns c = to_front _ _ _ c.requires.0 c.requires.1 _ c.copy_within.ensures.after
