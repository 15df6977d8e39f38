-- What comes in is what leaves, by the laws of a turn.
use Rattle.number.proofs.Laws.{turned_in, turned_below}
use Rattle.rules.specs.Arithmetic.{circular}
use Rattle.number.proofs.shifts.circular.Goals as goal

pub overflow_cast-result : goal.overflow_cast-result
overflow_cast-result c = record { fits = turned_below _ _ c.requires.1 c.ranges.x.fits }

pub returns : goal.returns
unfolding circular
returns c = rw (turned_in c.args.x c.args.n c.requires.1)
