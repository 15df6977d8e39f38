-- The test, at what `kind_of` ensures.
use Rattle.rules.specs.Journal.{marks}
use Rattle.number.proofs.words.is_mark.Goals as goal

pub returns : goal.returns
unfolding marks
returns c = simp c.kind_of.ensures
