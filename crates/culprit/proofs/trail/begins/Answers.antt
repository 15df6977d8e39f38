-- With no word used there is none; else by the first.
use Rattle.std.proofs.Common.{[], refl, ◌∙◌}
use Rattle.ring.proofs.Turned.{as_long}
use Rattle.culprit.proofs.Trails.{marked_none, marked_oldest}
use Rattle.culprit.proofs.trail.begins.Goals as goal

pub returns-then-b-eq0 : goal.returns-then-b-eq0
returns-then-b-eq0 c = rw c.if-b-eq0.true (marked_none 0 [] refl)

pub returns-else-b-eq0 : goal.returns-else-b-eq0
returns-else-b-eq0 c = c.is_mark.ensures ∙ marked_oldest _ _ _ c.if-b-eq0.false (as_long _ _ _ c.requires) c.word_at.ensures
