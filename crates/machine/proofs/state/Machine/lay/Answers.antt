-- 10 where there is no word left, and none can be dropped; else the word is laid.
use Rattle.std.proofs.Common.{rules, refl, []}
use Rattle.ring.proofs.Laying.{no_room_lem, laid_carried, full_carried}
use Rattle.machine.specs.Meaning.{rest_of, kept, unbooked}
use Rattle.machine.proofs.Acts.{laid_full, laid_there}
use Rattle.machine.proofs.state.Machine.lay.Goals as goal

pub returns-then-self : goal.returns-then-self
unfolding rest_of kept
returns-then-self c = (laid_full _ _ (full_carried _ (unbooked _ _ _ _ _ [] 0 0) (no_room_lem _ _ _ c.if-self.true _ _)), refl)

pub returns : goal.returns
unfolding rest_of kept
returns c = (laid_there _ _ (laid_carried _ (unbooked _ _ _ _ _ [] 0 0) _ (c.lay.ensures _ _)), search rules)
