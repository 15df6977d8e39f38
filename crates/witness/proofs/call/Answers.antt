-- By which call it is.
use Rattle.witness.proofs.Counted.{after_run, after_tick, after_back}
use Rattle.witness.proofs.call.Goals as goal

pub returns-in-0 : goal.returns-in-0
returns-in-0 c = λ _ _ l. after_back (c.step_back.ensures _) l

pub returns-in-1 : goal.returns-in-1
returns-in-1 c = λ _ _ l. after_tick _ (c.tick.ensures _) l

pub returns-in_default : goal.returns-in_default
returns-in_default c = λ _ _ l. after_run _ (c.run.ensures _) l
