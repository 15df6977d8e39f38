-- The calls have led to where the cell is asked for.
use Rattle.witness.proofs.who.wrote_after.Goals as goal

pub returns : goal.returns
returns c =
    λ r. record { at = c.make_calls-here.result; led = (c.make_calls-here.ensures r).led; is = c.who_wrote.ensures _ (c.make_calls-here.ensures r).led }
