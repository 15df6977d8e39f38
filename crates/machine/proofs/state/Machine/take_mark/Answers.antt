-- The mark's word, laid.
use Rattle.std.proofs.Common.{◌∙◌}
use Rattle.machine.proofs.Acts.{took_is}
use Rattle.machine.proofs.state.Machine.take_mark.Goals as goal

pub returns : goal.returns
returns c = (took_is _ _ _ c.mark_of.ensures ∙ c.lay.ensures.0, c.lay.ensures.1)
