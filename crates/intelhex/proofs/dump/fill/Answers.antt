-- Record by record: what is left to fill is kept.
use Rattle.std.proofs.Common.{sym, ◌∙◌}
use Rattle.intelhex.proofs.Judging.{filled_on, filled_end, filled_bad, filled_none}
use Rattle.intelhex.proofs.dump.fill.Goals as goal

pub loop-said-preserved-in_default : goal.loop-said-preserved-in_default
loop-said-preserved-in_default c =
    let turn = c.in-Some.ensures.steps in
    c.loop-said.invariant ∙ filled_bad _ _ _ (rw c.in_default.is at turn.means)

pub loop-said-preserved-in-Holds : goal.loop-said-preserved-in-Holds
loop-said-preserved-in-Holds c =
    let turn = c.in-Some.ensures.steps in
    c.loop-said.invariant ∙ filled_on _ _ _ _ _ _ (rw (c.in-Some-said.is, c.in-Holds.is) at turn.means) c.put_bytes.ensures

pub loop-said-preserved : goal.loop-said-preserved
loop-said-preserved c =
    let turn = c.in-Some.ensures.steps in
    c.loop-said.invariant ∙ filled_end _ _ _ (rw (c.in-Some-said.is, c.in-End.is) at turn.means)

pub returns : goal.returns
returns c = sym (c.loop-said.invariant ∙ filled_none _ _ c.in-None.ensures.steps.0)
