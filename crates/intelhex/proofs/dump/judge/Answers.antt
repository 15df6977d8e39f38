-- Record by record: the verdict on the rest is kept.
use Rattle.std.proofs.Common.{refl, sym, ◌∙◌, arith, true-eqb, false-eqb}
use Rattle.intelhex.proofs.Judging.{judged_bad, judged_end, judged_more, judged_none, judged_off, judged_on, clashes}
use Rattle.intelhex.proofs.dump.judge.Goals as goal

pub returns-in_default-said : goal.returns-in_default-said
returns-in_default-said c =
    let turn = c.in-Some.ensures.steps in
    judged_bad _ _ _ _ (rw c.in_default-said.is at turn.means) ∙ sym c.loop-said.invariant.0

pub returns-in-End : goal.returns-in-End
returns-in-End c =
    let turn = c.in-Some.ensures.steps in
    judged_end _ _ _ _ (true-eqb _ 0 c.if-is_empty.ensures) (rw (c.in-Some-said.is, c.in-End.is) at turn.means) ∙ sym c.loop-said.invariant.0

pub returns-in-End-2 : goal.returns-in-End-2
returns-in-End-2 c =
    let turn = c.in-Some.ensures.steps in
    let more = false-eqb _ 0 c.if-is_empty.ensures in
    judged_more _ _ _ _ (omega (arith, more)) (rw (c.in-Some-said.is, c.in-End-2.is) at turn.means) ∙ sym c.loop-said.invariant.0

pub mark-requires : goal.mark-requires
mark-requires c =
    let turn = c.in-Some.ensures.steps in
    let reaches = rw (c.in-Some-said.is, c.in-Holds.is) at turn.within in
    (omega (arith, c.from.ensures, reaches.1), reaches.0.most)

pub returns-in-Err : goal.returns-in-Err
returns-in-Err c =
    let turn = c.in-Some.ensures.steps in
    let held = rw (c.in-Some-said.is, c.in-Holds.is) at turn.means in
    c.at_line.ensures ∙ judged_off _ _ _ _ _ _ _ _ _ refl held _ c.from.ensures c.in-Err.ensures (clashes c.in-Err.clash) ∙ sym c.loop-said.invariant.0

pub loop-said-preserved : goal.loop-said-preserved
loop-said-preserved c =
    let turn = c.in-Some.ensures.steps in
    let held = rw (c.in-Some-said.is, c.in-Holds.is) at turn.means in
    (c.loop-said.invariant.0 ∙ judged_on _ _ _ _ _ _ _ _ _ refl held _ c.from.ensures c.in_default-mark.ensures refl, omega (arith, turn.on, c.loop-said.invariant.1))

pub returns : goal.returns
returns c = judged_none _ _ _ c.in_default.ensures.steps.0 ∙ sym c.loop-said.invariant.0
