use Rattle.std.proofs.Common.{refl, sym, ◌∙◌, arith, zero-add}
use Rattle.intelhex.proofs.Forming.{sum_on, sum_end}
use Rattle.intelhex.proofs.digits.sum.Goals as goal

pub loop-digits-init : goal.loop-digits-init
loop-digits-init c = rw (c.into_iter-digits-iterator.ensures.into_iter_gives, c.chunks_exact-digits-items.ensures.rest, c.chunks_exact-digits-items.ensures.size, zero-add) (refl, refl)

pub loop-digits-preserved : goal.loop-digits-preserved
loop-digits-preserved c =
    let turn = c.in-Some.ensures.steps in
    let two = turn.1.1 ∙ c.loop-digits.invariant.1 in
    (c.loop-digits.invariant.0 ∙ sum_on _ _ _ _ two turn.1.0 c.pair-t.ensures, turn.0 ∙ c.loop-digits.invariant.1)

pub returns : goal.returns
returns c =
    let past = c.in-None.ensures.steps in
    sym (c.loop-digits.invariant.0 ∙ sum_end _ _ (omega (arith, past.1.0, c.loop-digits.invariant.1)) (omega arith))
