use Rattle.std.proofs.Common.{ap, inl, inr, ⊎_elim, length, arith}
use Rattle.lines.specs.Meaning.{part_of}
use Rattle.lines.proofs.Printing.{pass, pay, paid, changed_end}
use Rattle.lines.proofs.print.put_changed.Goals as goal

pub loop-i-preserved-then-old-new : goal.loop-i-preserved-then-old-new
loop-i-preserved-then-old-new c =
    let turn = c.in-Some.ensures.steps in
    let kept = c.loop-i.invariant in
    let line = rw turn.1 at c.put_cell-past.ensures in
    let owed = pay (part_of c.args.part) _ _ _ _ _ turn.0.0 turn.0.1 c.if-old-new.true kept.0 line in
    (rw turn.2 owed, omega (arith, ap length turn.0.1, turn.2, kept.1), omega (arith, turn.2, kept.2, line.fits))

pub loop-i-preserved : goal.loop-i-preserved
loop-i-preserved c =
    let turn = c.in-Some.ensures.steps in
    let kept = c.loop-i.invariant in
    let owed = pass (part_of c.args.part) _ _ _ _ _ turn.0.0 turn.0.1 c.if-old-new.false kept.0 in
    (rw turn.2 owed, omega (arith, ap length turn.0.1, turn.2, kept.1), omega (arith, turn.2, kept.2))

pub returns : goal.returns
returns c =
    let past = c.in-None.ensures.steps in
    let kept = c.loop-i.invariant in
    paid (changed_end (part_of c.args.part) _ _ _ (⊎_elim (λ x. inl x.1.0) (λ x. inr x.1.0) past.0)) kept.0 (omega (arith, kept.1, kept.2))
