-- Test 11 fails, or the answer past it.
use Rattle.std.proofs.Common.{refl}
use Rattle.culprit.proofs.Called.{told_unfit, told_fit, used_fit}
use Rattle.culprit.proofs.call.who_wrote.Goals as goal

pub returns-then-not-fit : goal.returns-then-not-fit
returns-then-not-fit c = told_unfit _ _ _ _ _ c.args.at c.all_fit-fit.ensures _ _ c.if-not-fit.true refl

pub who-requires : goal.who-requires
who-requires c =
    rw c.book.ensures (used_fit c.args.image.now c.args.pad.now c.args.vram.now c.args.regs.now c.args.journal.now c.args.at
    c.all_fit-fit.ensures c.if-not-fit.false)

pub returns : goal.returns
returns c = told_fit _ _ _ _ _ c.args.at c.all_fit-fit.ensures _ _ c.if-not-fit.false (rw c.book.ensures at c.who.ensures)
