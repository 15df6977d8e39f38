-- Test 11 fails, or the step back past it.
use Rattle.std.proofs.Common.{◌∙◌, sym}
use Rattle.rules.proofs.Tests.{both}
use Rattle.bench.proofs.Steps.{tested}
use Rattle.bench.proofs.Links.{back_unfit, back_fits, fitting}
use Rattle.bench.proofs.walk.step_back.Goals as goal

pub returns-then-not-fit : goal.returns-then-not-fit
returns-then-not-fit c =
    λ _. rw c.turned_down.ensures (back_unfit (tested c.args.image.now c.args.pad.now c.args.vram.now c.args.regs.now
    c.args.journal.now c.args.at c.all_fit-fit.ensures) c.if-not-fit.true)

pub fit_back-requires : goal.fit_back-requires
fit_back-requires c = fitting (both (both (sym c.all_fit-fit.ensures ∙ c.if-not-fit.false)).1).0

pub returns : goal.returns
returns c =
    λ _. back_fits (tested c.args.image.now c.args.pad.now c.args.vram.now c.args.regs.now c.args.journal.now
    c.args.at c.all_fit-fit.ensures) c.if-not-fit.false (c.fit_back.ensures _)
