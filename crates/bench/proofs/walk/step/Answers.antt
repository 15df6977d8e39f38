-- Test 11 fails, or the step past it.
use Rattle.std.proofs.Common.{◌∙◌, sym}
use Rattle.rules.specs.Calls.{instruction}
use Rattle.rules.proofs.Tests.{both}
use Rattle.bench.proofs.Links.{fitting}
use Rattle.bench.proofs.Steps.{tested, step_unfit, step_fits}
use Rattle.bench.proofs.walk.step.Goals as goal

pub returns-then-not-fit : goal.returns-then-not-fit
returns-then-not-fit c =
    λ _. rw c.turned_down.ensures (step_unfit instruction (tested c.args.image.now c.args.pad.now c.args.vram.now c.args.regs.now c.args.journal.now c.args.at c.all_fit-fit.ensures) c.if-not-fit.true)

pub fit_step-requires : goal.fit_step-requires
fit_step-requires c = fitting (both (both (sym c.all_fit-fit.ensures ∙ c.if-not-fit.false)).1).0

pub returns : goal.returns
returns c =
    λ _. step_fits instruction (tested c.args.image.now c.args.pad.now c.args.vram.now c.args.regs.now c.args.journal.now c.args.at c.all_fit-fit.ensures) c.if-not-fit.false (c.fit_step.ensures.0 _)
