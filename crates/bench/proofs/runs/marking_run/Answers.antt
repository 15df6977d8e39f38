-- Test 11 fails, or the run past it.
use Rattle.std.proofs.Common.{◌∙◌, sym}
use Rattle.bench.proofs.Steps.{tested}
use Rattle.bench.proofs.Ahead.{run_unfit, run_fits, marks_none}
use Rattle.bench.proofs.runs.marking_run.Goals as goal

pub returns-then-not-fit : goal.returns-then-not-fit
returns-then-not-fit c =
    let fit =
    (tested c.args.image.now c.args.pad.now c.args.vram.now c.args.regs.now c.args.journal.now c.args.at
    c.all_fit-fit.ensures) in (
      λ _. rw c.turned_down.ensures (run_unfit _ fit c.if-not-fit.true),
      λ _. marks_none _ _ _ (sym fit ∙ c.if-not-fit.true),
    )

pub fit_run-requires : goal.fit_run-requires
fit_run-requires c =
    sym (tested c.args.image.now c.args.pad.now c.args.vram.now c.args.regs.now c.args.journal.now c.args.at c.all_fit-fit.ensures)
    ∙ c.if-not-fit.false

pub returns : goal.returns
returns c =
    let fit =
    (tested c.args.image.now c.args.pad.now c.args.vram.now c.args.regs.now c.args.journal.now c.args.at c.all_fit-fit.ensures) in (
      λ _. run_fits _ fit c.if-not-fit.false (c.fit_run.ensures.0 _),
      λ _. c.fit_run.ensures.1 _,
    )
