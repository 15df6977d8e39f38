-- Test 11 fails, or the tick past it.
use Rattle.std.proofs.Common.{◌∙◌, ap, sym}
use Rattle.rules.proofs.Tests.{both}
use Rattle.bench.specs.Numbers.{Reply}
use Rattle.bench.specs.Meaning.{heard_as}
use Rattle.bench.proofs.Links.{fitting}
use Rattle.bench.proofs.Steps.{tested}
use Rattle.bench.proofs.Heard.{tick_unfit, tick_fits}
use Rattle.bench.proofs.ticks.tick.Goals as goal

pub returns-then-not-fit : goal.returns-then-not-fit
returns-then-not-fit c =
    λ _. rw (c.sending.ensures ∙ ap (λ (r : Reply). heard_as r 0) c.turned_down.ensures) (tick_unfit c.args.output.now
    (tested c.args.image.now c.args.pad.now c.args.vram.now c.args.regs.now c.args.journal.now
    c.args.at c.all_fit-fit.ensures)
    c.if-not-fit.true)

pub fit_tick-requires : goal.fit_tick-requires
fit_tick-requires c = fitting (both (both (sym c.all_fit-fit.ensures ∙ c.if-not-fit.false)).1).0

pub returns : goal.returns
returns c =
    λ _. tick_fits c.args.output.now
    (tested c.args.image.now c.args.pad.now c.args.vram.now c.args.regs.now c.args.journal.now
    c.args.at c.all_fit-fit.ensures)
    c.if-not-fit.false (c.fit_tick.ensures _)
