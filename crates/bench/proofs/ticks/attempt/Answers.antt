-- With no mark nothing is sent; past it the tick's rule sends.
use Rattle.std.proofs.Common.{rules, ◌∙◌}
use Rattle.machine.specs.Meaning.{state}
use Rattle.bench.proofs.Trying.{tick_unmarked, tick_marked}
use Rattle.bench.proofs.ticks.attempt.Goals as goal

pub returns-in_err-take_mark : goal.returns-in_err-take_mark
returns-in_err-take_mark c =
    let t = tick_unmarked _ _ _ c.args.output.now c.in_err-take_mark.ensures.0 in (t.0 ∙ (search rules), c.in_err-take_mark.ensures.1, t.1)

pub returns : goal.returns
returns c =
    let t = tick_marked _ _ _ (state c.tick.new.m) c.tick.result c.in_ok-take_mark.ensures.0 c.tick.ensures.0 c.tick.ensures.2 in (t.0, c.tick.ensures.1 ∙ c.in_ok-take_mark.ensures.1, t.1)
