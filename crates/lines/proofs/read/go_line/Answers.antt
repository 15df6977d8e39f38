-- By the opening: `pc`, or else `run`, or neither.
use Rattle.std.proofs.Common.{sym, ◌∙◌}
use Rattle.lines.specs.Lines.{jumping, running}
use Rattle.lines.proofs.Reading.{by_pc, by_run, by_none}
use Rattle.lines.proofs.Said.{says_none}
use Rattle.lines.proofs.read.go_line.Goals as goal

pub returns-in_err-pc_line : goal.returns-in_err-pc_line
unfolding jumping
returns-in_err-pc_line c =
    let began = c.in-Some.ensures.cases in
    says_none c.from_residual.ensures (c.in_err-pc_line.ensures ∙ sym (by_pc _ _ began.0 began.1))

pub returns-in-Some : goal.returns-in-Some
unfolding jumping
returns-in-Some c =
    let began = c.in-Some.ensures.cases in
    record { means = c.in_ok-pc_line.ensures ∙ sym (by_pc _ _ began.0 began.1); within = tt }

pub returns-in_err-rest : goal.returns-in_err-rest
returns-in_err-rest c = says_none c.from_residual-in_err-rest.ensures (by_none _ c.args.text.now c.in_default.ensures.cases c.in_err-rest.ensures.cases)

pub returns-in_err-run_line : goal.returns-in_err-run_line
unfolding running
returns-in_err-run_line c =
    let began = c.in_ok-rest.ensures.cases in
    says_none c.from_residual-in_err-run_line.ensures (c.in_err-run_line.ensures ∙ sym (by_run _ _ c.in_default.ensures.cases began.0 began.1))

pub returns : goal.returns
unfolding running
returns c =
    let began = c.in_ok-rest.ensures.cases in
    record { means = c.in_ok-run_line.ensures ∙ sym (by_run _ _ c.in_default.ensures.cases began.0 began.1); within = tt }
