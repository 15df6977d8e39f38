-- A refused step has changed nothing; an accepted one is undone by the step back from where it led.
use Rattle.std.proofs.Common.{◌∙◌, sym, arith}
use Rattle.bench.proofs.Refusals.{some_refused, none_done}
use Rattle.witness.proofs.Borne.{good_of, home_refused, home_back}
use Rattle.witness.proofs.there_and_back.Goals as goal

pub returns-then-is_some : goal.returns-then-is_some
returns-then-is_some c = λ _. home_refused (c.step-r.ensures _) (some_refused c.step-r.result.refusal (sym c.is_some.ensures ∙ c.if-is_some.true))

pub returns : goal.returns
returns c =
    λ _. home_back (good_of _ (omega (arith, c.well_formed.1.1.1.1.1)) (omega (arith, c.well_formed.1.1.1.1.1)) c.slice_known-1.given c.slice_known-2-1.given
    c.slice_known-3-1.given c.slice_known-4-1.given) (c.step-r.ensures _) (none_done c.step-r.result.refusal (sym c.is_some.ensures ∙ c.if-is_some.false)) (c.step_back.ensures _)
