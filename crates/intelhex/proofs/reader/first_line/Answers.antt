-- By whether there is a line feed, and a CR before it.
use Rattle.std.proofs.Common.{List, ℕ, ◌+◌, eqb, ◌∙◌, refl, ap, arith, rules, tests}
use Rattle.std.specs.Borrow.{Bor}
use Rattle.std.proofs.lemmas.Iterator.{YieldsList-from_slice}
use Rattle.std.proofs.lemmas.Iterator.Search.{position_from_yields_List}
use Rattle.lines.proofs.Reading.{whole}
use Rattle.intelhex.proofs.Cutting.{cuts_last, cuts_fed, stripped, found_none, found_at}
use Rattle.intelhex.proofs.reader.first_line.Goals as goal

pub returns-in_default : goal.returns-in_default
returns-in_default c =
    let found = position_from_yields_List (eqb 10) _ _ _ c.in_default.ensures.ran (YieldsList-from_slice c.args.text.now cc) (λ x b q k. search (rules, tests)) in
    cuts_last c.args.text.now c.requires (found_none _ _ _ refl found)

pub returns : goal.returns
returns c =
    let found = position_from_yields_List (eqb 10) _ _ _ c.in-Some.ensures.ran (YieldsList-from_slice c.args.text.now cc) (λ x b q k. search (rules, tests)) in
    let place = found_at _ _ _ _ refl found in
    let line = ap (λ (x : Bor (List ℕ)). x.now) c.unwrap_or.ensures ∙ stripped c.args.text.now c.in-Some.end _ _ (omega (arith, place.0, place.1)) refl c.strip_suffix.ensures.cases in
    rw (whole c.args.text.now (c.in-Some.end + 1)) (cuts_fed c.args.text.now c.in-Some.end place.0 (omega (arith, place.0, place.1)) _ line)
