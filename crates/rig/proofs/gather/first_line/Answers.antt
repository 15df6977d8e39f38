-- By where the first line feed is, if there is one.
use Rattle.std.proofs.Common.{◌+◌, rules, tests, eqb}
use Rattle.std.proofs.lemmas.Iterator.{YieldsList-from_slice}
use Rattle.std.proofs.lemmas.Iterator.Search.{position_from_yields_List}
use Rattle.lines.proofs.Reading.{whole}
use Rattle.rig.proofs.Gathering.{none, split_fed, split_last}
use Rattle.rig.proofs.gather.first_line.Goals as goal

pub returns-then-is_empty : goal.returns-then-is_empty
returns-then-is_empty c = none _ (search rules)

pub returns-in_default : goal.returns-in_default
returns-in_default c =
    let found = position_from_yields_List (λ b. eqb b 10) _ _ _ c.in_default.ensures.ran (YieldsList-from_slice c.args.text.now cc) (λ x b q k. search (rules, tests)) in
    split_last _ found (search rules)

pub returns : goal.returns
returns c =
    let found = position_from_yields_List (λ b. eqb b 10) _ _ _ c.in-Some.ensures.ran (YieldsList-from_slice c.args.text.now cc) (λ x b q k. search (rules, tests)) in
    split_fed _ _ found (whole c.args.text.now (c.in-Some.end + 1))
