use Rattle.std.proofs.Common.{◌∙◌, ltb, rules, tests}
use Rattle.std.proofs.lemmas.Iterator.{YieldsList-from_slice}
use Rattle.std.proofs.lemmas.Iterator.Search.{all_from_yields_List}
use Rattle.intelhex.specs.Records.{value}
use Rattle.intelhex.proofs.Forming.{digits_all}
use Rattle.intelhex.proofs.digits.all_digits.Goals as goal

pub returns : goal.returns
returns c =
    all_from_yields_List (λ x. ltb (value x) 16) _ _ _ c.all.ensures.ran (YieldsList-from_slice c.args.s.now cc) (λ x b q k. search (rules, tests)) ∙ digits_all c.args.s.now
