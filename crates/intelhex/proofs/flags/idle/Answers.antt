use Rattle.std.proofs.Common.{◌∙◌, eqb, rules, tests}
use Rattle.std.proofs.lemmas.Iterator.{YieldsList-from_slice}
use Rattle.std.proofs.lemmas.Iterator.Search.{all_from_yields_List}
use Rattle.intelhex.proofs.Marking.{idle_all}
use Rattle.intelhex.proofs.flags.idle.Goals as goal

pub returns : goal.returns
returns c =
    all_from_yields_List (λ x. eqb x 0) _ _ _ c.all.ensures.ran (YieldsList-from_slice c.args.flags.now cc) (λ x b q k. search (rules, tests)) ∙ idle_all c.args.flags.now
