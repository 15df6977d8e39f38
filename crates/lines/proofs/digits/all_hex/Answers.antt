use Rattle.std.proofs.Common.{◌∙◌, ltb, rules, tests}
use Rattle.std.proofs.lemmas.Iterator.{YieldsList-from_slice}
use Rattle.std.proofs.lemmas.Iterator.Search.{all_from_yields_List}
use Rattle.lines.specs.Digits.{digit}
use Rattle.lines.proofs.Numerals.{hex_all}
use Rattle.lines.proofs.digits.all_hex.Goals as goal

pub returns : goal.returns
returns c =
    all_from_yields_List (λ x. ltb (digit x) 16) _ _ _ c.all.ensures.ran (YieldsList-from_slice c.args.s.now cc) (λ x b q k. search (rules, tests)) ∙ hex_all c.args.s.now
