use Rattle.std.proofs.Common.{◌∙◌}
use Rattle.lines.specs.Digits.{byte_of}
use Rattle.lines.proofs.Numerals.{counted}
use Rattle.lines.proofs.digits.byte_of.Goals as goal

pub returns : goal.returns
unfolding byte_of
returns c =
    let high = c.from-h.ensures ∙ c.unwrap_or.ensures ∙ counted _ _ c.digit.ensures in
    let low = c.from-l.ensures ∙ c.unwrap_or-2.ensures ∙ counted _ _ c.digit-2.ensures in
    rw (high, low)
