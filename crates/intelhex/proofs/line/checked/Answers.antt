-- By the count and the sum.
use Rattle.std.proofs.Common.{◌∙◌}
use Rattle.intelhex.proofs.Saying.{checked_few, checked_not, checked_sum}
use Rattle.intelhex.proofs.line.checked.Goals as goal

pub returns-then-n-lt5-clause-value : goal.returns-then-n-lt5-clause-value
returns-then-n-lt5-clause-value c = checked_few _ c.if-n-lt5.true

pub returns-then-n-count-clause-value : goal.returns-then-n-count-clause-value
returns-then-n-count-clause-value c = checked_not _ _ c.if-n-lt5.false (c.from-count.ensures ∙ c.pair.ensures) c.if-n-count.true

pub returns-clause-value : goal.returns-clause-value
returns-clause-value c = checked_sum _ _ c.if-n-lt5.false (c.from-count.ensures ∙ c.pair.ensures) c.if-n-count.false _ c.sum-total.ensures
