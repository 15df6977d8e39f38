use Rattle.intelhex.proofs.Judging.{mark_none, mark_past, mark_taken, mark_free}
use Rattle.intelhex.proofs.Marking.{named_mid}
use Rattle.intelhex.proofs.flags.mark.Goals as goal

pub returns-then-count-eq0 : goal.returns-then-count-eq0
returns-then-count-eq0 c = mark_none _ _ _ c.if-count-eq0.true

pub returns-then-flags-end : goal.returns-then-flags-end
returns-then-flags-end c = mark_past _ _ _ c.if-count-eq0.false c.if-flags-end.true

pub returns-then-not-idle : goal.returns-then-not-idle
returns-then-not-idle c = mark_taken _ _ _ c.if-count-eq0.false c.if-flags-end.false _ c.idle.ensures c.if-not-idle.true

pub returns : goal.returns
returns c =
    mark_free _ _ _ c.if-count-eq0.false c.if-flags-end.false _ c.idle.ensures _ c.if-not-idle.false
    (named_mid _ _ _ _ c.if-flags-end.false (c.fill.ensures.after (λ y e. e)))
