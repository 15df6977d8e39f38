-- By whether something is shown.
use Rattle.export.proofs.Shown.{placed, placed_none}
use Rattle.export.proofs.argolythe_view.Goals as goal

pub returns-then-n-eq0 : goal.returns-then-n-eq0
returns-then-n-eq0 c = placed_none c.seen-n.ensures c.if-n-eq0.true

pub returns-else-n-eq0 : goal.returns-else-n-eq0
returns-else-n-eq0 c = placed c.seen-n.ensures c.if-n-eq0.false
