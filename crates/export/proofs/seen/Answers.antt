-- By the memory's number.
use Rattle.std.proofs.Common.{arith}
use Rattle.export.proofs.Shown.{shown_pad, shown_vdp, shown_none}
use Rattle.export.proofs.seen.Goals as goal

pub returns-in-0 : goal.returns-in-0
returns-in-0 c = shown_pad _ _ _ _ _ _ c.in-0.is c.view.ensures

pub returns-in-1 : goal.returns-in-1
returns-in-1 c = shown_vdp _ _ _ _ _ _ (λ e. omega arith) c.in-1.is c.view-in-1.ensures

pub returns-in_default : goal.returns-in_default
returns-in_default c = shown_none _ _ _ _ _ (λ e. omega arith) (λ e. omega arith)
