-- Some cells are filled at once: the others are left.
use Rattle.block.proofs.Rows.{fills_left}
use Rattle.block.proofs.screen.fill.Goals as goal

pub loop-k-init : goal.loop-k-init
loop-k-init c =
    let gone = c.fill_sure-gone.ensures in
    (fills_left _ _ _ _ _ _ gone.few gone.does.0, gone.does.1)
