-- Some bytes have gone at once: the others are left.
use Rattle.block.specs.Meaning.{end_of}
use Rattle.block.proofs.Rows.{moves, turns_left}
use Rattle.block.proofs.whole.move_bytes.Goals as goal

pub loop-k-init : goal.loop-k-init
loop-k-init c =
    let gone = c.copy_sure-gone.ensures in
    (turns_left (moves (end_of c.args.from) (end_of c.args.to)) _ _ _ _ gone.few gone.does.0, gone.does.1)
