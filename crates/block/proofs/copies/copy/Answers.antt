-- A turn more; and the journal stays as long.
use Rattle.std.proofs.Common.{◌∙◌, ◌+◌, length-set}
use Rattle.block.proofs.Rows.{stored_more}
use Rattle.block.proofs.copies.copy.Goals as goal

pub loop-k-preserved : goal.loop-k-preserved
loop-k-preserved c = rw (c.pack.ensures, length-set _ _ _) (
  c.loop-k.invariant.0 ∙ stored_more _ _ _ _ _ _ _ c.loop-k-test.true (c.type_inv.from (c.args.a + c.loop-k.k)).fits,
  c.loop-k.invariant.1,
)
