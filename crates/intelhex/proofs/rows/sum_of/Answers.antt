use Rattle.std.proofs.Common.{refl, sym, ◌∙◌, arith}
use Rattle.intelhex.proofs.Writing.{total_on, total_end}
use Rattle.intelhex.proofs.rows.sum_of.Goals as goal

pub loop-b-preserved : goal.loop-b-preserved
loop-b-preserved c = c.loop-b.invariant ∙ total_on _ _ _ _ c.loop-b-test.true refl

pub returns : goal.returns
returns c = sym (c.loop-b.invariant ∙ total_end _ _ _ c.loop-b-test.false (omega arith))
