use Rattle.std.proofs.Common.{arith}
use Rattle.lines.proofs.Printing.{paid}
use Rattle.intelhex.proofs.Writing.{pairs_pay, pairs_end}
use Rattle.intelhex.proofs.rows.put_pairs.Goals as goal

pub loop-b-preserved : goal.loop-b-preserved
loop-b-preserved c =
    (pairs_pay _ _ _ c.loop-b-test.true c.from.ensures c.loop-b.invariant.0 c.put_digits-past.ensures, omega (arith, c.put_digits-past.ensures.fits))

pub returns : goal.returns
returns c = paid (pairs_end _ _ c.loop-b-test.false) c.loop-b.invariant.0 (omega arith)
