use Rattle.std.proofs.Common.{sym, ◌∙◌, arith}
use Rattle.lines.proofs.Overlay.{digits_on, digits_end, length_digits}
use Rattle.lines.proofs.print.put_digits.Goals as goal

pub loop-cell-preserved : goal.loop-cell-preserved
loop-cell-preserved c = (c.loop-cell.invariant.0 ∙ digits_on _ _ _ _ _ _ c.loop-cell-test.true c.glyph.ensures, omega arith)

pub returns : goal.returns
returns c = record {
  over = sym (c.loop-cell.invariant.0 ∙ digits_end _ _ _ _ _ (omega arith));
  ends = rw length_digits;
  fits = omega arith;
}
