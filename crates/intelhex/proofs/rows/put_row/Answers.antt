-- The pieces, one after the other.
use Rattle.std.proofs.Common.{◌∙◌, arith}
use Rattle.lines.specs.Digits.{show_hex}
use Rattle.lines.proofs.Printing.{more, within}
use Rattle.intelhex.specs.Dump.{row}
use Rattle.intelhex.proofs.Writing.{put_check}
use Rattle.intelhex.proofs.rows.put_row.Goals as goal

pub returns : goal.returns
unfolding row show_hex
returns c =
    let sum = put_check _ _ _ (c.from-s.ensures ∙ c.sum_of.ensures) c.put_digits-e.ensures in
    within 44 (omega (arith, c.requires.2)) (more
    (more (more (more (more c.put_word-a.ensures c.put_digits-b.ensures) c.put_word-c.ensures)
    c.put_pairs-d.ensures) sum) c.put_word.ensures)
