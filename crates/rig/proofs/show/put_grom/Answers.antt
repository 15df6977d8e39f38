-- The pieces, one after the other.
use Rattle.std.proofs.Common.{arith}
use Rattle.lines.specs.Digits.{show_hex}
use Rattle.lines.proofs.Printing.{more, within}
use Rattle.rig.specs.Rig.{grom_line}
use Rattle.rig.proofs.show.put_grom.Goals as goal

pub returns : goal.returns
unfolding grom_line show_hex
returns c =
    within 43 (omega (arith, c.requires.2))
    (more (more (more (more c.put_word-a.ensures c.put_digits-b.ensures) c.put_word-c.ensures) c.put_pairs-d.ensures) c.put_word.ensures)
