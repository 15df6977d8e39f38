-- The pieces, one after the other.
use Rattle.std.proofs.Common.{arith}
use Rattle.lines.proofs.Printing.{more, within}
use Rattle.rig.specs.Rig.{refusal}
use Rattle.rig.proofs.show.put_refusal.Goals as goal

pub returns : goal.returns
unfolding refusal
returns c =
    rw (← c.meaning.ensures.says, ← c.answer.ensures, ← c.from.ensures, ← c.line.ensures)
    (within 150 (omega (arith, c.meaning.ensures.fits))
    (more (more (more (more (more (more c.put_word-a.ensures c.put_decimal-b.ensures) c.put_word-c.ensures) c.put_decimal-d.ensures) c.put_word-e.ensures)
    c.put_word-f.ensures) c.put_word.ensures))
