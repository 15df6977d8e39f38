-- The pieces, one after the other.
use Rattle.std.proofs.Common.{◌≤◌, length, arith}
use Rattle.lines.specs.Digits.{show_hex}
use Rattle.lines.specs.Lines.{Part, opening, grom, pad, vdp, reg}
use Rattle.lines.specs.Shown.{cell_text}
use Rattle.lines.specs.Meaning.{part_of}
use Rattle.lines.proofs.Printing.{more, within, address}
use Rattle.lines.proofs.print.put_cell.Goals as goal

short : (p : Part) → length (opening p) ≤ 5
short grom = omega arith
short pad = omega arith
short vdp = omega arith
short reg = omega arith

pub returns : goal.returns
unfolding cell_text show_hex
returns c =
    let p = part_of c.args.part in
    let opened = within 5 (short p) (rw c.opening.ensures at c.put_word-a.ensures) in
    let number = address p _ c.places.ensures (rw c.from.ensures at c.put_digits-b.ensures) in
    let byte = rw c.from-2.ensures at c.put_digits-d.ensures in
    more (more (more (more opened number) c.put_word-c.ensures) byte) c.put_word.ensures
