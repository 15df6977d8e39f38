-- The lines, one after the other; the cells' lines are bounded by the sizes of the parts.
use Rattle.std.proofs.Common.{rules}
use Rattle.lines.specs.Shown.{run_lines}
use Rattle.lines.proofs.Printing.{more, within, front}
use Rattle.desk.proofs.show.put_run.Goals as goal

pub returns : goal.returns
unfolding run_lines
returns c =
    let one = rw (c.number-answer.ensures, c.address.ensures) at c.put_answer-a.ensures in
    let two = more one c.put_pc-b.ensures in
    let three = more two (within 3328 (search rules) c.put_changed-c.ensures) in
    let four = more three (within 212992 (search rules) c.put_changed-d.ensures) in
    front (more four (within 104 (search rules) c.put_changed.ensures)) (search rules) (search rules)
