-- The invariant: the line is what the parts that are left, tried one after the other, make of it.
use Rattle.std.proofs.Common.{◌≡◌, drop}
use Rattle.lines.specs.Lines.{line_of}
use Rattle.lines.proofs.Trying.{parts, tried}
use Rattle.lines.proofs.read.read_line.Given as goal

abbrev pub invariant-loop-part : goal.invariant-loop-part
invariant-loop-part l = line_of l.text ≡ tried (drop l.part-index parts) l.text
