-- A line that is too long says nothing; of any other, what is read is what is heard.
use Rattle.std.proofs.Common.{sym}
use Rattle.lines.proofs.Said.{says_bad, says_same}
use Rattle.desk.proofs.Cut.{heard_long, heard_short}
use Rattle.desk.proofs.obey.line_of.Goals as goal

pub returns-then-text-gt-LONGEST : goal.returns-then-text-gt-LONGEST
returns-then-text-gt-LONGEST c = says_bad _ _ (sym (heard_long _ c.if-text-gt-LONGEST.true))

pub returns : goal.returns
returns c = says_same c.read_line.ensures (heard_short _ c.if-text-gt-LONGEST.false)
