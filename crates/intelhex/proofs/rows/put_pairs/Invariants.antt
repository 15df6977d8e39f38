-- The invariant: the digits of the bytes that are left, put now, give the whole.
use Rattle.std.proofs.Common.{◌+◌, ◌*◌, ◌≤◌, drop}
use Rattle.lines.proofs.Printing.{Owes}
use Rattle.intelhex.specs.Dump.{show_bytes}
use Rattle.intelhex.proofs.rows.put_pairs.Given as goal

abbrev pub invariant-loop-b : goal.invariant-loop-b
invariant-loop-b l = Owes l.initial.out l.at (show_bytes l.bytes) (show_bytes (drop l.b-index l.bytes)) l.out l.past × (l.past ≤ l.at + 2 * l.b-index)
