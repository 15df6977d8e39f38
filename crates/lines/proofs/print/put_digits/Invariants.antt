-- The invariant: the digits that are left, laid over what has the last ones already, give the whole.
use Rattle.std.proofs.Common.{◌≡◌, ◌-◌, ◌≤◌}
use Rattle.lines.specs.Digits.{laid, digits_of}
use Rattle.lines.proofs.print.put_digits.Given as goal

abbrev pub invariant-loop-cell : goal.invariant-loop-cell
invariant-loop-cell l = (laid l.initial.out l.at (digits_of l.base l.width l.n) ≡ laid l.out l.at (digits_of l.base (l.cell - l.at) l.m)) × (l.at ≤ l.cell)
