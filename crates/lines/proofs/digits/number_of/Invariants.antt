-- The invariant: the digits that are left go on from the number that those before them say.
use Rattle.std.proofs.Common.{◌≡◌, ◌≤◌, drop}
use Rattle.lines.specs.Digits.{numeral, numeral_from}
use Rattle.lines.proofs.digits.number_of.Given as goal

abbrev pub invariant-loop-c : goal.invariant-loop-c
invariant-loop-c l = (numeral l.base l.s ≡ numeral_from l.base l.v (drop l.c-index l.s)) × (l.v ≤ l.limit)
