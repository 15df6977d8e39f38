-- What `compared` ensures, at the sum and its two tests; then the parity, for which the last three bits are free.
use Rattle.std.proofs.Common.{◌≤◌, arith}
use Rattle.rules.specs.Arithmetic.{sum_status}
use Rattle.number.proofs.Laws.{compared_to}
use Rattle.number.proofs.sums.sum_status.Goals as goal

pub overflow_add-s : goal.overflow_add-s
overflow_add-s c =
    let upper : c.compared-upper.result ≤ 0xF8 = rw c.compared-upper.ensures (compared_to _ _ _ _ _) in
    omega (arith, upper, c.flag.ensures.1)

pub returns : goal.returns
unfolding sum_status
returns c =
    simp (
      c.flag.ensures.0,
      c.odd_ones-parity.ensures,
      c.tested_last.ensures,
      c.compared-upper.ensures,
      c.overflows-overflow.ensures,
      c.carries-carry.ensures,
      c.sum-r.ensures,
    )
