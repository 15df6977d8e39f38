-- By the tests: none, one left over, no digits, or bytes.
use Rattle.std.proofs.Common.{arith, true-eqb, false-eqb}
use Rattle.lines.proofs.Numerals.{bytes_none, bytes_odd, bytes_other, bytes_each}
use Rattle.lines.proofs.digits.count_bytes.Goals as goal
use Rattle.lines.proofs.digits.count_bytes.Goals.{then-is_empty-via-then-is_empty, then-is_empty-via-else-is_empty+then-s-ne0, then-is_empty-via-else-is_empty+else-s-ne0+then-not-all_hex}

pub returns-then-is_empty : goal.returns-then-is_empty
returns-then-is_empty c =
    λ h.
    elim c.then-is_empty.branch [
      | then-is_empty-via-then-is_empty w ↦ omega (arith, h, bytes_none c.args.s.now (true-eqb _ 0 w.if-is_empty.ensures))
      | then-is_empty-via-else-is_empty+then-s-ne0 w ↦ omega (arith, h, bytes_odd c.args.s.now w.if-s-ne0.true)
      | then-is_empty-via-else-is_empty+else-s-ne0+then-not-all_hex w ↦ omega (arith, h, bytes_other c.args.s.now w.if-not-all_hex.ensures)
    ]

pub returns : goal.returns
returns c =
    let all = bytes_each c.args.s.now c.if-not-all_hex.ensures c.if-s-ne0.false in
    (omega (arith, all, false-eqb _ 0 c.if-is_empty.ensures), omega (arith, all))
