-- Inside by both sums, which are bytes then; or outside by one of them.
use Rattle.std.proofs.Common.{◌∙◌, ap₂}
use lib.IntN.{ℤ, nat_abs}
use Rattle.rules.specs.Machine.{◌also◌}
use Rattle.rules.specs.Coincidence.{bit_number, meets}
use Rattle.number.proofs.Signed.{held, told, byte_cast}
use Rattle.machine.proofs.Laws.{steps}
use Rattle.coinc.proofs.table.meets.Goals.{else-inside-via-then-inside+else-inside-2, else-inside-via-else-inside}
use Rattle.coinc.proofs.table.meets.Goals as goal

pub overflow_cast-y : goal.overflow_cast-y
overflow_cast-y c =
    byte_cast _ c.ranges.y c.ranges.rows.fits
    (told _ c.ranges.y c.inside.ensures c.if-inside.true)

pub overflow_cast-x : goal.overflow_cast-x
overflow_cast-x c = byte_cast _ c.ranges.x c.ranges.columns.fits (told _ c.ranges.x c.inside-then-inside.ensures c.if-inside-2.true)

pub returns-then-inside-2 : goal.returns-then-inside-2
unfolding meets ◌also◌
returns-then-inside-2 c =
    let same = ap₂ (λ (y x : ℤ). bit_number c.args.columns (nat_abs y) (nat_abs x)) (held c.ranges.y) (held c.ranges.x) in
    rw (
      told _ c.ranges.y c.inside.ensures c.if-inside.true,
      told _ c.ranges.x c.inside-then-inside.ensures c.if-inside-2.true,
      ← (c.bit_number-n.ensures ∙ same),
    ) c.table_bit.ensures

pub returns-else-inside : goal.returns-else-inside
unfolding meets ◌also◌
returns-else-inside c = elim c.else-inside.branch [
  | else-inside-via-then-inside+else-inside-2 w ↦
      rw (
        told _ c.ranges.y c.inside.ensures w.if-inside.true,
        told _ c.ranges.x w.inside-then-inside.ensures w.if-inside-2.false,
      ) (search steps)
  | else-inside-via-else-inside w ↦ rw (told _ c.ranges.y c.inside.ensures w.if-inside.false) (search steps)
]
