-- In a plain journal where it is; in a ring from its place on, or round.
use Rattle.std.proofs.Common.{arith}
use Rattle.ring.proofs.Turned.{slot_plain, slot_near, slot_far}
use Rattle.ring.proofs.book.slot.Goals as goal

pub returns-then-not-ring : goal.returns-then-not-ring
returns-then-not-ring c = (slot_plain _ _ _ _ c.if-not-ring.true, c.requires)

pub returns-then-i-ahead : goal.returns-then-i-ahead
returns-then-i-ahead c = (
  slot_near _ _ _ c.requires _ c.within-start.ensures.0 _ c.if-not-ring.false c.if-i-ahead.true,
  omega (arith, c.if-i-ahead.true, c.within-start.ensures.1),
)

pub returns : goal.returns
returns c = (
  slot_far _ _ _ c.requires _ c.within-start.ensures.0 _ c.if-not-ring.false c.if-i-ahead.false,
  omega (arith, c.if-i-ahead.false, c.within-start.ensures.1, c.requires),
)
