-- As it is in a plain journal; by the words that are left in a ring, and without the rest of a step that was laid over.
use Rattle.std.proofs.Common.{◌∙◌, false, [], arith}
use Rattle.rules.proofs.Tests.{denied, granted}
use Rattle.ring.specs.Meaning.{alone}
use Rattle.ring.proofs.Laying.{closed_plain, closed_free, closed_over}
use Rattle.ring.proofs.book.close.Goals as goal

pub returns-then-not-b : goal.returns-then-not-b
returns-then-not-b c = rw (denied c.args.b.ring c.if-not-b.true) (closed_plain _ _ _ _)

pub returns-then-words-free : goal.returns-then-words-free
returns-then-words-free c =
    rw (granted c.args.b.ring c.if-not-b.false) (closed_free _ _ _ _ (omega (arith, c.requires.0, c.if-words-free.true)) (omega (arith, c.well_formed.0)))

pub returns : goal.returns
returns c =
    rw (granted c.args.b.ring c.if-not-b.false) ((rw (granted c.args.b.ring c.if-not-b.false) at (c.forget_unmarked.ensures (alone [] 0 0 0 false)))
    ∙ closed_over _ _ _ _ _ _ (omega (arith, c.requires.0, c.if-words-free.false)) (omega (arith, c.if-words-free.false)) c.requires.0 c.requires.1 (omega
    (arith, c.well_formed.0)) c.further.ensures)
