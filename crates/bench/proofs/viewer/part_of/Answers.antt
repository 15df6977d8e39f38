-- By the two tests; the part's length is the end less the start.
use Rattle.std.proofs.Common.{◌≡◌, ◌+◌, ◌-◌, arith, le-leb}
use borrow.Author.Tests.{lt-leb}
use Rattle.bench.specs.Meaning.{part}
use Rattle.bench.proofs.viewer.part_of.Goals as goal

pub returns-then-reach-at : goal.returns-then-reach-at
unfolding part
returns-then-reach-at c = simp (lt-leb _ _ c.if-reach-at.true)

pub returns-then-reach-at-2 : goal.returns-then-reach-at-2
unfolding part
returns-then-reach-at-2 c = simp (le-leb _ _ c.if-reach-at.false, lt-leb _ _ c.if-reach-at-2.true)

pub returns : goal.returns
unfolding part
returns c =
    let same : c.args.at + c.args.len - c.args.at ≡ c.args.len = omega arith in
    simp (le-leb _ _ c.if-reach-at.false, le-leb _ _ c.if-reach-at-2.false, same)
