use Rattle.std.proofs.Common.{◌+◌, ◌≤◌, length, refl, sym, ◌∙◌, arith, add-zero, add_assoc}
use Rattle.std.specs.Iterator.Adapters.{enumerate_count}
use Rattle.intelhex.proofs.Forming.{bytes_on, bytes_past, bytes_end}
use Rattle.intelhex.proofs.dump.put_bytes.Goals as goal

pub loop-i-init : goal.loop-i-init
loop-i-init c =
    let same = c.into_iter-i-iterator.ensures.into_iter_gives in
    let numbered = c.enumerate-i-items.ensures in
    let pairs = c.chunks_exact.ensures in
    rw (same, numbered.source, numbered.count, pairs.rest, pairs.size, add-zero) (refl, refl)

pub loop-i-preserved-then-cell-image : goal.loop-i-preserved-then-cell-image
loop-i-preserved-then-cell-image c =
    let turn = c.in-Some.ensures.steps in
    let kept = c.loop-i.invariant in
    let two = turn.0.1.1 ∙ kept.1 in
    (rw (turn.1, turn.2, ← add_assoc) (kept.0 ∙ bytes_on _ _ _ _ two turn.0.1.0 _ c.pair.ensures), turn.0.0 ∙ kept.1)

pub loop-i-preserved : goal.loop-i-preserved
loop-i-preserved c =
    let turn = c.in-Some.ensures.steps in
    let kept = c.loop-i.invariant in
    let two = turn.0.1.1 ∙ kept.1 in
    let past : length c.loop-i.image ≤ c.from-first.result + enumerate_count c.loop-i.i-iterator = omega (arith, turn.1, c.if-cell-image.false) in
    (rw (turn.2, ← add_assoc) (kept.0 ∙ bytes_past _ _ _ _ two turn.0.1.0 past), turn.0.0 ∙ kept.1)

pub returns : goal.returns
returns c =
    let past = c.in-None.ensures.steps in
    let kept = c.loop-i.invariant in
    sym (rw c.from-first.ensures at kept.0 ∙ bytes_end _ _ _ (omega (arith, past.0.1.0, kept.1)))
