use Rattle.std.proofs.Common.{◌≡◌, ◌+◌, ◌*◌, ◌/◌, refl, ◌∙◌, length, arith}
use Rattle.std.specs.Iterator.Adapters.{enumerate_source, enumerate_count}
use Rattle.std.specs.Slice.Iter.{chunks_exact_rest}
use Rattle.lines.proofs.Printing.{paid}
use Rattle.intelhex.proofs.Writing.{more_rest, rows_pay, rows_end}
use Rattle.intelhex.proofs.rows.put_rows.Goals as goal

pub loop-k-init : goal.loop-k-init
loop-k-init c =
    let same = c.into_iter-k-iterator.ensures.into_iter_gives in
    let numbered = c.enumerate-k-items.ensures in
    let groups = c.chunks_exact.ensures in
    rw (same, numbered.source, numbered.count, groups.rest, groups.size) (record { over = refl; ends = refl }, refl, omega arith, omega arith)

pub put_row-past-requires : goal.put_row-past-requires
put_row-past-requires c =
    let turn = c.in-Some.ensures.steps in
    let kept = c.loop-k.invariant in
    let sixteen = turn.0.1.1 ∙ kept.1 in
    let long = more_rest _ _ sixteen turn.0.1.0 in
    (omega (arith, long, kept.2, kept.3), omega (arith, turn.1, long, kept.2), sixteen)

pub loop-k-preserved : goal.loop-k-preserved
loop-k-preserved c =
    let turn = c.in-Some.ensures.steps in
    let kept = c.loop-k.invariant in
    let sixteen = turn.0.1.1 ∙ kept.1 in
    let long = more_rest _ _ sixteen turn.0.1.0 in
    let line = c.put_row-past.ensures in
    let next : (enumerate_count c.loop-k.k-iterator + 1) * 16 ≡ enumerate_count c.loop-k.k-iterator * 16 + 16 = omega arith in (
      rw (turn.2, next) (rows_pay _ _ _ sixteen turn.0.1.0 kept.0 (rw turn.1 at line)),
      turn.0.0 ∙ kept.1,
      omega (arith, long, turn.2, kept.2),
      omega (arith, turn.2, kept.3, line.fits),
    )

pub returns : goal.returns
returns c =
    let past = c.in-None.ensures.steps in
    let kept = c.loop-k.invariant in
    let none : length (chunks_exact_rest (enumerate_source c.loop-k.k-iterator)) / 16 ≡ 0 = omega (arith, past.0.1.0, kept.1) in
    paid (rows_end _ _ _ none) kept.0 (omega (arith, past.0.1.0, kept.1, kept.2, kept.3))
