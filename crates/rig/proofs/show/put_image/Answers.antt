-- A row that is printed, one that is passed, and the end.
use Rattle.std.proofs.Common.{◌≡◌, ◌+◌, ◌*◌, ◌/◌, ◌∙◌, length, arith}
use Rattle.std.specs.Iterator.Adapters.{enumerate_source, enumerate_count}
use Rattle.std.specs.Slice.Iter.{chunks_exact_rest}
use Rattle.lines.proofs.Printing.{paid}
use Rattle.intelhex.proofs.Writing.{more_rest}
use Rattle.rig.proofs.Showing.{pass, pay, all_shown}
use Rattle.rig.proofs.show.put_image.Goals as goal

pub loop-k-preserved-then-not-idle : goal.loop-k-preserved-then-not-idle
loop-k-preserved-then-not-idle c =
    let turn = c.in-Some.ensures.steps in
    let kept = c.loop-k.invariant in
    let sixteen = turn.0.1.1 ∙ kept.1 in
    let long = more_rest _ _ sixteen turn.0.1.0 in
    let line = c.put_grom-past.ensures in
    let next : (enumerate_count c.loop-k.k-iterator + 1) * 16 ≡ enumerate_count c.loop-k.k-iterator * 16 + 16 = omega arith in (
      rw (turn.2, next) (pay _ _ _ sixteen turn.0.1.0 c.idle.ensures kept.0 c.if-not-idle.true (rw turn.1 at line)),
      turn.0.0 ∙ kept.1,
      omega (arith, long, turn.2, kept.2),
      omega (arith, turn.2, kept.3, line.fits),
    )

pub loop-k-preserved : goal.loop-k-preserved
loop-k-preserved c =
    let turn = c.in-Some.ensures.steps in
    let kept = c.loop-k.invariant in
    let sixteen = turn.0.1.1 ∙ kept.1 in
    let long = more_rest _ _ sixteen turn.0.1.0 in
    let next : (enumerate_count c.loop-k.k-iterator + 1) * 16 ≡ enumerate_count c.loop-k.k-iterator * 16 + 16 = omega arith in (
      rw (turn.2, next) (pass _ _ _ sixteen turn.0.1.0 c.idle.ensures kept.0 c.if-not-idle.false),
      turn.0.0 ∙ kept.1,
      omega (arith, long, turn.2, kept.2),
      omega (arith, turn.2, kept.3),
    )

pub returns : goal.returns
returns c =
    let past = c.in-None.ensures.steps in
    let kept = c.loop-k.invariant in
    let none : length (chunks_exact_rest (enumerate_source c.loop-k.k-iterator)) / 16 ≡ 0 = omega (arith, past.0.1.0, kept.1) in
    paid (all_shown _ _ _ none) kept.0 (omega (arith, past.0.1.0, kept.1, kept.2, kept.3))
