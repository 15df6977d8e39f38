use Rattle.std.proofs.Common.{refl, ◌∙◌, sym, arith}
use Rattle.ring.proofs.Turned.{as_long}
use Rattle.culprit.specs.Culprit.{follow, all_sound}
use Rattle.culprit.proofs.Trails.{follow_more, sound_more, told_unmarked, told_unsound, told_whole}
use Rattle.culprit.proofs.trail.trace.Goals as goal

pub returns-then-not-begins : goal.returns-then-not-begins
returns-then-not-begins c = told_unmarked _ _ _ _ _ _ c.begins.ensures c.if-not-begins.true

pub loop-u-init : goal.loop-u-init
unfolding follow all_sound
loop-u-init c = (refl, refl, omega arith)

pub returns-then-not-sound : goal.returns-then-not-sound
returns-then-not-sound c =
    told_unsound _ _ _ _ _ _ _ _ _ c.loop-u-test.true (as_long _ _ _ c.requires) c.word_at-w.ensures c.sound.ensures c.if-not-sound.true

pub loop-u-preserved : goal.loop-u-preserved
loop-u-preserved c =
    let below = c.loop-u-test.true in
    let word = c.word_at-w.ensures in
    let fine = sym c.sound.ensures ∙ c.if-not-sound.false in (
      follow_more _ _ _ _ below (as_long _ _ _ c.requires) word _ _ c.loop-u.invariant.0 c.tell-t.ensures.0,
      sound_more _ _ _ _ below (as_long _ _ _ c.requires) word _ c.loop-u.invariant.1 fine,
      omega (arith, c.tell-t.ensures.1),
    )

pub returns : goal.returns
returns c =
    told_whole _ _ _ _ _ _ _ _ _ (omega arith) (omega arith) c.begins.ensures c.if-not-begins.false c.loop-u.invariant.1
    c.loop-u.invariant.0 c.named.ensures
