-- Each turn lays a pair; at the end fewer than two digits are left.
use Rattle.std.proofs.Common.{sym, ◌∙◌, length-set, arith, add_assoc}
use Rattle.lines.proofs.Overlay.{pair_off, bytes_on, bytes_end}
use Rattle.lines.proofs.read.lay_digits.Goals as goal

pub loop-i-preserved : goal.loop-i-preserved
loop-i-preserved c =
    let turn = c.in-Some.ensures.steps in
    let pair = turn.0.1 in
    let kept = c.loop-i.invariant in
    let two = pair.1 ∙ kept.1 in (
      rw (turn.1, turn.2, ← add_assoc) (kept.0 ∙ bytes_on _ _ _ _ _ _ two pair.0 c.byte_of.ensures),
      turn.0.0 ∙ kept.1,
      simp length-set (omega (arith, pair_off _ _ pair.0 two, turn.2, kept.2)),
    )

pub returns : goal.returns
returns c =
    let past = c.in-None.ensures.steps in
    let kept = c.loop-i.invariant in
    sym (kept.0 ∙ bytes_end _ _ _ (omega (arith, past.0.1.0, kept.1)))
