use Rattle.std.proofs.Common.{refl, rules, arith}
use Rattle.witness.proofs.Borne.{good_of}
use Rattle.witness.proofs.Counted.{held, at_first}
use Rattle.witness.proofs.make_calls.Goals as goal

pub loop-n-init : goal.loop-n-init
loop-n-init c = (
  at_first (good_of _ (omega (arith, c.well_formed.1.1.1.1.1.0)) (omega (arith, c.well_formed.1.1.1.1.1.0)) c.slice_known-1.given c.slice_known-2-1.given
      c.slice_known-3-1.given c.slice_known-4-1.given) refl,
  refl,
)

pub loop-n-preserved : goal.loop-n-preserved
loop-n-preserved c =
    let inv = c.loop-n.invariant in (
      c.call-here.ensures _ _ inv.0,
      search rules,
    )

pub returns : goal.returns
returns c = λ _. record { led = c.loop-n.invariant.0; kept = held c.loop-n.invariant.0 }
