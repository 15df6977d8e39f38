-- The run has led behind its steps, and they are taken back.
use Rattle.std.proofs.Common.{refl, arith}
use Rattle.std.proofs.Math.ListN.{length-replicate}
use Rattle.rules.specs.Demands.{instructions}
use Rattle.witness.specs.Demanded.{forgetting}
use Rattle.witness.proofs.Borne.{good_of}
use Rattle.witness.proofs.Counted.{ran_behind, ran_back}
use Rattle.witness.proofs.run_and_back.Goals as goal

pub returns : goal.returns
returns c =
    let steps = c.run-r.result.steps in
    λ _. ran_back steps (c.take_back.ensures _ _ (instructions steps) (length-replicate steps _) (ran_behind _ (good_of _ {at = forgetting c.args.at} (omega (arith, c.well_formed.1.1.1.1.1.0)) (omega (arith, c.well_formed.1.1.1.1.1.0)) c.slice_known-1.given
    c.slice_known-2-1.given c.slice_known-3-1.given c.slice_known-4-1.given) refl (c.run-r.ensures _)))
