use Rattle.std.proofs.Common.{◌-◌, ◌<◌, refl, ◌∙◌, sym, arith, rules}
use Rattle.std.proofs.Math.Nat.{sub-zero}
use Rattle.bench.specs.Numbers.{answer_of}
use Rattle.bench.proofs.Refusals.{none_is_0}
use Rattle.witness.proofs.Counted.{behind_on, fewer_left, all_oldest, count_oldest, none_kept_lem, none_left}
use Rattle.witness.proofs.take_back.Goals as goal

pub loop-init : goal.loop-init
loop-init c = (λ s₀ ws e b. rw (all_oldest ws _ e, sub-zero) b, refl, omega arith, omega arith)

pub fewer-steps-requires : goal.fewer-steps-requires
fewer-steps-requires c = λ z. omega arith

pub loop-preserved : goal.loop-preserved
loop-preserved c =
    let inv = c.loop.invariant in
    let left : 0 < c.args.n - c.loop.counter = omega arith in
    let counted = rw (none_is_0 c.step_back-b.result.refusal c.is_none.result c.is_none.ensures) at c.fewer-steps.ensures in
    let kept = fewer_left (answer_of c.step_back-b.result.refusal).number counted inv.2 in (
      λ s₀ ws e b. behind_on ws _ (c.step_back-b.ensures _) (inv.0 s₀ ws e b) (omega arith) e inv.3 left inv.2 counted,
      search rules,
      omega (arith, kept.0),
      omega (arith, kept.1, inv.3),
    )

pub returns : goal.returns
returns c =
    let inv = c.loop.invariant in
    λ rest s₀ ws e b.
    let count = count_oldest ws e inv.3 in
    record {
      count = count;
      kept = none_kept_lem (inv.0 s₀ ws e b) (omega arith);
      all = λ r. sym count ∙ none_left (inv.0 s₀ ws e b) (omega arith) r;
    }
