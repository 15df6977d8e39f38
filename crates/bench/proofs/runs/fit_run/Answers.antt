use Rattle.std.proofs.Common.{◌∙◌, sym, arith, rules}
use Rattle.bench.proofs.Refusals.{some_refused, none_done}
use Rattle.bench.proofs.Links.{fitting_at}
use Rattle.bench.proofs.Ahead.{few, goes_on, stops, ends, marks_on, marks_last, marks_end}
use Rattle.bench.proofs.runs.fit_run.Goals as goal

pub fit_step-r-requires : goal.fit_step-r-requires
fit_step-r-requires c = fitting_at c.loop-done.image c.loop-done.invariant.0.fit

pub returns-then-is_some : goal.returns-then-is_some
returns-then-is_some c = (
  λ _. stops c.loop-done.invariant.0 (c.fit_step-r.ensures.0 _) c.loop-done-test.true (some_refused c.fit_step-r.result.refusal (sym c.is_some.ensures ∙ c.if-is_some.true)),
  λ _. marks_last _ c.loop-done.invariant.0 (c.fit_step-r.ensures.0 _) (c.fit_step-r.ensures.1 _) c.loop-done-test.true (some_refused c.fit_step-r.result.refusal (sym c.is_some.ensures ∙ c.if-is_some.true)) ∙ c.loop-done.invariant.1,
)

pub overflow_add-stores : goal.overflow_add-stores
overflow_add-stores c =
    record {
      fits = omega (
        arith,
        few c.loop-done.invariant.0 (c.fit_step-r.ensures.0 _) (none_done c.fit_step-r.result.refusal (sym c.is_some.ensures ∙ c.if-is_some.false)),
        c.loop-done.invariant.0.stored,
        c.loop-done.invariant.0.made,
        c.ranges.n.fits,
      );
    }

pub loop-done-preserved : goal.loop-done-preserved
loop-done-preserved c = (
  goes_on c.loop-done.invariant.0 (c.fit_step-r.ensures.0 _) c.loop-done-test.true (none_done c.fit_step-r.result.refusal (sym c.is_some.ensures ∙ c.if-is_some.false)),
  marks_on _ c.loop-done.invariant.0 (c.fit_step-r.ensures.0 _) (c.fit_step-r.ensures.1 _) c.loop-done-test.true (none_done c.fit_step-r.result.refusal (sym c.is_some.ensures ∙ c.if-is_some.false)) ∙ c.loop-done.invariant.1,
  search rules,
)

pub returns : goal.returns
returns c = (λ _. ends c.loop-done.invariant.0 (omega arith) (omega arith), λ _. marks_end _ _ _ _ (search rules) ∙ c.loop-done.invariant.1)
