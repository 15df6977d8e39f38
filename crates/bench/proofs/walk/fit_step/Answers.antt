-- An array is the slice's bytes.
use Rattle.bench.proofs.walk.fit_step.Goals as goal

pub returns : goal.returns
returns c = (
  λ _. rw (c.array.ensures.now, c.array-2.ensures.now, c.array-3.ensures.now) at (c.step_arrays.ensures.0 _),
  λ _. rw (c.array.ensures.now, c.array-2.ensures.now, c.array-3.ensures.now) at (c.step_arrays.ensures.1 _),
)
