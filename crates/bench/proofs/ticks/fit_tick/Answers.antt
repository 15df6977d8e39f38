-- An array is the slice's bytes.
use Rattle.bench.proofs.ticks.fit_tick.Goals as goal

pub returns : goal.returns
returns c = λ _. rw (c.array.ensures.now, c.array-2.ensures.now, c.array-3.ensures.now) at (c.tick_arrays.ensures _)
