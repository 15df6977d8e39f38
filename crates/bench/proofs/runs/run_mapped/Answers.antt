-- A map of another length, or the run that marks what it reads.
use Rattle.bench.proofs.Ahead.{map_unfit, map_kept, map_fits_lem, map_left_lem}
use Rattle.bench.proofs.runs.run_mapped.Goals as goal

pub returns-then-map-image : goal.returns-then-map-image
returns-then-map-image c = (
  λ _. rw c.turned_down.ensures (map_unfit _ _ _ _ _ _ c.args.at _ c.if-map-image.true),
  λ _. map_kept _ _ _ _ _ _ c.args.at _ c.if-map-image.true,
)

pub returns : goal.returns
returns c = (
  λ _. map_fits_lem _ _ _ _ _ _ c.args.at _ c.if-map-image.false (c.marking_run.ensures.0 _),
  λ _. map_left_lem _ _ _ _ _ _ c.args.at _ c.if-map-image.false (c.marking_run.ensures.1 _),
)
