-- By the two tests.
use Rattle.std.proofs.Common.{ne_eqb, eq-eqb}
use Rattle.export.specs.Who.{has_cells}
use Rattle.export.proofs.who.has_cells.Goals as goal

pub returns-then-memory-ne3 : goal.returns-then-memory-ne3
unfolding has_cells
returns-then-memory-ne3 c = rw (ne_eqb _ _ c.if-memory-ne3.true)

pub returns-else-memory-ne3 : goal.returns-else-memory-ne3
unfolding has_cells
returns-else-memory-ne3 c = rw (eq-eqb _ _ c.if-memory-ne3.false)
