-- By the five tests.
use Rattle.std.proofs.Common.{eq-eqb, ne_eqb, le-leb}
use borrow.Author.Tests.{lt-leb}
use Rattle.rules.specs.Machine.{◌also◌}
use Rattle.rules.specs.Calls.{parts_fit}
use Rattle.bench.proofs.fits.parts_fit.Goals as goal

pub returns-then-pad-ne-PAD_SIZE : goal.returns-then-pad-ne-PAD_SIZE
unfolding parts_fit ◌also◌
returns-then-pad-ne-PAD_SIZE c = rw (ne_eqb _ _ c.if-pad-ne-PAD_SIZE.true)

pub returns-then-vram-ne-VDP_REACH : goal.returns-then-vram-ne-VDP_REACH
unfolding parts_fit ◌also◌
returns-then-vram-ne-VDP_REACH c = rw (eq-eqb _ _ c.if-pad-ne-PAD_SIZE.false, ne_eqb _ _ c.if-vram-ne-VDP_REACH.true)

pub returns-then-regs-ne-REGISTERS : goal.returns-then-regs-ne-REGISTERS
unfolding parts_fit ◌also◌
returns-then-regs-ne-REGISTERS c =
    rw (eq-eqb _ _ c.if-pad-ne-PAD_SIZE.false, eq-eqb _ _ c.if-vram-ne-VDP_REACH.false, ne_eqb _ _ c.if-regs-ne-REGISTERS.true)

pub returns-then-journal-le1048576 : goal.returns-then-journal-le1048576
unfolding parts_fit ◌also◌
returns-then-journal-le1048576 c =
    rw (eq-eqb _ _ c.if-pad-ne-PAD_SIZE.false, eq-eqb _ _ c.if-vram-ne-VDP_REACH.false, eq-eqb _ _ c.if-regs-ne-REGISTERS.false, le-leb _ _ c.if-journal-le1048576.true)

pub returns-else-journal-le1048576 : goal.returns-else-journal-le1048576
unfolding parts_fit ◌also◌
returns-else-journal-le1048576 c =
    rw (eq-eqb _ _ c.if-pad-ne-PAD_SIZE.false, eq-eqb _ _ c.if-vram-ne-VDP_REACH.false, eq-eqb _ _ c.if-regs-ne-REGISTERS.false, lt-leb _ _ c.if-journal-le1048576.false)
