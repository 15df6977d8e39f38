-- By the two lengths, then by the memory.
use Rattle.bench.proofs.Links.{view_part, view_pad, view_vram}
use Rattle.bench.proofs.viewer.view.Goals as goal

pub returns-then-pad-ne-PAD_SIZE : goal.returns-then-pad-ne-PAD_SIZE
returns-then-pad-ne-PAD_SIZE c = view_pad _ _ _ _ _ c.if-pad-ne-PAD_SIZE.true

pub returns-then-vram-ne-VDP_REACH : goal.returns-then-vram-ne-VDP_REACH
returns-then-vram-ne-VDP_REACH c = view_vram _ _ _ _ _ c.if-pad-ne-PAD_SIZE.false c.if-vram-ne-VDP_REACH.true

pub returns-in-Cpu : goal.returns-in-Cpu
returns-in-Cpu c = view_part _ _ _ _ _ _ c.if-pad-ne-PAD_SIZE.false c.if-vram-ne-VDP_REACH.false (rw c.in-Cpu.is c.part_of.ensures)

pub returns-in-Vdp : goal.returns-in-Vdp
returns-in-Vdp c = view_part _ _ _ _ _ _ c.if-pad-ne-PAD_SIZE.false c.if-vram-ne-VDP_REACH.false (rw c.in-Vdp.is c.part_of-in-Vdp.ensures)
