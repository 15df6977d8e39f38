use Rattle.std.proofs.Common.{refl, ◌∙◌, ◌≤◌, arith, rules}
use Rattle.rules.specs.Journal.{undo}
use Rattle.machine.proofs.Words.{undo_more, undone_used}
use Rattle.machine.proofs.journal.undo.Goals as goal

pub loop-init : goal.loop-init
unfolding undo
loop-init c = (λ _. refl, refl, c.requires)

pub loop-preserved : goal.loop-preserved
loop-preserved c =
    let fewer : c.undo_top-b.result.used ≤ c.loop.b.used = undone_used _ _ _
    (c.undo_top-b.ensures (record { image = tt; map = tt; groups = 0; pad = tt; vram = tt; regs = tt; journal = tt })) refl in (
      λ _. c.undo_top-b.ensures _ ∙ undo_more _ _ _ (c.loop.invariant.0 _),
      search rules,
      omega arith,
    )
