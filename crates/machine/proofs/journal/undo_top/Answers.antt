-- No word, or the top one: zeroed, and put back.
use Rattle.std.proofs.Common.{refl, []}
use Rattle.machine.specs.Meaning.{unbooked}
use Rattle.machine.proofs.Words.{undo_none, undone}
use Rattle.machine.proofs.journal.undo_top.Goals as goal

pub returns-then-used-eq0 : goal.returns-then-used-eq0
returns-then-used-eq0 c = λ _. undo_none _ _ c.if-used-eq0.true

pub returns : goal.returns
returns c =
    λ _. undone _ _ _ _ _ _ c.if-used-eq0.false refl c.word_at-w.ensures (c.wipe-below.ensures (unbooked _ _ _ _ _ [] 0 0)) (c.put_back.ensures _ _)
