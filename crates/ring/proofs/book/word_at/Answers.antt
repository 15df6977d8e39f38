-- By the slot.
use Rattle.std.proofs.Common.{◌∙◌, ap, sym, ℕ, get_or}
use Rattle.ring.proofs.Turned.{turned_get_or}
use Rattle.ring.proofs.book.word_at.Goals as goal

pub returns : goal.returns
returns c = sym (turned_get_or c.args.journal.now _ _ c.requires _ ∙ ap (λ (x : ℕ). get_or c.args.journal.now x 0) (sym c.slot-at.ensures.0))
