-- No sound record, or the newest step's words put back.
use Rattle.std.proofs.Common.{rules}
use Rattle.bench.proofs.Links.{back_lost, back_found}
use Rattle.bench.proofs.walk.fit_back.Goals as goal

pub returns-in_default : goal.returns-in_default
returns-in_default c = λ _. rw c.turned_down.ensures (back_lost _ c.book-book.ensures c.in_default.ensures)

pub returns : goal.returns
returns c =
    λ _. rw c.rest.ensures (back_found _ c.book-book.ensures (search rules) c.in-Some.ensures (c.undo-left.ensures _))
