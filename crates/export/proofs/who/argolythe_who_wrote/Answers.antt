-- The call of culprit, its answer told in numbers.
use Rattle.std.proofs.Common.{◌∙◌, ap}
use Rattle.export.specs.Who.{numbers_of}
use Rattle.export.proofs.Asked.{asked_there, asked_nowhere}
use Rattle.export.proofs.who.argolythe_who_wrote.Goals as goal

pub returns-then-has_cells : goal.returns-then-has_cells
returns-then-has_cells c =
    c.tell.ensures ∙ ap numbers_of (asked_there _ _ _ c.kind_of.ensures c.has_cells.ensures c.who_wrote-w.ensures c.if-has_cells.true)

pub returns : goal.returns
returns c =
    c.tell-2.ensures ∙ ap numbers_of (asked_nowhere _ _ _ c.kind_of.ensures c.has_cells.ensures c.who_wrote-w.ensures c.if-has_cells.false c.unfound.ensures)
