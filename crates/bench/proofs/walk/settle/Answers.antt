-- Done: its own words tell the stores. Refused: the words that it had taken are put back.
use Rattle.std.proofs.Common.{rules, arith, ap, refl}
use Rattle.rules.specs.Machine.{Mem}
use Rattle.machine.specs.Meaning.{kept}
use Rattle.bench.proofs.Settling.{few, book, own, marked, room, is_done, is_undone}
use Rattle.bench.proofs.walk.settle.Goals as goal

pub close-book-requires : goal.close-book-requires
close-book-requires c = rw c.book.ensures (c.requires.book.before, few c.requires)

pub overflow_sub-taken : goal.overflow_sub-taken
overflow_sub-taken c =
    let seen = book c.requires _ c.book.ensures c.close-book.ensures in
    omega (arith, ap (λ (m : Mem). m.used) seen, ap (λ (m : Mem). m.older) seen, own c.requires)

pub overflow_sub-result : goal.overflow_sub-result
overflow_sub-result c =
    let seen = book c.requires _ c.book.ensures c.close-book.ensures in
    omega (arith, ap (λ (m : Mem). m.used) seen, ap (λ (m : Mem). m.older) seen, marked c.requires c.in-Ok.is)

pub undo-back-requires : goal.undo-back-requires
undo-back-requires c =
    let seen = book c.requires _ c.book.ensures c.close-book.ensures in
    omega (arith, ap (λ (m : Mem). m.used) seen, room c.requires, c.close-book.auto.journal)

pub returns-in-Ok : goal.returns-in-Ok
unfolding kept
returns-in-Ok c = (
  λ b. rw c.rest.ensures (is_done b _ (book c.requires _ c.book.ensures c.close-book.ensures) c.in-Ok.is refl),
  refl,
  search rules,
)

pub returns-in-Err : goal.returns-in-Err
unfolding kept
returns-in-Err c = (
  λ b. rw (c.turned_down.ensures, c.rest-in-Err.ensures)
      (is_undone b _ c.in-Err.why (book c.requires _ c.book.ensures c.close-book.ensures) c.in-Err.is refl (c.undo-back.ensures _)),
  refl,
  search rules,
)
