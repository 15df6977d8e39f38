use Rattle.std.proofs.Common.{◌-◌, ◌<◌, sym, ◌∙◌, ap, arith, rules}
use Rattle.rules.specs.Machine.{Mem}
use Rattle.ring.specs.Meaning.{booked}
use Rattle.ring.proofs.Books.{bare, unmarked_stops, unmarked_goes, unmarked_ends}
use Rattle.ring.proofs.Turned.{as_long}
use Rattle.ring.proofs.book.forget_unmarked.Goals as goal

pub returns-then-is_mark : goal.returns-then-is_mark
returns-then-is_mark c =
    let left : 0 < c.args.most - c.loop.counter = omega arith in
    λ x. unmarked_stops _ _ (booked _ _ x) c.word_at-w.ensures left (as_long _ _ _ c.loop.invariant.2) (sym c.is_mark.ensures ∙ c.if-is_mark.true) ∙ c.loop.invariant.0 x

pub loop-preserved : goal.loop-preserved
loop-preserved c =
    let left : 0 < c.args.most - c.loop.counter = omega arith in (
      λ x. unmarked_goes _ _ (booked _ _ x) c.word_at-w.ensures left (as_long _ _ _ c.loop.invariant.2) _ (omega arith)
          (sym c.is_mark.ensures ∙ c.if-is_mark.false) (c.forget_one-c.ensures x) ∙ c.loop.invariant.0 x,
      search rules,
      search rules,
      ap (λ (m : Mem). m.ring) (c.forget_one-c.ensures bare) ∙ c.loop.invariant.3,
      omega (arith, ap (λ (m : Mem). m.used) (c.forget_one-c.ensures bare), c.loop.invariant.4),
      omega (arith, ap (λ (m : Mem). m.older) (c.forget_one-c.ensures bare), c.loop.invariant.5),
    )

pub returns : goal.returns
returns c = λ x. unmarked_ends _ _ (omega arith) ∙ c.loop.invariant.0 x
