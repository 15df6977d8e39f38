-- By the tests, one after the other: each `None` is the rule's `bad`, and at the end the bytes are those of the text.
use Rattle.std.proofs.Common.{◌≡◌, ℕ, zero, suc, ◌+◌, ◌≤◌, refl, sym, ◌∙◌, ap, length, length-drop, arith}
use Rattle.lines.specs.Digits.{byte_count}
use Rattle.lines.specs.Lines.{placed}
use Rattle.lines.proofs.Reading.{within_limit, set_short, set_tabless, set_read, whole, placed_none, placed_past, placed_in, two_each}
use Rattle.lines.proofs.Said.{says_bad, says_none, says_set}
use Rattle.lines.proofs.read.set_line.Goals as goal
use Rattle.lines.proofs.read.set_line.Goals.{then-text-places-via-then-text-places, then-text-places-via-else-text-places+then-text-places-ne9}

nought : (n : ℕ) → (1 ≤ n → ⊥) → n ≡ 0
nought zero h = refl
nought (suc n) h = absurd (h (omega arith))

pub returns-then-text-places : goal.returns-then-text-places
returns-then-text-places c =
    elim c.then-text-places.branch [
      | then-text-places-via-then-text-places w ↦ says_bad _ _ (set_short _ c.args.text.now _ c.places-places.ensures w.if-text-places.true)
      | then-text-places-via-else-text-places+then-text-places-ne9 w ↦ says_bad _ _ (set_tabless _ c.args.text.now _ c.places-places.ensures w.if-text-places-ne9.true)
    ]

pub returns-in_err-n : goal.returns-in_err-n
unfolding placed
returns-in_err-n c = says_none c.from_residual.ensures (sym (set_read _ c.args.text.now _ c.places-places.ensures _ c.if-text-places-ne9.false c.in_err-n.ensures))

pub returns-in_err-count : goal.returns-in_err-count
returns-in_err-count c =
    let read = set_read _ c.args.text.now _ c.places-places.ensures _ c.if-text-places-ne9.false c.in_ok-n.ensures in
    let counted = ap byte_count (whole c.args.text.now (c.places-places.result + 1)) in
    says_none c.from_residual-in_err-count.ensures (placed_none _ _ _ _ counted (nought _ c.in_err-count.ensures) ∙ sym read)

pub overflow_add-end : goal.overflow_add-end
overflow_add-end c =
    let rest : ℕ = c.places-places.result + 1 in
    let counted = c.in_ok-count.ensures.1 ∙ ap byte_count (whole c.args.text.now rest) in
    let small = within_limit _ _ _ c.in_ok-n.ensures in
    let some : 1 ≤ c.in_ok-count.count = omega (arith, c.in_ok-count.ensures.0, c.in_ok-count.ensures.1) in
    omega (arith, small, two_each _ _ counted (λ z. omega arith), length-drop rest c.args.text.now)

pub returns-then-size-end : goal.returns-then-size-end
returns-then-size-end c =
    let counted = c.in_ok-count.ensures.1 ∙ ap byte_count (whole c.args.text.now (c.places-places.result + 1)) in
    let past = rw c.size.ensures at c.if-size-end.true in
    let some : 1 ≤ c.in_ok-count.count = omega (arith, c.in_ok-count.ensures.0, c.in_ok-count.ensures.1) in
    let read = set_read _ c.args.text.now _ c.places-places.ensures _ c.if-text-places-ne9.false c.in_ok-n.ensures in
    says_bad _ _ (placed_past _ _ _ _ counted some past ∙ sym read)

pub returns : goal.returns
returns c =
    let rest : ℕ = c.places-places.result + 1 in
    let counted = c.in_ok-count.ensures.1 ∙ ap byte_count (whole c.args.text.now rest) in
    let inside = rw c.size.ensures at c.if-size-end.false in
    let some : 1 ≤ c.in_ok-count.count = omega (arith, c.in_ok-count.ensures.0, c.in_ok-count.ensures.1) in
    let fits : rest ≤ length c.args.text.now = omega arith in
    let read = set_read _ c.args.text.now _ c.places-places.ensures _ c.if-text-places-ne9.false c.in_ok-n.ensures in
    says_set c.args.part c.args.text.now _ rest _ fits (whole c.args.text.now rest) counted some inside (placed_in _ _ _ _ counted some inside ∙ sym read)
