use Rattle.std.proofs.Common.{ℕ, ◌<◌, ◌≤◌, refl, ◌∙◌, ⊎_elim, arith, true-eqb, false-eqb}
use Rattle.lines.proofs.Numerals.{number_none, number_start, number_off, number_past, number_on, number_end}
use Rattle.lines.proofs.Widths.{either}
use Rattle.lines.proofs.digits.number_of.Goals as goal

pub returns-then-is_empty : goal.returns-then-is_empty
returns-then-is_empty c = number_none _ _ _ (true-eqb _ 0 c.if-is_empty.ensures)

pub loop-c-init : goal.loop-c-init
loop-c-init c = (number_start _ _ (false-eqb _ 0 c.if-is_empty.ensures), omega arith)

off : (base d : ℕ) → (d < 16 → ⊥) → base ≤ 16 → base ≤ d
off base d h l = ⊎_elim (λ e. absurd (h e)) (λ e. omega arith) (either d 16)

pub returns-in_err-digit : goal.returns-in_err-digit
returns-in_err-digit c = rw c.from_residual.ensures (number_off _ _ _ _ c.loop-c.invariant.0 _ _ refl c.loop-c-test.true (off _ _ c.in_err-digit.ensures c.requires.1))

pub returns-then-base-d : goal.returns-then-base-d
returns-then-base-d c = number_off _ _ _ _ c.loop-c.invariant.0 _ _ (c.from-d.ensures ∙ c.in_ok-digit.ensures.1) c.loop-c-test.true c.if-base-d.true

pub returns-then-limit-v : goal.returns-then-limit-v
returns-then-limit-v c =
    let says = c.from-d.ensures ∙ c.in_ok-digit.ensures.1 in
    number_past _ _ _ _ c.loop-c.invariant.0 _ _ says c.loop-c-test.true c.if-base-d.false c.requires.0 c.if-limit-v.true

pub loop-c-preserved : goal.loop-c-preserved
loop-c-preserved c =
    let says = c.from-d.ensures ∙ c.in_ok-digit.ensures.1 in
    (number_on _ _ _ _ c.loop-c.invariant.0 _ says c.loop-c-test.true c.if-base-d.false, omega arith)

pub returns : goal.returns
returns c = number_end _ _ _ _ c.loop-c.invariant.0 _ c.loop-c-test.false c.loop-c.invariant.1
