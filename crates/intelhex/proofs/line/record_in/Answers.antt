-- Bad in form, bad in count or sum; else by the type.
use Rattle.std.proofs.Common.{refl, sym, ◌∙◌, arith}
use Rattle.intelhex.proofs.Saying.{unformed, unchecked, rec_bytes, rec_end, rec_kind, rec_long, rec_placed}
use Rattle.intelhex.proofs.line.record_in.Goals as goal
use Rattle.intelhex.proofs.line.record_in.Goals.{in_default-via-in-1+then-count-eq0+else-address-eq0, in_default-via-in-1+else-count-eq0, in_default-via-in_default-1}

pub returns-in_err-digits : goal.returns-in_err-digits
returns-in_err-digits c = rw c.from_residual.ensures (unformed _ c.in_err-digits.ensures)

pub returns-then-not-checked : goal.returns-then-not-checked
returns-then-not-checked c = unchecked _ _ c.in_ok-digits.ensures.0 c.in_ok-digits.ensures.1 (sym c.if-not-checked.ensures.value)

pub returns-in-0 : goal.returns-in-0
returns-in-0 c =
    rec_bytes _ _ c.in_ok-digits.ensures.0 c.in_ok-digits.ensures.1 (sym c.if-not-checked.ensures.value) _ _ _ _ c.pair-count.ensures
    (c.from.ensures ∙ c.pair.ensures) (c.from-2.ensures ∙ c.pair-2.ensures) c.pair-3.ensures _ _ refl refl refl c.in-0.is
    (omega (arith, c.from.ensures)) (omega (arith, c.from-2.ensures)) (omega arith)

pub returns-in-1 : goal.returns-in-1
returns-in-1 c =
    rec_end _ _ c.in_ok-digits.ensures.0 c.in_ok-digits.ensures.1 (sym c.if-not-checked.ensures.value) _ _ _ _ c.pair-count.ensures
    (c.from.ensures ∙ c.pair.ensures) (c.from-2.ensures ∙ c.pair-2.ensures) c.pair-3.ensures c.in-1.is c.if-count-eq0.true c.if-address-eq0.true

pub returns-in_default : goal.returns-in_default
returns-in_default c =
    elim c.in_default.branch [
      | in_default-via-in-1+then-count-eq0+else-address-eq0 w ↦ rec_placed _ _ c.in_ok-digits.ensures.0 c.in_ok-digits.ensures.1 (sym c.if-not-checked.ensures.value) _ _ _ _ c.pair-count.ensures
          (c.from.ensures ∙ c.pair.ensures) (c.from-2.ensures ∙ c.pair-2.ensures) c.pair-3.ensures w.in-1.is w.if-count-eq0.true w.if-address-eq0.false
      | in_default-via-in-1+else-count-eq0 w ↦ rec_long _ _ c.in_ok-digits.ensures.0 c.in_ok-digits.ensures.1 (sym c.if-not-checked.ensures.value) _ _ _ _ c.pair-count.ensures
          (c.from.ensures ∙ c.pair.ensures) (c.from-2.ensures ∙ c.pair-2.ensures) c.pair-3.ensures w.in-1.is w.if-count-eq0.false
      | in_default-via-in_default-1 w ↦ rec_kind _ _ c.in_ok-digits.ensures.0 c.in_ok-digits.ensures.1 (sym c.if-not-checked.ensures.value) _ _ _ _ c.pair-count.ensures
          (c.from.ensures ∙ c.pair.ensures) (c.from-2.ensures ∙ c.pair-2.ensures) c.pair-3.ensures (λ e. omega (arith, e)) (λ e. omega (arith, e))
    ]
