-- By the colon, the number of digits, and the digits.
use Rattle.std.proofs.Common.{sym, ◌∙◌}
use Rattle.intelhex.proofs.Saying.{formed_not, formed_odd, formed_even}
use Rattle.intelhex.proofs.line.formed.Goals as goal
use Rattle.intelhex.proofs.line.formed.Goals.{then-digits-ne0-via-then-digits-ne0, then-digits-ne0-via-else-digits-ne0+then-not-all_digits}

pub returns-in_err-digits : goal.returns-in_err-digits
returns-in_err-digits c = rw c.from_residual.ensures (formed_not _ c.in_err-digits.ensures.cases)

pub returns-then-digits-ne0 : goal.returns-then-digits-ne0
returns-then-digits-ne0 c =
    let began = c.in_ok-digits.ensures.cases in
    elim c.then-digits-ne0.branch [
      | then-digits-ne0-via-then-digits-ne0 w ↦ formed_odd _ began.0 _ began.1 w.if-digits-ne0.true
      | then-digits-ne0-via-else-digits-ne0+then-not-all_digits w ↦ formed_even _ began.0 _ began.1 w.if-digits-ne0.false ∙ sym w.if-not-all_digits.ensures
    ]

pub returns : goal.returns
returns c =
    let began = c.in_ok-digits.ensures.cases in
    (formed_even _ began.0 _ began.1 c.if-digits-ne0.false ∙ sym c.if-not-all_digits.ensures, began.1)
