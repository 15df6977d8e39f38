-- The sum of what each `flag` ensures.
use Rattle.rules.specs.Arithmetic.{status_byte}
use Rattle.number.proofs.sums.status_byte.Goals as goal

pub returns : goal.returns
unfolding status_byte
returns c =
    simp (
      c.flag.ensures.0,
      c.flag-2.ensures.0,
      c.flag-3.ensures.0,
      c.flag-4.ensures.0,
      c.flag-5.ensures.0,
    )
