-- By the ranges of characters.
use Rattle.std.proofs.Common.{arith}
use Rattle.lines.proofs.Numerals.{digit_low, digit_high, digit_below, digit_between, digit_above}
use Rattle.lines.proofs.digits.digit.Goals as goal

pub returns-in-48-to-57 : goal.returns-in-48-to-57
returns-in-48-to-57 c =
    let says = digit_low c.args.c (omega arith) (omega arith) in
    (omega (arith, says), omega (arith, says))

pub returns-in-65-to-70 : goal.returns-in-65-to-70
returns-in-65-to-70 c =
    let says = digit_high c.args.c (omega arith) (omega arith) in
    (omega (arith, says), omega (arith, says))

pub returns-in_default : goal.returns-in_default
returns-in_default c = λ h. omega (arith, h, digit_below c.args.c (omega arith))

pub returns-in_default-2 : goal.returns-in_default-2
returns-in_default-2 c = λ h. omega (arith, h, digit_between c.args.c (omega arith) (omega arith))

pub returns-in_default-3 : goal.returns-in_default-3
returns-in_default-3 c = λ h. omega (arith, h, digit_above c.args.c (omega arith) (omega arith))
