-- A mask of one bit is a remainder.
use Rattle.std.proofs.Common.{ℕ, ◌/◌, ◌^◌, eqb, ap}
use lib.Bits.{and_mask}
use Rattle.rules.specs.Machine.{bit}
use Rattle.number.proofs.bits.bit.Goals as goal

pub returns : goal.returns
unfolding bit
returns c = ap (λ (n : ℕ). eqb n 1) (and_mask (c.args.b / 2 ^ c.args.n) 1)
