use Rattle.std.proofs.Common.{sym, arith}
use Rattle.lines.proofs.Widths.{width_one, width_is}
use Rattle.lines.proofs.print.width_of.Goals as goal

pub returns-in-Some : goal.returns-in-Some
returns-in-Some c = (sym (width_is _ _ c.in-Some.ensures.power_le c.in-Some.ensures.next_power_gt), omega (arith, c.in-Some.ensures.bound))

pub returns-in-None : goal.returns-in-None
returns-in-None c = (sym (width_one c.args.n (omega (arith, c.in-None.ensures.none))), omega arith)
