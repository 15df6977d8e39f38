-- A line that says nothing, one more that says something, and no more lines.
use Rattle.std.proofs.Common.{sym, arith}
use Rattle.rig.proofs.Gathering.{says_nothing, line_on, none_left}
use Rattle.rig.proofs.gather.gather.Goals as goal

pub returns-in_default-take_line : goal.returns-in_default-take_line
returns-in_default-take_line c =
    record {
      says = says_nothing c.loop-line.invariant.0 c.in-Some.ensures (sym c.in_default-take_line.ensures.says);
      counts = omega arith;
      leaves = λ z. absurd (omega arith);
    }

pub loop-line-preserved : goal.loop-line-preserved
loop-line-preserved c = (
  line_on c.loop-line.invariant.0 c.in-Some.ensures (sym c.in-Some-take_line.ensures.says) c.in-Some-take_line.ensures.leaves,
  omega (arith, c.in-Some.ensures.shorter, c.loop-line.invariant.1),
)

pub returns : goal.returns
returns c = none_left c.loop-line.invariant.0 c.in_default.ensures
