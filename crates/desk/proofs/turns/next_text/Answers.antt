-- A line that prints something ends the loop.
use Rattle.std.proofs.Common.{rules, refl, ◌≡◌, Err}
use Rattle.desk.proofs.Telling.{loud_bad, line_turns, line_quiet}
use Rattle.desk.proofs.turns.next_text.Goals as goal

pub returns-then-count-ne0 : goal.returns-then-count-ne0
returns-then-count-ne0 c = line_turns c.loop-line.invariant c.in-Some.ensures c.in_ok-count.ensures refl c.if-count-ne0.true

pub returns-in_err-count : goal.returns-in_err-count
returns-in_err-count c =
    let is : c.from_residual.result ≡ Err c.in_err-count.field-0.0 = search rules in
    rw is (line_turns c.loop-line.invariant c.in-Some.ensures c.in_err-count.ensures refl (loud_bad c.in_err-count.ensures refl))

pub loop-line-preserved : goal.loop-line-preserved
loop-line-preserved c = line_quiet c.loop-line.invariant c.in-Some.ensures c.in_ok-count.ensures c.if-count-ne0.false
