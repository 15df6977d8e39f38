-- By the opening: one part after the other, until one is there, or else as a line that gives no part bytes.
use Rattle.std.proofs.Common.{◌∙◌, length, arith}
use Rattle.lines.proofs.Said.{says_same, says_whole}
use Rattle.lines.proofs.Trying.{tried_all, tried_on, tried_past, tried_none}
use Rattle.lines.proofs.read.read_line.Goals as goal

pub loop-part-init : goal.loop-part-init
loop-part-init c = tried_all c.args.text.now

pub returns-in-Some : goal.returns-in-Some
returns-in-Some c =
    let began = c.in-Some.ensures.cases in
    let read = tried_on _ _ _ c.loop-part-test.true _ _ c.opening.ensures began.0 began.1 in
    says_same (says_whole _ _ (length c.opening.result.now) began.1 (omega (arith, began.2)) c.set_line.ensures) (c.loop-part.invariant ∙ read)

pub loop-part-preserved : goal.loop-part-preserved
loop-part-preserved c = c.loop-part.invariant ∙ tried_past _ _ _ c.loop-part-test.true _ c.opening.ensures c.in_default.ensures.cases

pub returns : goal.returns
returns c = says_same c.go_line.ensures (c.loop-part.invariant ∙ tried_none _ _ c.loop-part-test.false)
