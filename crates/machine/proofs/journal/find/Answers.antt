use Rattle.std.proofs.Common.{Some, sym, ap, ◌∙◌, arith}
use Rattle.machine.specs.Meaning.{noted}
use Rattle.machine.specs.declared.notes.Note.{Note}
use Rattle.machine.proofs.Words.{scan_start, scan_on, scan_mark, scan_bad, scan_end}
use Rattle.machine.proofs.journal.find.Goals as goal

pub loop-top-init : goal.loop-top-init
loop-top-init c = scan_start _ _ _

pub returns-then-not-sound : goal.returns-then-not-sound
returns-then-not-sound c = scan_bad _ _ _ _ _ c.loop-top.invariant _ (omega arith) c.word_at-w.ensures (sym c.sound.ensures ∙ c.if-not-sound.true)

pub returns-in-Some-Mark : goal.returns-in-Some-Mark
returns-in-Some-Mark c =
    let said = ap (λ (x : Note). noted (Some x)) (sym c.in-Some-Mark.field-0-is) ∙ c.in-Some-Mark.ensures in
    scan_mark _ _ _ _ _ c.loop-top.invariant (omega arith) (omega arith) c.word_at-w.ensures (sym c.sound.ensures ∙ c.if-not-sound.false) said

pub loop-top-preserved : goal.loop-top-preserved
loop-top-preserved c =
    let said = ap (λ (x : Note). noted (Some x)) (sym c.in-Some-Stood.field-0-is) ∙ c.in-Some-Stood.ensures in
    scan_on _ _ _ _ _ c.loop-top.invariant (omega arith) (omega arith) c.word_at-w.ensures (sym c.sound.ensures ∙ c.if-not-sound.false) said

pub returns : goal.returns
returns c = scan_end _ _ _ _ _ c.loop-top.invariant (omega arith)
