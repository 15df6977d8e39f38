-- By the first line feed, if there is one; else by how much there is, and by whether more is to come.
use Rattle.desk.proofs.Cut.{head_fed, head_long, head_last, waits, never}
use Rattle.desk.proofs.input.line_at.Goals as goal
use Rattle.desk.proofs.input.line_at.Goals.{then-size-eq0-via-then-size-eq0, then-size-eq0-via-else-size-eq0+then-not-ended}

pub returns-then-end-have : goal.returns-then-end-have
returns-then-end-have c = head_fed _ _ _ c.find-end.ensures.0 c.requires _ c.if-end-have.true

pub returns-then-size-gt-LONGEST : goal.returns-then-size-gt-LONGEST
returns-then-size-gt-LONGEST c = head_long _ _ _ c.find-end.ensures.0 c.requires c.if-end-have.false c.find-end.ensures.1 _ c.if-size-gt-LONGEST.true

pub returns-then-size-eq0 : goal.returns-then-size-eq0
returns-then-size-eq0 c =
    let none = waits _ _ _ c.find-end.ensures.0 c.requires c.if-end-have.false c.find-end.ensures.1 _ c.if-size-gt-LONGEST.false in
    elim c.then-size-eq0.branch [ then-size-eq0-via-then-size-eq0 w ↦ none (λ _. w.if-size-eq0.true) | then-size-eq0-via-else-size-eq0+then-not-ended w ↦ none (λ e. never e w.if-not-ended.true) ]

pub returns : goal.returns
returns c = head_last _ _ _ c.find-end.ensures.0 c.requires c.if-end-have.false c.find-end.ensures.1 _ c.if-not-ended.false c.if-size-eq0.false
