-- By what the line says: a run, or nothing.
use Rattle.std.proofs.Common.{rules, refl, sym, ap, ◌∙◌, ◌≡◌, subst, List, ℕ, Result}
use Rattle.rules.specs.Machine.{State}
use Rattle.lines.specs.Lines.{Line}
use Rattle.lines.specs.Meaning.{told}
use Rattle.lines.proofs.Printing.{front}
use Rattle.desk.specs.Meaning.{Obeyed}
use Rattle.desk.specs.declared.obey.BadLine.{BadLine}
use Rattle.desk.proofs.obey.obey.Goals as goal

-- a line that says m
by_line : {k : ℕ} {l m : Line} {s s₁ : State} {buffer : List ℕ} {r : Result ℕ BadLine} → l ≡ m → Obeyed k l s s₁ buffer r → Obeyed k m s s₁ buffer r
by_line {k} {l} {m} {s} {s₁} {buffer} {r} e o = subst (λ (x : Line). Obeyed k x s s₁ buffer r) e o

pub returns-in-Run : goal.returns-in-Run
returns-in-Run c = by_line (sym (ap told c.in-Run.is) ∙ c.in-Some.ensures.means) (c.run_shown.ensures _)

pub returns-in_default : goal.returns-in_default
returns-in_default c =
    let number = front c.put_bad-count.ensures (search rules) (search rules) in
    by_line c.in_default.ensures.means (record { leaves = refl; prints = number; taken = refl })
