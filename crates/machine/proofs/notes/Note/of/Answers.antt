-- By the kind: a store's word of each, a mark, or none.
use Rattle.std.proofs.Common.{ℕ, arith, sym, ap, ◌∙◌}
use Rattle.rules.specs.Journal.{kind_number}
use Rattle.machine.specs.Meaning.{kind_of}
use Rattle.machine.specs.declared.memory.Memory.{Memory}
use Rattle.machine.proofs.Words.{note_stood, note_of_mark, note_nothing}
use Rattle.machine.proofs.notes.Note.of.Goals as goal
use Rattle.machine.proofs.notes.Note.of.Goals.{in-0, in-1, in-2, in-4}

number : Memory → ℕ
number k = kind_number (kind_of k)

pub returns-in-3 : goal.returns-in-3
returns-in-3 c = rw c.under_kind.ensures (sym (note_of_mark _ _ c.kind_of.ensures c.in-3.is))

pub returns-in_default : goal.returns-in_default
returns-in_default c = note_nothing _ _ c.kind_of.ensures (λ e. omega arith) (λ e. omega arith) (λ e. omega arith) (λ e. omega arith) (λ e. omega arith)

pub returns : goal.returns
unfolding number
returns c =
    note_stood c.match-kind_of.kind _ _ c.kind_of.ensures
    (elim c.match-kind_of.branch [ in-0 w ↦ w.in-0.is ∙ ap number (sym w.kind-is) | in-1 w ↦ w.in-1.is ∙ ap number (sym w.kind-is) | in-2 w ↦ w.in-2.is ∙ ap number (sym w.kind-is) | in-4 w ↦ w.in-4.is ∙ ap number (sym w.kind-is) ])
    c.cell_of-at.ensures c.byte_of.ensures
