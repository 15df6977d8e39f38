-- A wrong length, no room, or all records.
use Rattle.std.proofs.Common.{◌≡◌, sym, ◌∙◌, length}
use Rattle.lines.specs.Shown.{Lent, SeenLent}
use Rattle.intelhex.specs.Dump.{Written, write_answer, write_out}
use Rattle.intelhex.specs.Meaning.{Writes}
use Rattle.intelhex.proofs.Writing.{write_unlent, write_short, write_done}
use Rattle.intelhex.proofs.dump.write_hex.Goals as goal

-- both facts as the contract's record
writes : {image : SeenLent} {out : Lent} {w : Written}
    → (w ≡ write_answer (length image.entry.now) (length out.entry.now)) ×
    (out.exit.now ≡ write_out image.entry.now out.entry.now) → Writes image out w
writes e = record { says = e.0; leaves = e.1 }

pub returns-then-not-groups : goal.returns-then-not-groups
returns-then-not-groups c = writes (write_unlent _ _ (sym c.groups.ensures ∙ c.if-not-groups.true))

pub returns-then-out-need : goal.returns-then-out-need
returns-then-out-need c = writes (write_short _ _ (sym c.groups.ensures ∙ c.if-not-groups.false) c.if-out-need.true)

pub returns : goal.returns
returns c =
    writes (write_done _ _ (sym c.groups.ensures ∙ c.if-not-groups.false) _ _ _ _ c.if-out-need.false
    c.put_rows-past.ensures c.put_word-count.ensures)
