-- A wrong length; or cleared and judged; then refused, or filled.
use Rattle.std.proofs.Common.{◌≡◌, sym, ◌∙◌, length}
use Rattle.lines.specs.Shown.{Lent, SeenLent}
use Rattle.intelhex.specs.Dump.{Read, read_answer, read_image}
use Rattle.intelhex.specs.Meaning.{Reads}
use Rattle.intelhex.proofs.Judging.{read_unlent, read_refused, read_done, refused, sound}
use Rattle.intelhex.proofs.dump.read_hex.Goals as goal

-- both facts as the contract's record
reads : {text : SeenLent} {image : Lent} {r : Read}
    → (r ≡ read_answer (length image.entry.now) text.entry.now) × (image.exit.now ≡ read_image image.entry.now text.entry.now)
    → Reads text image r
reads e = record { says = e.0; leaves = e.1 }

pub returns-then-not-groups : goal.returns-then-not-groups
returns-then-not-groups c = reads (read_unlent _ _ (sym c.groups.ensures ∙ c.if-not-groups.true))

pub returns-then-is_ok : goal.returns-then-is_ok
returns-then-is_ok c =
    reads (read_done _ _ (sym c.groups.ensures ∙ c.if-not-groups.false) _ (c.fill.ensures.after (λ y e. e)) _ c.judge-judged.ensures
    _ c.judge-judged.auto.flags _ (c.fill-2.ensures.after (λ y e. e)) _ (sound _ (sym c.is_ok.ensures.value ∙ c.if-is_ok.true)) c.fill-then-is_ok.ensures)

pub returns-else-is_ok : goal.returns-else-is_ok
returns-else-is_ok c =
    reads (read_refused _ _ (sym c.groups.ensures ∙ c.if-not-groups.false) _ (c.fill.ensures.after (λ y e. e)) _ c.judge-judged.ensures
    _ c.judge-judged.auto.flags _ (c.fill-2.ensures.after (λ y e. e)) (refused _ (sym c.is_ok.ensures.value ∙ c.if-is_ok.false)))
