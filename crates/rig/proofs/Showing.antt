-- Laws of the lines that a dump is shown by.
-- Assumes nothing.
use Rattle.std.proofs.Common.{◌≡◌, sym, ap, ◌∙◌, subst, Bool, true, false, cond, List, [], ◌++◌, ℕ, suc, ◌+◌, ◌/◌, arith, length, length-append}
use Rattle.std.proofs.Math.Seq.{take_at, drop_at}
use Rattle.lines.specs.Shown.{Puts, Front}
use Rattle.lines.proofs.Printing.{Owes, less}
use Rattle.std.proofs.lemmas.Bool.{eq-eqb, ne_eqb}
use Rattle.intelhex.specs.Dump.{Read, idle, groups, read_answer, read_image}
use Rattle.rig.specs.Rig.{grom_line, grom_lines, refusal, shown}

-- a row of 16 bytes, and what is left after it
module _ (at : ℕ) (bs more : List ℕ) {rest : List ℕ} (l : length bs ≡ 16) (e : rest ≡ bs ++ more) where
  cons : grom_lines (length rest / 16) at rest ≡ cond (idle bs) [] (grom_line at bs) ++ grom_lines (length more / 16) (at + 16) more
  unfolding grom_lines
  cons =
      let left : length rest / 16 ≡ suc (length more / 16) = omega (arith, l, ap length e, length-append bs more) in
      rw (left, e, take_at bs more 16 l, drop_at bs more 16 l)

  module _ {b : Bool} (i : b ≡ idle bs) {from past : ℕ} {old text out : List ℕ} (o : Owes old from text (grom_lines (length rest / 16) at rest) out past) where
    -- one of zeros owes nothing
    pub pass : b ≡ true → Owes old from text (grom_lines (length more / 16) (at + 16) more) out past
    pass t = subst (λ (r : List ℕ). Owes old from text r out past) (cons ∙ rw (← i, t)) o

    -- any other owes its line
    pub pay : {n end : ℕ} {on : List ℕ} → b ≡ false → Puts n out past (grom_line at bs) on end → Owes old from text (grom_lines (length more / 16) (at + 16) more) on end
    pay f p = less (subst (λ (r : List ℕ). Owes old from text r out past) (cons ∙ rw (← i, f)) o) p

pub all_shown : (n at : ℕ) (rest : List ℕ) → n ≡ 0 → grom_lines n at rest ≡ []
unfolding grom_lines
all_shown n at rest e = rw e

-- ---- the whole

module _ (text : List ℕ) (n : ℕ) (r : Read) (e : r ≡ read_answer n text) where
  answer_is : n ≡ 32768 → read_answer 32768 text ≡ r
  answer_is long = ap (λ (m : ℕ). read_answer m text) (sym long) ∙ sym e

  pub shown_refused : {is : List ℕ} {k : ℕ} → (r.answer ≡ 0 → ⊥) → n ≡ 32768 → Front (refusal r.answer r.line) is k → Front (shown text) is k
  unfolding shown
  shown_refused z long f = rw (answer_is long, ne_eqb r.answer 0 z) f

  pub shown_image : {out : List ℕ} {k : ℕ} (image is : List ℕ) → r.answer ≡ 0 → is ≡ read_image image text → length image ≡ 32768 → n ≡ 32768
      → Front (grom_lines 2048 0 is) out k → Front (shown text) out k
  unfolding shown read_image groups
  shown_image {out} {k} image is z q whole long f =
      rw (answer_is long, eq-eqb r.answer 0 z) (subst (λ (i : List ℕ). Front (grom_lines 2048 0 i) out k) (rw whole at q) f)
