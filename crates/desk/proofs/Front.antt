-- A part of a text moved to the front, and more bytes put after a text that is there.
-- Assumes nothing.
use Rattle.std.proofs.Common.{◌≡◌, sym, ap, ◌∙◌, List, ℕ, ◌+◌, ◌-◌, ◌≤◌, length, take, drop, arith, zero-add, length-drop, length-take-le, take-add, ap₂, le_refl, drop_at, ◌++◌}
use Rattle.std.proofs.lemmas.List.{take-append-le}
use Rattle.std.proofs.lemmas.Slice.{take-put_mid_below}
use borrow.Rule.Slice.PartMut.{put_mid, post_of}
use Rattle.desk.specs.Bytes.{Gains}
use Rattle.std.specs.List.{copy_within}
use Rattle.std.proofs.lemmas.List.{drop-take}
use Rattle.std.proofs.lemmas.List.Edits.{take-paste}

module _ (text : List ℕ) (from end : ℕ) (h : from ≤ end) (l : end ≤ length text) where
  pub to_front : (moved : List ℕ) → moved ≡ copy_within text from end 0 → take (end - from) moved ≡ drop from (take end text)
  to_front moved e =
      let whole : from + (end - from) ≡ end = omega arith in
      let fits : end - from ≤ length (drop from text) = omega (arith, length-drop from text) in
      ap (take (end - from)) e ∙ ap (λ (n : ℕ). take n (copy_within text from end 0)) (sym (zero-add (end - from)))
      ∙ take-paste text 0 (drop from text) (end - from) (omega arith) fits
      ∙ sym (drop-take from (end - from) text) ∙ ap (λ (n : ℕ). drop from (take n text)) whole

-- so many of the bytes that are read after the first ones of a text
pub gained : (text read : List ℕ) (len k n : ℕ) {was : List ℕ} → len ≤ length text → n ≤ length read → take len text ≡ was
    → Gains was (take (len + n) (put_mid len k text read)) n
gained text read len k n {was} h l e =
    record {
      more = take n read;
      is =
          take-add len n (put_mid len k text read)
          ∙ ap₂ (λ (x y : List ℕ). x ++ take n y) (take-put_mid_below len k text read len (le_refl len) h ∙ e) (drop_at (take len text) (read ++ post_of len k text) len (length-take-le len text h))
          ∙ ap (λ (x : List ℕ). was ++ x) (take-append-le n read (post_of len k text) l);
      count = length-take-le n read l;
    }
