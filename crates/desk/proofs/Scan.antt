-- A part of a text: where a byte first stands in it, which a search by `position` finds.
-- Assumes nothing.
use Rattle.std.proofs.Common.{◌≡◌, refl, sym, ap, ◌∙◌, Bool, true, false, cond, List, ◌∷◌, ℕ, suc, ◌<◌, get_or, get_or-take, drop_of_length-le, ◌+◌, ◌-◌, ◌≤◌, eqb, length, take, drop, arith, one-add, length-take-le, length-drop, ltb, not, Option, Some, None, ltb-false, ltb-true, unwrap_or}
use Rattle.std.proofs.lemmas.Option.{none-some}
use Rattle.std.specs.List.{position, position_or_len}
use Rattle.std.proofs.lemmas.List.{drop-take, drop_more}
use Rattle.std.proofs.lemmas.Bool.{ne_eqb, eq-eqb}
use Rattle.std.proofs.lemmas.List.Sums.{prefix_len-le-length}
use Rattle.std.proofs.lemmas.List.Recursion.{is_position_or_len}
use Rattle.desk.specs.Bytes.{index_after, index_of, slice}

after : (b : Bool) (n : ℕ) → index_after b n ≡ cond b 0 (1 + n)
unfolding index_after
after true n = refl
after false n = sym (one-add n)

-- the place of the first such byte is the library's
pub index_is : (byte : ℕ) (text : List ℕ) → index_of byte text ≡ position_or_len (λ c. eqb c byte) text
unfolding index_of
index_is byte text = is_position_or_len (index_of byte) (λ c. eqb c byte) refl (λ c cs. after (eqb c byte) (index_of byte cs)) text

some_is : (b : Bool) (n i : ℕ) → Some i ≡ cond b (Some n) None → (i ≡ n) × (b ≡ true)
some_is true n i e = (ap (λ (o : Option ℕ). unwrap_or o i) e, refl)
some_is false n i e = absurd (none-some i (sym e))

none_is : (b : Bool) (n : ℕ) → None ≡ cond b (Some n) None → b ≡ false
none_is true n e = absurd (none-some n e)
none_is false n e = refl

module _ (text : List ℕ) (from end : ℕ) (h : from ≤ end) (l : end ≤ length text) where
  part : slice from end text ≡ take (end - from) (drop from text)
  unfolding slice
  part =
      let whole : from + (end - from) ≡ end = omega arith in
      ap (λ (n : ℕ). drop from (take n text)) (sym whole) ∙ drop-take from (end - from) text

  size : length (take (end - from) (drop from text)) ≡ end - from
  size = length-take-le (end - from) (drop from text) (omega (arith, length-drop from text))

  module _ (byte : ℕ) where
    abbrev searched : List ℕ
    searched = take (end - from) (drop from text)

    abbrev place : ℕ
    place = position_or_len (λ c. eqb c byte) searched

    place_is : index_of byte (slice from end text) ≡ place
    place_is = rw part (index_is byte searched)

    pub found : (i : ℕ) → Some i ≡ position (λ c. eqb c byte) searched → (from + i ≡ from + index_of byte (slice from end text)) × (from + i ≤ end)
    found i e =
        let at = some_is (ltb place (length searched)) place i e in
        (omega (arith, at.0, place_is), omega (arith, at.0, size, ltb-true place (length searched) at.1))

    pub unfound : None ≡ position (λ c. eqb c byte) searched → end ≡ from + index_of byte (slice from end text)
    unfound e =
        let none = none_is (ltb place (length searched)) place e in
        omega (arith, place_is, size, ltb-false place (length searched) none, prefix_len-le-length (λ c. not (eqb c byte)) searched)

-- ---- where a byte first stands, place by place

module _ (text : List ℕ) (byte at end : ℕ) (fits : end ≤ length text) where
  slice_on : at < end → slice at end text ≡ get_or text at 0 ∷ slice (at + 1) end text
  unfolding slice
  slice_on l =
      let short : at < length (take end text) = omega (arith, length-take-le end text fits) in
      rw (drop_more (take end text) at 0 short, get_or-take end text at 0 l)

  pub found_here : at < end → get_or text at 0 ≡ byte → index_of byte (slice at end text) ≡ 0
  unfolding index_of index_after
  found_here l e = rw (slice_on l, eq-eqb (get_or text at 0) byte e)

  pub passed : at < end → (get_or text at 0 ≡ byte → ⊥) → index_of byte (slice at end text) ≡ suc (index_of byte (slice (at + 1) end text))
  unfolding index_of index_after
  passed l n = rw (slice_on l, ne_eqb (get_or text at 0) byte n)

  pub none_left : end ≤ at → index_of byte (slice at end text) ≡ 0
  unfolding index_of slice
  none_left l = rw (drop_of_length-le (take end text) {i = at} (omega (arith, length-take-le end text fits)))
