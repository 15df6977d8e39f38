-- Laws of the verdict and of the image, record by record.
-- Assumes nothing.
use Rattle.std.proofs.Common.{◌≡◌, refl, sym, ap, ◌∙◌, Bool, true, false, true≢false, List, [], ◌∷◌, ⊎_elim, ℕ, ◌+◌, ◌-◌, ◌/◌, ◌≤◌, ◌<◌}
use Rattle.std.proofs.Common.{add-one, eq-or-lt_of_le, arith, length, take, drop, eq-eqb, ne_eqb, le-leb, Result, Ok, Err, is_ok}
use Rattle.std.proofs.Math.ListN.{length-replicate}
use borrow.Author.Tests.{lt-leb}
use Rattle.lines.specs.Digits.{laid}
use Rattle.intelhex.specs.Lines.{lines_of}
use Rattle.intelhex.specs.Records.{Record, holds, end, bad, pairs, records}
use Rattle.intelhex.specs.Meaning.{Marks, clash_of, read_of}
use Rattle.intelhex.specs.declared.flags.Clash.{Clash}
use Rattle.intelhex.specs.declared.flags.Clash.TheVariants.{Beyond, Twice}
use Rattle.intelhex.specs.declared.dump.ReadError.{ReadError}
use Rattle.intelhex.specs.declared.dump.ReadError.TheVariants as fault
use Rattle.intelhex.specs.Dump.{Read, told, idle, trial, named, judged, filled, groups, zeros, read_answer, image_of, read_image}
use Rattle.intelhex.proofs.Cutting.{cut, last, before_within}
use Rattle.intelhex.proofs.Forming.{length_pairs}
use Rattle.intelhex.proofs.Saying.{empty, as_records}

-- ---- the addresses of a record

module _ (flags : List ℕ) (at count : ℕ) where
  pub mark_none : count ≡ 0 → Marks flags at count 0 flags
  unfolding trial laid
  mark_none h = record { says = rw (eq-eqb count 0 h); leaves = rw h }

  module _ (some : count ≡ 0 → ⊥) where
    pub mark_past : length flags < at + count → Marks flags at count 20 flags
    unfolding trial
    mark_past h = record { says = rw (ne_eqb count 0 some, lt-leb (at + count) (length flags) h); leaves = refl }

    module _ (fits : at + count ≤ length flags) (b : Bool) (e : b ≡ idle (take (at + count - at) (drop at flags))) where
      free : idle (take count (drop at flags)) ≡ b
      free =
          let k : at + count - at ≡ count = omega arith in
          sym (rw k at e)

      pub mark_taken : b ≡ false → Marks flags at count 21 flags
      unfolding trial
      mark_taken h = record { says = rw (ne_eqb count 0 some, le-leb (at + count) (length flags) fits, free, h); leaves = refl }

      pub mark_free : (is : List ℕ) → b ≡ true → is ≡ named flags at count → Marks flags at count 0 is
      unfolding trial
      mark_free is h q = record { says = rw (ne_eqb count 0 some, le-leb (at + count) (length flags) fits, free, h); leaves = q }

-- ---- the verdict

module _ (flags : List ℕ) (n : ℕ) (s : List ℕ) where
  pub judged_bad : (rs : List Record) → records s ≡ bad ∷ rs → told 20 n ≡ judged flags n (records s)
  unfolding judged
  judged_bad rs e = rw e

  pub judged_end : (t : List ℕ) → length t ≡ 0 → records s ≡ end ∷ records t → told 0 0 ≡ judged flags n (records s)
  unfolding judged
  judged_end [] h e = rw (e, empty)
  judged_end (c ∷ t) h e = absurd (omega arith)

  after_end : (l : List ℕ) (ls : List (List ℕ)) (t : List ℕ) → records s ≡ end ∷ records t → lines_of t ≡ l ∷ ls → told 20 (n + 1) ≡ judged flags n (records s)
  unfolding judged
  after_end l ls t e q = rw (e, as_records t l ls q, add-one)

  pub judged_more : (t : List ℕ) → 0 < length t → records s ≡ end ∷ records t → told 20 (n + 1) ≡ judged flags n (records s)
  judged_more t h e = ⊎_elim (λ q. after_end _ _ t e (last t h q)) (λ l. after_end _ _ t e (cut t l)) (eq-or-lt_of_le (before_within t))

pub judged_none : (flags : List ℕ) (n : ℕ) (s : List ℕ) → length s ≡ 0 → told 22 n ≡ judged flags n (records s)
unfolding judged
judged_none flags n [] h = rw empty
judged_none flags n (c ∷ s) h = absurd (omega arith)

module _ (flags is : List ℕ) (n : ℕ) (s digits : List ℕ) (at count r : ℕ) (rs : List Record) (h : count ≡ length digits / 2)
    (e : records s ≡ holds at (pairs digits) ∷ rs) (cell : ℕ) (q : cell ≡ at) (m : Marks flags cell count r is) where
  many : length (pairs digits) ≡ count
  many = length_pairs digits ∙ sym h

  tried : r ≡ trial flags at count
  tried = rw (← q) m.says

  pub judged_off : (r ≡ 0 → ⊥) → told r n ≡ judged flags n (records s)
  unfolding judged
  judged_off z = rw (e, many, ← tried, ne_eqb r 0 z)

  pub judged_on : r ≡ 0 → judged flags n (records s) ≡ judged is (n + 1) rs
  unfolding judged
  judged_on z =
      let named_there : is ≡ named flags at count = rw (← q) (m.leaves ∙ rw (eq-eqb r 0 z)) in
      rw (e, many, ← tried, eq-eqb r 0 z, named_there, add-one)

-- ---- the image

module _ (image : List ℕ) (s : List ℕ) (rs : List Record) where
  pub filled_on : (at : ℕ) (bs is : List ℕ) → records s ≡ holds at bs ∷ rs → is ≡ laid image at bs → filled image (records s) ≡ filled is rs
  unfolding filled
  filled_on at bs is e f = rw (e, f)

  pub filled_end : records s ≡ end ∷ rs → filled image (records s) ≡ filled image rs
  unfolding filled
  filled_end e = rw e

  pub filled_bad : records s ≡ bad ∷ rs → filled image (records s) ≡ filled image rs
  unfolding filled
  filled_bad e = rw e

pub filled_none : (image s : List ℕ) → length s ≡ 0 → filled image (records s) ≡ image
unfolding filled
filled_none image [] h = rw empty
filled_none image (c ∷ s) h = absurd (omega arith)

-- ---- the whole call

module _ (image text : List ℕ) where
  pub read_unlent : groups (length image) ≡ false → (told 11 0 ≡ read_answer (length image) text) × (image ≡ read_image image text)
  unfolding read_answer read_image
  read_unlent g = (rw g, rw g)

  -- cleared, judged, and cleared again
  module _ (g : groups (length image) ≡ true) (was : List ℕ) (w : was ≡ zeros (length image)) (r : Read) (j : r ≡ judged was 1 (records text))
      (n : ℕ) (kept : n ≡ length was) (is : List ℕ) (c : is ≡ zeros n) where
    same : read_answer (length image) text ≡ r
    unfolding read_answer
    same = rw g (sym (j ∙ ap (λ (l : List ℕ). judged l 1 (records text)) w))

    again : zeros (length image) ≡ is
    again = sym (c ∙ ap zeros (kept ∙ ap length w ∙ length-replicate (length image) 0))

    pub read_refused : (r.answer ≡ 0 → ⊥) → (r ≡ read_answer (length image) text) × (is ≡ read_image image text)
    unfolding read_image image_of
    read_refused z = (sym same, rw (g, same, ne_eqb r.answer 0 z) (sym again))

    pub read_done : (out : List ℕ) → r.answer ≡ 0 → out ≡ filled is (records text) → (r ≡ read_answer (length image) text) × (out ≡ read_image image text)
    unfolding read_image image_of
    read_done out z f = (sym same, rw (g, same, eq-eqb r.answer 0 z, again) f)

-- what is said of a text that was judged
pub refused : {A : Type 0} (r : Result A ReadError) → is_ok r ≡ false → (read_of r).answer ≡ 0 → ⊥
refused (Ok done) e z = true≢false e
refused (Err fault.WrongLength) e z = omega (arith, z)
refused (Err (fault.BadRecord n)) e z = omega (arith, z)
refused (Err (fault.NamedTwice n)) e z = omega (arith, z)
refused (Err (fault.NoEnd n)) e z = omega (arith, z)

pub sound : {A : Type 0} (r : Result A ReadError) → is_ok r ≡ true → (read_of r).answer ≡ 0
sound (Ok done) e = refl
sound (Err f) e = absurd (true≢false (sym e))

pub clashes : (e : Clash) → clash_of e ≡ 0 → ⊥
clashes Beyond z = omega (arith, z)
clashes Twice z = omega (arith, z)
