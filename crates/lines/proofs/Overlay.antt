-- Laws of a list with others laid over it: piece by piece, from the front or from the back; and bytes from their digits.
-- Assumes nothing.
use Rattle.std.proofs.Common.{◌≡◌, refl, sym, ap, ◌∙◌, List, [], ◌∷◌, ◌++◌, append_assoc, ℕ, zero, suc, ◌+◌, ◌-◌, ◌/◌, ◌%◌, ◌≤◌, ◌<◌}
use Rattle.std.proofs.Common.{length, get_or, set, drop, length-append, add-one, arith, add-zero, zero-add, add-suc, suc-add, drop-drop}
use Rattle.std.proofs.Math.Seq.{set_comm, sets, sets-eq}
use borrow.Rule.Slice.PartMut.{put_mid}
use Rattle.lines.specs.Digits.{laid, glyph, digits_of, byte_of, bytes}

-- ---- in two pieces

pub laid_append : (xs : List ℕ) (at : ℕ) (a b : List ℕ) → laid xs at (a ++ b) ≡ laid (laid xs at a) (at + length a) b
unfolding laid
laid_append xs at [] b = rw add-zero
laid_append xs at (x ∷ a) b = rw (add-suc, ← suc-add) (laid_append (set xs at x) (suc at) a b)

-- a store past what is laid over
pub laid_set : (xs : List ℕ) (at : ℕ) (bs : List ℕ) (j c : ℕ) → at + length bs ≤ j → laid (set xs j c) at bs ≡ set (laid xs at bs) j c
unfolding laid
laid_set xs at [] j c h = refl
laid_set xs at (b ∷ bs) j c h = rw (set_comm xs j at c b (λ e. omega arith)) (laid_set (set xs at b) (suc at) bs j c (omega arith))

-- ---- digits, from the back

pub length_digits : (base w n : ℕ) → length (digits_of base w n) ≡ w
unfolding digits_of
length_digits base zero n = refl
length_digits base (suc w) n = rw (length-append, length_digits base w (n / base), add-one)

last_digit : (xs : List ℕ) (at base w n : ℕ) → laid xs at (digits_of base (suc w) n) ≡ laid (set xs (at + w) (glyph (n % base))) at (digits_of base w (n / base))
unfolding laid digits_of
last_digit xs at base w n =
    rw (laid_append xs at (digits_of base w (n / base)) (glyph (n % base) ∷ []), length_digits base w (n / base))
    (sym (laid_set xs at (digits_of base w (n / base)) (at + w) (glyph (n % base)) (omega (arith, length_digits base w (n / base)))))

-- one more, before a cell
pub digits_on : (xs : List ℕ) (at cell base n g : ℕ) → at < cell → g ≡ glyph (n % base)
    → laid xs at (digits_of base (cell - at) n) ≡ laid (set xs (cell - 1) g) at (digits_of base (cell - 1 - at) (n / base))
digits_on xs at cell base n g l e =
    let more : cell - at ≡ suc (cell - 1 - at) = omega arith in
    let here : at + (cell - 1 - at) ≡ cell - 1 = omega arith in
    rw (more, e) (last_digit xs at base (cell - 1 - at) n ∙ ap (λ (k : ℕ). laid (set xs k (glyph (n % base))) at (digits_of base (cell - 1 - at) (n / base))) here)

pub digits_end : (xs : List ℕ) (at base w n : ℕ) → w ≡ 0 → laid xs at (digits_of base w n) ≡ xs
unfolding laid digits_of
digits_end xs at base w n e = rw e

-- ---- a line at the front

sets_laid : (xs : List ℕ) (at : ℕ) (bs : List ℕ) → laid xs at bs ≡ sets xs at bs
unfolding laid
sets_laid xs at [] = refl
sets_laid xs at (b ∷ bs) = sets_laid (set xs at b) (suc at) bs

pub laid_front : (xs bs : List ℕ) → length bs ≤ length xs → laid xs 0 bs ≡ bs ++ drop (length bs) xs
laid_front xs bs h = sets_laid xs 0 bs ∙ sets-eq bs xs 0 (omega arith) ∙ ap (λ (n : ℕ). bs ++ drop n xs) (zero-add (length bs))

-- a part of a list written as a whole
pub laid_mid : (xs : List ℕ) (at : ℕ) (bs : List ℕ) → at + length bs ≤ length xs → put_mid at (at + length bs - at) xs bs ≡ laid xs at bs
laid_mid xs at bs h =
    let long : at + length bs - at ≡ length bs = omega arith in
    rw (sets_laid xs at bs, sets-eq bs xs at h, long, drop-drop (length bs) at xs, append_assoc)

-- ---- bytes from their digits, pair by pair

pub pair_off : {rest : List ℕ} (pair more : List ℕ) → rest ≡ pair ++ more → length pair ≡ 2 → length rest ≡ 2 + length more
pair_off pair more e two = ap length e ∙ length-append pair more ∙ ap (λ (n : ℕ). n + length more) two

ended : (rest : List ℕ) → length rest < 2 → bytes rest ≡ []
unfolding bytes
ended [] h = refl
ended (c ∷ []) h = refl
ended (c ∷ d ∷ ds) h = absurd (omega arith)

module _ (xs : List ℕ) (at : ℕ) (rest : List ℕ) where
  pub bytes_on : (pair more : List ℕ) (b : ℕ) → length pair ≡ 2 → rest ≡ pair ++ more → b ≡ byte_of (get_or pair 0 0) (get_or pair 1 0)
      → laid xs at (bytes rest) ≡ laid (set xs at b) (at + 1) (bytes more)
  unfolding laid bytes
  bytes_on [] more b l e q = absurd (omega arith)
  bytes_on (h ∷ []) more b l e q = absurd (omega arith)
  bytes_on (h ∷ g ∷ []) more b l e q = rw (e, q, add-one)
  bytes_on (h ∷ g ∷ c ∷ cs) more b l e q = absurd (omega arith)

  pub bytes_end : length rest < 2 → laid xs at (bytes rest) ≡ xs
  unfolding laid
  bytes_end h = rw (ended rest h)
