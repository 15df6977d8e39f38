-- Laws of digits, pairs and records, by the tests that the code makes.
-- Assumes nothing.
use Rattle.std.proofs.Common.{◌≡◌, refl, ap, ◌∙◌, ◌&&◌, List, [], ◌∷◌, ◌++◌, ℕ, zero, suc, ◌+◌, ◌*◌, ◌/◌, ◌%◌, ◌≤◌, ◌<◌, ltb}
use Rattle.std.proofs.Common.{length, get_or, take, drop, set, add-one, arith, mul-suc, suc-add}
use Rattle.std.proofs.Math.Numerals.{add-two}
use Rattle.std.proofs.Math.Seq.{set_out}
use Rattle.std.specs.List.{list_all}
use Rattle.std.proofs.lemmas.List.Recursion.{same_from_clauses}
use Rattle.lines.specs.Digits.{laid}
use Rattle.lines.proofs.Numerals.{unless}
use Rattle.intelhex.specs.Records.{value, all_digits, pair, pairs, total}

-- ---- digits

-- what `all` says of the characters
pub digits_all : (s : List ℕ) → list_all (λ c. ltb (value c) 16) s ≡ all_digits s
unfolding all_digits
digits_all s =
    same_from_clauses (list_all (λ c. ltb (value c) 16)) all_digits (λ c b. ltb (value c) 16 && b) refl (λ c cs. refl) (λ c cs. unless (ltb (value c) 16) (all_digits cs)) s

-- ---- pairs

-- pair by pair
pub pairs_on : (two more : List ℕ) {rest : List ℕ} → length two ≡ 2 → rest ≡ two ++ more → pairs rest ≡ pair (get_or two 0 0) (get_or two 1 0) ∷ pairs more
unfolding pairs
pairs_on [] more l e = absurd (omega arith)
pairs_on (a ∷ []) more l e = absurd (omega arith)
pairs_on (a ∷ b ∷ []) more l e = rw e
pairs_on (a ∷ b ∷ c ∷ t) more l e = absurd (omega arith)

pub pairs_end : (t : List ℕ) → length t < 2 → pairs t ≡ []
unfolding pairs
pairs_end [] h = refl
pairs_end (a ∷ []) h = refl
pairs_end (a ∷ b ∷ t) h = absurd (omega arith)

pub length_pairs : (t : List ℕ) → length (pairs t) ≡ length t / 2
unfolding pairs
length_pairs [] = refl
length_pairs (a ∷ []) = refl
length_pairs (a ∷ b ∷ t) = omega (arith, length_pairs t)

pub take_pairs : (k : ℕ) (t : List ℕ) → take k (pairs t) ≡ pairs (take (2 * k) t)
unfolding pairs
take_pairs zero t = refl
take_pairs (suc k) [] = rw (mul-suc, add-two (2 * k))
take_pairs (suc k) (a ∷ []) = rw (mul-suc, add-two (2 * k))
take_pairs (suc k) (a ∷ b ∷ t) = rw (mul-suc, add-two (2 * k)) (ap (λ (l : List ℕ). pair a b ∷ l) (take_pairs k t))

pub drop_pairs : (k : ℕ) (t : List ℕ) → drop k (pairs t) ≡ pairs (drop (2 * k) t)
unfolding pairs
drop_pairs zero t = refl
drop_pairs (suc k) [] = rw (mul-suc, add-two (2 * k))
drop_pairs (suc k) (a ∷ []) = rw (mul-suc, add-two (2 * k))
drop_pairs (suc k) (a ∷ b ∷ t) = rw (mul-suc, add-two (2 * k)) (drop_pairs k t)

pub pairs_at_lem : (k : ℕ) (t : List ℕ) → 2 * k + 1 < length t → get_or (pairs t) k 0 ≡ pair (get_or t (2 * k) 0) (get_or t (2 * k + 1) 0)
unfolding pairs
pairs_at_lem k [] h = absurd (omega arith)
pairs_at_lem k (a ∷ []) h = absurd (omega arith)
pairs_at_lem zero (a ∷ b ∷ t) h = refl
pairs_at_lem (suc k) (a ∷ b ∷ t) h = rw (mul-suc, add-two (2 * k), suc-add, suc-add) (pairs_at_lem k t (omega arith))

-- ---- the sum

pub sum_on : (two more : List ℕ) {rest : List ℕ} (t b : ℕ) → length two ≡ 2 → rest ≡ two ++ more → b ≡ pair (get_or two 0 0) (get_or two 1 0)
    → (t + total (pairs rest)) % 256 ≡ ((t + b) % 256 + total (pairs more)) % 256
unfolding total
sum_on two more t b l e q = rw (pairs_on two more l e, ← q) (omega arith)

pub sum_end : (rest : List ℕ) (t : ℕ) → length rest < 2 → t < 256 → (t + total (pairs rest)) % 256 ≡ t
unfolding total
sum_end rest t l h = rw (pairs_end rest l) (omega arith)

-- ---- bytes that are laid

module _ (xs : List ℕ) (at : ℕ) (two more : List ℕ) {rest : List ℕ} (l : length two ≡ 2) (e : rest ≡ two ++ more) where
  pub bytes_on : (b : ℕ) → b ≡ pair (get_or two 0 0) (get_or two 1 0) → laid xs at (pairs rest) ≡ laid (set xs at b) (at + 1) (pairs more)
  unfolding laid
  bytes_on b q = rw (pairs_on two more l e, q, add-one)

  -- beyond the image nothing is laid
  pub bytes_past : length xs ≤ at → laid xs at (pairs rest) ≡ laid xs (at + 1) (pairs more)
  bytes_past o = bytes_on (pair (get_or two 0 0) (get_or two 1 0)) refl ∙ ap (λ (ys : List ℕ). laid ys (at + 1) (pairs more)) (set_out xs at _ o)

pub bytes_end : (xs : List ℕ) (at : ℕ) (rest : List ℕ) → length rest < 2 → laid xs at (pairs rest) ≡ xs
unfolding laid
bytes_end xs at rest h = rw (pairs_end rest h)
