-- Laws of digits and of the numbers that they say: at the start, at one digit more, at a character that is none, and at the end.
-- Assumes nothing.
use Rattle.std.proofs.Common.{◌≡◌, refl, sym, Bool, true, false, cond, ◌&&◌, List, [], ◌∷◌, Option, Some, None, SomeIff, unwrap_or}
use Rattle.std.proofs.Common.{ℕ, zero, suc, ◌+◌, ◌-◌, ◌*◌, ◌/◌, ◌%◌, ◌≤◌, ◌<◌, add-one, le-mul_of_pos_right}
use Rattle.std.proofs.Common.{arith, eqb, ltb, length, get_or, drop, drop_of_length-le}
use Rattle.std.proofs.Common.{drop-cons, lt-ltb, le-ltb, le-leb, eq-eqb, ne_eqb}
use borrow.Author.Tests.{lt-leb}
use Rattle.std.specs.List.{list_all}
use Rattle.std.proofs.lemmas.List.Recursion.{same_from_clauses}
use Rattle.std.proofs.lemmas.Bool.Decides.{Decides-below_and}
use Rattle.std.proofs.Common.{eqb-true}
use Rattle.lines.specs.Digits.{capitals, before, digit, glyph, numeral_from, numeral, up_to, all_hex, byte_count}

-- ---- a digit, by the ranges of characters

abbrev pub ranged : ℕ → ℕ
ranged c = cond (ltb c 48) 16 (cond (ltb c 58) (c - 48) (cond (ltb c 65) 16 (cond (ltb c 71) (c - 55) 16)))

-- a test of every number below another
abbrev pub below : (ℕ → Bool) → ℕ → Bool
below p zero = true
below p (suc n) = p n && below p n

pub tested : (p : ℕ → Bool) (n : ℕ) → below p n ≡ true → (k : ℕ) → k < n → p k ≡ true
tested p n e = (Decides-below_and p (λ k. p k ≡ true) (below p) (λ k. (λ q. q, λ q. q)) refl (λ _. refl) n).0 e

right : ℕ → Bool
right c = eqb (digit c) (ranged c)

pub by_range : (c : ℕ) → c < 256 → digit c ≡ ranged c
unfolding digit before right
by_range c h = eqb-true _ _ (tested right 256 refl c h)

-- range by range
pub digit_low : (c : ℕ) → 48 ≤ c → c < 58 → digit c ≡ c - 48
digit_low c l h = rw (by_range c (omega arith), le-ltb c 48 l, lt-ltb c 58 h)

pub digit_high : (c : ℕ) → 65 ≤ c → c < 71 → digit c ≡ c - 55
digit_high c l h =
    let some : 48 ≤ c = omega arith in
    let more : 58 ≤ c = omega arith in
    rw (by_range c (omega arith), le-ltb c 48 some, le-ltb c 58 more, le-ltb c 65 l, lt-ltb c 71 h)

pub digit_below : (c : ℕ) → c < 48 → digit c ≡ 16
digit_below c h = rw (by_range c (omega arith), lt-ltb c 48 h)

pub digit_between : (c : ℕ) → 58 ≤ c → c < 65 → digit c ≡ 16
digit_between c l h =
    let some : 48 ≤ c = omega arith in
    rw (by_range c (omega arith), le-ltb c 48 some, le-ltb c 58 l, lt-ltb c 65 h)

pub digit_above : (c : ℕ) → 71 ≤ c → c < 256 → digit c ≡ 16
digit_above c l h =
    let some : 48 ≤ c = omega arith in
    let more : 58 ≤ c = omega arith in
    let most : 65 ≤ c = omega arith in
    rw (by_range c h, le-ltb c 48 some, le-ltb c 58 more, le-ltb c 65 most, le-ltb c 71 l)

one_more : (b : Bool) (n m : ℕ) → n ≤ m → cond b 0 (suc n) ≤ suc m
one_more true n m h = omega arith
one_more false n m h = omega arith

before_most : (c : ℕ) (ds : List ℕ) → before c ds ≤ length ds
unfolding before
before_most c [] = omega arith
before_most c (d ∷ ds) = one_more (eqb c d) (before c ds) (length ds) (before_most c ds)

-- what is no digit counts 16
pub counted : (r : Option ℕ) (c : ℕ) → SomeIff r (digit c < 16) (digit c) → unwrap_or r 16 ≡ digit c
unfolding digit
counted None c h = omega (arith, h, before_most c capitals)
counted (Some d) c h = h.1

-- each digit says the number that it was chosen for
same : ℕ → Bool
same k = eqb (digit (glyph k)) k

pub digit_glyph : (k : ℕ) → k < 16 → digit (glyph k) ≡ k
unfolding digit before glyph same
digit_glyph k h = eqb-true _ _ (tested same 16 refl k h)

-- ---- a number

pub number_none : (limit base : ℕ) (s : List ℕ) → length s ≡ 0 → None ≡ up_to limit (numeral base s)
unfolding numeral up_to
number_none limit base [] e = refl
number_none limit base (c ∷ cs) e = absurd (omega arith)

pub number_start : (base : ℕ) (s : List ℕ) → (length s ≡ 0 → ⊥) → numeral base s ≡ numeral_from base 0 (drop 0 s)
unfolding numeral
number_start base [] h = absurd (h refl)
number_start base (c ∷ cs) h = refl

numeral_on : (base v i : ℕ) (s : List ℕ) → i < length s → digit (get_or s i 0) < base
    → numeral_from base v (drop i s) ≡ numeral_from base (v * base + digit (get_or s i 0)) (drop (i + 1) s)
unfolding numeral_from
numeral_on base v i s l d = rw (drop-cons s i 0 l, lt-ltb _ _ d, add-one)

numeral_off : (base v i : ℕ) (s : List ℕ) → i < length s → base ≤ digit (get_or s i 0) → numeral_from base v (drop i s) ≡ None
unfolding numeral_from
numeral_off base v i s l d = rw (drop-cons s i 0 l, le-ltb _ _ d)

neither : (limit : ℕ) (b : Bool) (x : Option ℕ) → up_to limit x ≡ None → up_to limit (cond b x None) ≡ None
unfolding up_to
neither limit true x e = e
neither limit false x e = refl

-- what is past a limit stays past it
past : (limit base v : ℕ) (s : List ℕ) → 1 ≤ base → limit < v → up_to limit (numeral_from base v s) ≡ None
unfolding numeral_from up_to
past limit base v [] b h = rw (lt-leb v limit h)
past limit base v (c ∷ cs) b h =
    let more : limit < v * base + digit c = omega (arith, le-mul_of_pos_right v b) in
    neither limit (ltb (digit c) base) _ (past limit base (v * base + digit c) cs b more)

-- where the digits so far say v: one more, d, is none; takes the number past the limit; or goes on; and the end
module _ (base v i : ℕ) (s : List ℕ) (e : numeral base s ≡ numeral_from base v (drop i s)) where
  pub number_off : (limit d : ℕ) → d ≡ digit (get_or s i 0) → i < length s → base ≤ d → None ≡ up_to limit (numeral base s)
  unfolding up_to
  number_off limit d q l h = rw (e, numeral_off base v i s l (omega arith))

  pub number_on : (d : ℕ) → d ≡ digit (get_or s i 0) → i < length s → d < base → numeral base s ≡ numeral_from base (v * base + d) (drop (i + 1) s)
  number_on d q l h = rw (e, numeral_on base v i s l (omega arith), q)

  pub number_past : (limit d : ℕ) → d ≡ digit (get_or s i 0) → i < length s → d < base → 1 ≤ base → limit < v * base + d → None ≡ up_to limit (numeral base s)
  number_past limit d q l h b o = rw (number_on d q l h) (sym (past limit base (v * base + d) (drop (i + 1) s) b o))

  pub number_end : (limit : ℕ) → length s ≤ i → v ≤ limit → Some v ≡ up_to limit (numeral base s)
  unfolding numeral_from up_to
  number_end limit l h = rw (e, drop_of_length-le s l, le-leb v limit h)

-- ---- bytes

pub unless : (b c : Bool) → cond b c false ≡ (b && c)
unless true c = refl
unless false c = refl

-- what `all` says of the characters
pub hex_all : (s : List ℕ) → list_all (λ c. ltb (digit c) 16) s ≡ all_hex s
unfolding all_hex
hex_all s =
    same_from_clauses (list_all (λ c. ltb (digit c) 16)) all_hex (λ c b. ltb (digit c) 16 && b) refl (λ c cs. refl) (λ c cs. unless (ltb (digit c) 16) (all_hex cs)) s

pub bytes_none : (s : List ℕ) → length s ≡ 0 → byte_count s ≡ 0
unfolding byte_count all_hex
bytes_none [] e = refl
bytes_none (c ∷ cs) e = absurd (omega arith)

pub bytes_other : (s : List ℕ) → false ≡ all_hex s → byte_count s ≡ 0
unfolding byte_count
bytes_other s e = rw (← e)

nothing : (b : Bool) → ◌≡◌ {A = ℕ} (cond b 0 0) 0
nothing true = refl
nothing false = refl

pub bytes_odd : (s : List ℕ) → (length s % 2 ≡ 0 → ⊥) → byte_count s ≡ 0
unfolding byte_count
bytes_odd s h = rw (ne_eqb (length s % 2) 0 h) (nothing (all_hex s))

pub bytes_each : (s : List ℕ) → true ≡ all_hex s → length s % 2 ≡ 0 → byte_count s ≡ length s / 2
unfolding byte_count
bytes_each s e h = rw (← e, eq-eqb (length s % 2) 0 h)
