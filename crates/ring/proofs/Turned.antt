-- The caller's words and the journal that begins at a place among them: a word read, a word set, the oldest one dropped.
use Rattle.std.proofs.Common.{◌≡◌, refl, ◌∙◌, ap, ap₂, sym, subst, Bool, true, false, List, [], ◌∷◌, ◌++◌, append-nil, append_assoc, ℕ, zero, suc, ◌+◌, ◌-◌, ◌%◌, ◌^◌, ◌≤◌, ◌<◌, mod-lt, mod-eq_of_lt, add-one, arith, ltb, length, get_or, set, take, drop, length-append, length-set, length-drop, length-take, drop_of_length-le, take-append-drop, take_all, drop-cons, get_or-append-add, get_or-take, get_or-drop, drop-set-lt, take-suc-set, take_at, drop_at, ext_get_or, ltb-true, ltb-false}
use Rattle.std.proofs.Math.Nat.{mod-mod, mod-add-mod, add-mod-mod, add-mod_right, mod-eq-sub-mod, mod_self}
use Rattle.std.proofs.Math.ListN.{get_or-append}
use Rattle.std.proofs.Math.Seq.{set-append_left, take-set-le, take-set-lt, drop-set-add}
use Rattle.rules.specs.Machine.{pick}
use Rattle.rules.specs.Journal.{turned, place_on}
use Rattle.ring.specs.Meaning.{slot_of}

-- the words from one of them on, round to it
abbrev from : ℕ → List ℕ → List ℕ
from s j = drop s j ++ take s j

length_from : (s : ℕ) (j : List ℕ) → length (from s j) ≡ length j
length_from s j = length-append (drop s j) (take s j) ∙ ap₂ ◌+◌ (length-drop s j) (length-take s j) ∙ go (ltb s (length j)) refl
  where
    go : (c : Bool) → ltb s (length j) ≡ c → length j - s + Prim.Native.Nat.min s (length j) ≡ length j
    go true e = omega (arith, ltb-true s (length j) e)
    go false e = omega (arith, ltb-false s (length j) e)

pub length_turned : (r : Bool) (a : ℕ) (j : List ℕ) → length (turned r a j) ≡ length j
unfolding turned
length_turned true a j = length_from (a % length j) j
length_turned false a j = refl

pub as_long : {n : ℕ} (r : Bool) (a : ℕ) (j : List ℕ) → n ≤ length j → n ≤ length (turned r a j)
as_long r a j h = rw (length_turned r a j) h

-- the caller's words again
abbrev pub unturned : Bool → ℕ → List ℕ → List ℕ
unturned r a j = pick r (from (length j - a % length j) j) j

pub turned_back : (r : Bool) (a : ℕ) (j : List ℕ) → unturned r a (turned r a j) ≡ j
unfolding turned
turned_back false a j = refl
turned_back true a j =
    let s : ℕ = a % length j in
    let front : length (drop s j) ≡ length j - s = length-drop s j in
    ap (λ (n : ℕ). from (n - a % n) (from s j)) (length_from s j)
    ∙ ap₂ ◌++◌ (drop_at (drop s j) (take s j) (length j - s) front) (take_at (drop s j) (take s j) (length j - s) front) ∙ take-append-drop s j

-- ---- the i-th word, from the word s on

module _ (j : List ℕ) (s i : ℕ) (h : s < length j) where
  front : length (drop s j) ≡ length j - s
  front = length-drop s j

  near : i < length j - s → get_or (from s j) i 0 ≡ get_or j (s + i) 0
  near l = get_or-append (drop s j) (take s j) 0 i (omega (arith, front)) ∙ get_or-drop s j i 0

  far : length j - s ≤ i → i < length j → get_or (from s j) i 0 ≡ get_or j (i - (length j - s)) 0
  far l m =
      let k : ℕ = i - (length j - s) in
      let z : i ≡ length (drop s j) + k = omega (arith, front) in
      ap (λ (n : ℕ). get_or (from s j) n 0) z ∙ get_or-append-add (drop s j) (take s j) k 0 ∙ get_or-take s j k 0 (omega arith)

  set_near : i < length j - s → (w : ℕ) → set (from s j) i w ≡ from s (set j (s + i) w)
  set_near l w =
      set-append_left (drop s j) (take s j) i w (omega (arith, front))
      ∙ ap₂ ◌++◌ (sym (drop-set-add s j i w)) (sym (take-set-le s j (s + i) w (omega arith)))

  set_far : length j - s ≤ i → i < length j → (w : ℕ) → set (from s j) i w ≡ from s (set j (i - (length j - s)) w)
  set_far l m w =
      let k : ℕ = i - (length j - s) in
      let z : i ≡ length (drop s j) + k = omega (arith, front) in
      ap (λ (n : ℕ). set (from s j) n w) z ∙ set_append_add (drop s j) (take s j) k
      ∙ ap₂ ◌++◌ (sym (drop-set-lt s j k w (omega arith))) (sym (take-set-lt s j k w (omega arith)))
    where
      set_append_add : (xs ys : List ℕ) (n : ℕ) → set (xs ++ ys) (length xs + n) w ≡ xs ++ set ys n w
      set_append_add [] ys n = ap (λ (x : ℕ). set ys x w) (let z : 0 + n ≡ n = omega arith in z)
      set_append_add (x ∷ xs) ys n =
          let z : suc (length xs) + n ≡ suc (length xs + n) = omega arith in
          ap (λ (y : ℕ). set (x ∷ xs ++ ys) y w) z ∙ ap (λ (l : List ℕ). x ∷ l) (set_append_add xs ys n)

-- ---- by the slot

-- where the i-th word stands
pub slot_plain : (a n i : ℕ) (r : Bool) → r ≡ false → i ≡ slot_of r a n i
unfolding slot_of
slot_plain a n i r e = rw e

module _ (n a i : ℕ) (h : i < n) (s : ℕ) (e : s ≡ a % n) (r : Bool) (q : r ≡ true) where
  start : s < n
  start = subst (λ (x : ℕ). x < n) (sym e) (mod-lt a (omega arith))

  round : slot_of r a n i ≡ (s + i) % n
  unfolding slot_of
  round = rw (q, e) (sym (mod-add-mod a n i))

  pub slot_near : i < n - s → s + i ≡ slot_of r a n i
  slot_near l = sym (round ∙ mod-eq_of_lt (omega (arith, start)))

  pub slot_far : n - s ≤ i → i - (n - s) ≡ slot_of r a n i
  slot_far l =
      let back : s + i - n ≡ i - (n - s) = omega (arith, start) in
      let low : i - (n - s) < n = omega (arith, start) in
      let over : n ≤ s + i = omega (arith, start) in
      sym (round ∙ mod-eq-sub-mod over ∙ ap (λ (x : ℕ). x % n) back ∙ mod-eq_of_lt low)

module _ (j : List ℕ) (a i : ℕ) (h : i < length j) where
  s : ℕ
  s = a % length j

  below : s < length j
  unfolding s
  below = mod-lt a (omega arith)

  read_ring : (c : Bool) → ltb i (length j - s) ≡ c → get_or (from s j) i 0 ≡ get_or j (slot_of true a (length j) i) 0
  unfolding s
  read_ring true e =
      let l : i < length j - s = ltb-true i (length j - s) e in
      near j s i below l ∙ ap (λ (x : ℕ). get_or j x 0) (slot_near (length j) a i h s refl true refl l)
  read_ring false e =
      let l : length j - s ≤ i = ltb-false i (length j - s) e in
      far j s i below l h ∙ ap (λ (x : ℕ). get_or j x 0) (slot_far (length j) a i h s refl true refl l)

  set_ring : (w : ℕ) (c : Bool) → ltb i (length j - s) ≡ c → set (from s j) i w ≡ from s (set j (slot_of true a (length j) i) w)
  unfolding s
  set_ring w true e =
      let l : i < length j - s = ltb-true i (length j - s) e in
      set_near j s i below l w ∙ ap (λ (x : ℕ). from s (set j x w)) (slot_near (length j) a i h s refl true refl l)
  set_ring w false e =
      let l : length j - s ≤ i = ltb-false i (length j - s) e in
      set_far j s i below l h w ∙ ap (λ (x : ℕ). from s (set j x w)) (slot_far (length j) a i h s refl true refl l)

  pub turned_get_or : (r : Bool) → get_or (turned r a j) i 0 ≡ get_or j (slot_of r a (length j) i) 0
  unfolding turned slot_of s
  turned_get_or true = read_ring (ltb i (length j - s)) refl
  turned_get_or false = refl

  pub turned_set : (r : Bool) (w : ℕ) → set (turned r a j) i w ≡ turned r a (set j (slot_of r a (length j) i) w)
  unfolding turned slot_of s
  turned_set true w =
      let at : ℕ = slot_of true a (length j) i in
      set_ring w (ltb i (length j - s)) refl ∙ ap (λ (n : ℕ). from (a % n) (set j at w)) (sym (length-set j at w))
  turned_set false w = refl

-- ---- the oldest word dropped

module _ (j : List ℕ) (s : ℕ) (h : s < length j) where
  drop_first : drop 1 (from s j) ++ 0 ∷ [] ≡ drop (suc s) j ++ (take s j ++ 0 ∷ [])
  drop_first = ap (λ (l : List ℕ). drop 1 (l ++ take s j) ++ 0 ∷ []) (drop-cons j s 0 h) ∙ append_assoc (drop (suc s) j) (take s j) (0 ∷ [])

  next : (c : Bool) → ltb (suc s) (length j) ≡ c → drop 1 (from s j) ++ 0 ∷ [] ≡ from (suc s % length j) (set j s 0)
  next true e =
      let on : suc s % length j ≡ suc s = mod-eq_of_lt (ltb-true (suc s) (length j) e) in
      drop_first ∙ ap₂ ◌++◌ (sym (drop-set-lt (suc s) j s 0 (omega arith))) (sym (take-suc-set j s 0 h))
      ∙ ap (λ (x : ℕ). from x (set j s 0)) (sym on)
  next false e =
      let all : length j ≤ suc s = ltb-false (suc s) (length j) e in
      let n : suc s ≡ length j = omega arith in
      let round : suc s % length j ≡ 0 = ap (λ (x : ℕ). x % length j) n ∙ mod_self (length j) in
      drop_first ∙ ap (λ (l : List ℕ). l ++ (take s j ++ 0 ∷ [])) (drop_of_length-le j all)
      ∙ sym (take-suc-set j s 0 h) ∙ take_all (suc s) (set j s 0) (rw (length-set j s 0) all) ∙ sym (append-nil (set j s 0))
      ∙ ap (λ (x : ℕ). from x (set j s 0)) (sym round)

pub turned_forget : (j : List ℕ) (a s b : ℕ) → 0 < length j → s ≡ a % length j → b ≡ (s + 1) % length j
    → drop 1 (turned true a j) ++ 0 ∷ [] ≡ turned true b (set j s 0)
unfolding turned
turned_forget j a s b h e f =
    let below : s < length j = subst (λ (x : ℕ). x < length j) (sym e) (mod-lt a h) in
    let on : b ≡ suc s % length j = f ∙ ap (λ (x : ℕ). x % length j) (add-one s) in
    let in_place : b % length j ≡ b = mod-eq_of_lt (subst (λ (x : ℕ). x < length j) (sym f) (mod-lt (s + 1) h)) in
    ap (λ (x : ℕ). drop 1 (from x j) ++ 0 ∷ []) (sym e) ∙ next j s below (ltb (suc s) (length j)) refl
    ∙ ap (λ (x : ℕ). from x (set j s 0)) (sym (in_place ∙ on)) ∙ ap (λ (n : ℕ). from (b % n) (set j s 0)) (sym (length-set j s 0))

-- ---- turned twice

-- places that are one
pub turned_mod : (j : List ℕ) (a b : ℕ) → a % length j ≡ b % length j → turned true a j ≡ turned true b j
unfolding turned
turned_mod j a b e = ap (λ (x : ℕ). from x j) e

module _ (j : List ℕ) (s t : ℕ) where
  once : List ℕ
  once = turned true s j

  as_many : length once ≡ length j
  unfolding once
  as_many = length_turned true s j

  word : (i : ℕ) → i < length j → get_or (turned true t once) i 0 ≡ get_or (turned true (s + t) j) i 0
  unfolding once slot_of
  word i h =
      let k : ℕ = (t + i) % length j in
      let low : k < length j = mod-lt (t + i) (omega arith) in
      let z : s + (t + i) ≡ s + t + i = omega arith in
      turned_get_or once t i (rw as_many h) true ∙ ap (λ (c : ℕ). get_or once ((t + i) % c) 0) as_many ∙ turned_get_or j s k low true
      ∙ ap (λ (x : ℕ). get_or j x 0) (add-mod-mod s (t + i) (length j) ∙ ap (λ (x : ℕ). x % length j) z) ∙ sym (turned_get_or j (s + t) i h true)

  turned_twice : turned true t (turned true s j) ≡ turned true (s + t) j
  unfolding once
  turned_twice =
      ext_get_or 0 (turned true t once) (turned true (s + t) j) (length_turned true t once ∙ as_many ∙ sym (length_turned true (s + t) j))
      (λ i h. word i (rw (length_turned true t once ∙ as_many) at h))

-- ---- the place of the oldest word left, by that of a step's first word

pub place_on_lem : (v c a : ℕ) → place_on (suc v) c a ≡ (a + suc v) % c
place_on_lem zero c a = refl
place_on_lem (suc v) c a =
    let z : a + 1 + suc v ≡ a + suc (suc v) = omega arith in
    place_on_lem v c ((a + 1) % c) ∙ mod-add-mod (a + 1) c (suc v) ∙ ap (λ (x : ℕ). x % c) z

pub place_next : (v c a : ℕ) → place_on (suc v) c a ≡ (place_on v c a + 1) % c
place_next zero c a = refl
place_next (suc v) c a = place_next v c ((a + 1) % c)

place_mod : (v c a : ℕ) → place_on v c a % c ≡ (a + v) % c
place_mod zero c a =
    let z : a ≡ a + 0 = omega arith in
    ap (λ (x : ℕ). x % c) z
place_mod (suc v) c a = ap (λ (x : ℕ). x % c) (place_on_lem v c a) ∙ mod-mod (a + suc v) c

-- y words are left of those that stood before it, and v are laid over
pub turned_round : (j : List ℕ) (a y v : ℕ) → y + v ≤ length j → length j < 2 ^ 61
    → turned true (length j - y) (turned true ((a + (y + v)) % length j % 2 ^ 61) j) ≡ turned true (place_on v (length j) a) j
turned_round j a y v h l = go (ltb 0 (length j)) refl
  where
    go : (c : Bool) → ltb 0 (length j) ≡ c
        → turned true (length j - y) (turned true ((a + (y + v)) % length j % 2 ^ 61) j) ≡ turned true (place_on v (length j) a) j
    go true e =
        let s : ℕ = (a + (y + v)) % length j in
        let below : s < length j = mod-lt (a + (y + v)) (ltb-true 0 (length j) e) in
        let z : a + (y + v) + (length j - y) ≡ a + v + length j = omega arith in
        ap (λ (x : ℕ). turned true (length j - y) (turned true x j)) (mod-eq_of_lt (omega arith)) ∙ turned_twice j s (length j - y)
        ∙ turned_mod j (s + (length j - y)) (place_on v (length j) a)
        (mod-add-mod (a + (y + v)) (length j) (length j - y) ∙ ap (λ (x : ℕ). x % length j) z ∙ add-mod_right (a + v) (length j) ∙ sym (place_mod v (length j) a))
    go false e =
        let s : ℕ = (a + (y + v)) % length j % 2 ^ 61 in
        let none : length j ≡ 0 = omega (arith, ltb-false 0 (length j) e) in
        let long : length (turned true (length j - y) (turned true s j)) ≡ length j = length_turned true (length j - y) (turned true s j) ∙ length_turned true s j in
        ext_get_or 0 _ _ (long ∙ sym (length_turned true (place_on v (length j) a) j)) (λ i b. absurd (omega (arith, long, none)))
