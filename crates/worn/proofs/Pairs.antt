-- Two machines that differ in what was never read: their images byte by byte, their journals word by word, all else the same. What a store, a drop and a
-- refusal do to both keeps it so.
use mathlib.Core.Path.{◌≡◌, refl, ◌∙◌, ap, sym}
use mathlib.Core.Bool.{Bool, true, false}
use mathlib.Core.List.{List, [], ◌∷◌, ◌++◌}
use Prim.Native.Nat.{ℕ, zero, suc, ◌+◌, ◌*◌, ◌/◌, ◌^◌, ◌<◌}
use native.Mathlib.Omega.{arith}
use lib.Dec.{ltb, eqb}
use lib.ListN.{length, get_or, set, take, drop, length-set}
use lib.Seq.{get_or-set_same, get_or-set_other}
use borrow.Author.Tests.{eqb-true, eqb-false, ltb-true, ne_eqb}
use Rattle.rules.specs.Machine.{pick, ◌also◌, bit, Kind, cpu, vdp, register, grom, group, extent, writable, Mem, mem, area}
use Rattle.rules.specs.Journal.{word, lay, store_of, make, blank, marks, until_mark, oldest}
use Rattle.rules.specs.Rules.{room, spare}

-- a word of kind 4 is no mark, whatever its address and its byte
no_mark : (a b : ℕ) → marks (word grom a b) ≡ false
unfolding marks word
no_mark a b = ne_eqb ((4 * 2 ^ 29 + a * 256 + b) / 2 ^ 29) 3 (λ (e : (4 * 2 ^ 29 + a * 256 + b) / 2 ^ 29 ≡ 3). omega arith)

-- The images begin as i and j; w names the writable groups.
module _ (i j : List ℕ) (w : ℕ) where
  -- ---- the images

  -- an address of a writable group
  abbrev pub Open : ℕ → Type 0
  Open a = bit (a / group) w ≡ true

  -- at an address: in each its own byte of the start, or in both one that was stored
  pub data Byte (a : ℕ) : ℕ → ℕ → Type 0 where
    first : Byte a (get_or i a 0) (get_or j a 0)
    stored : {b : ℕ} → Open a → Byte a b b

  pub record Images (x y : List ℕ) : Type 0 where
    pub start : length x ≡ length i
    pub lengths : length x ≡ length y
    pub bytes : (a : ℕ) → Byte a (get_or x a 0) (get_or y a 0)

  -- where they agreed at the start, they agree
  pub agreed : {a b c : ℕ} → get_or i a 0 ≡ get_or j a 0 → Byte a b c → b ≡ c
  agreed e first = e
  agreed e (stored h) = refl

  images_set : {x y : List ℕ} (a b : ℕ) → Open a → a < length i → Images x y → Images (set x a b) (set y a b)
  images_set {x} {y} a b o l h =
      record {
        start = length-set x a b ∙ h.start;
        lengths = length-set x a b ∙ h.lengths ∙ sym (length-set y a b);
        bytes = λ c. go c (eqb c a) refl;
      }
    where
      go : (c : ℕ) (d : Bool) → eqb c a ≡ d → Byte c (get_or (set x a b) c 0) (get_or (set y a b) c 0)
      go c true e =
          rw (eqb-true c a e, get_or-set_same x a b 0 (omega (arith, h.start)), get_or-set_same y a b 0 (omega (arith, h.start, h.lengths))) (stored o)
      go c false e = rw (get_or-set_other x a c b 0 (eqb-false c a e), get_or-set_other y a c b 0 (eqb-false c a e)) (h.bytes c)

  -- ---- the journals

  pub data Word : ℕ → ℕ → Type 0 where
    alike : {x : ℕ} → Word x x
    old : {b c : ℕ} (a : ℕ) → Open a → Byte a b c → Word (word grom a b) (word grom a c)

  pub data Journals : List ℕ → List ℕ → Type 0 where
    none : Journals [] []
    more : {x y : ℕ} {l k : List ℕ} → Word x y → Journals l k → Journals (x ∷ l) (y ∷ k)

  pub journals_same : (l : List ℕ) → Journals l l
  journals_same [] = none
  journals_same (x ∷ l) = more alike (journals_same l)

  pub journals_length : {l k : List ℕ} → Journals l k → length l ≡ length k
  journals_length none = refl
  journals_length (more h t) = ap suc (journals_length t)

  pub journals_at : {l k : List ℕ} (n : ℕ) → Journals l k → Word (get_or l n 0) (get_or k n 0)
  journals_at n none = alike
  journals_at zero (more h t) = h
  journals_at (suc n) (more h t) = journals_at n t

  journals_set : {l k : List ℕ} {x y : ℕ} (u : ℕ) → Word x y → Journals l k → Journals (set l u x) (set k u y)
  journals_set u h none = none
  journals_set zero h (more g t) = more h t
  journals_set (suc u) h (more g t) = more g (journals_set u h t)

  pub journals_blank : {l k : List ℕ} (n u : ℕ) → Journals l k → Journals (blank n u l) (blank n u k)
  journals_blank zero u h = h
  journals_blank (suc n) u h = journals_set u alike (journals_blank n (suc u) h)

  journals_take : {l k : List ℕ} (n : ℕ) → Journals l k → Journals (take n l) (take n k)
  journals_take zero h = none
  journals_take (suc n) none = none
  journals_take (suc n) (more h t) = more h (journals_take n t)

  journals_drop : {l k : List ℕ} (n : ℕ) → Journals l k → Journals (drop n l) (drop n k)
  journals_drop zero h = h
  journals_drop (suc n) none = none
  journals_drop (suc n) (more h t) = journals_drop n t

  journals_append : {l k : List ℕ} (z : List ℕ) → Journals l k → Journals (l ++ z) (k ++ z)
  journals_append z none = journals_same z
  journals_append z (more h t) = more h (journals_append z t)

  -- the oldest step is as long in both: marks are the same words
  word_marks : {x y : ℕ} → Word x y → marks x ≡ marks y
  word_marks alike = refl
  word_marks (old {b} {c} a o h) = no_mark a b ∙ sym (no_mark a c)

  until_same : {l k : List ℕ} → Journals l k → until_mark l ≡ until_mark k
  until_same none = refl
  until_same (more h t) = rw (word_marks h, until_same t)

  oldest_same : {l k : List ℕ} → Journals l k → oldest l ≡ oldest k
  oldest_same none = refl
  oldest_same (more h t) = ap suc (until_same t)

  -- ---- the machines

  pub data Worn : Mem → Mem → Type 0 where
    worn : {x y p v r l k : List ℕ} {u o a : ℕ} {c : Bool} → Images x y → Journals l k → Worn (mem x w p v r l u o a c) (mem y w p v r k u o a c)

  worn_pick : (c : Bool) {m n o p : Mem} → Worn m n → Worn o p → Worn (pick c m o) (pick c n p)
  worn_pick true h k = h
  worn_pick false h k = k

  pub room_worn : {m n : Mem} → Worn m n → room m ≡ room n
  room_worn (worn {u = u} h t) = ap (ltb u) (journals_length t)

  -- as many words are dropped in both
  pub spare_worn : {m n : Mem} → Worn m n → Worn (spare m) (spare n)
  unfolding spare
  spare_worn {m} {n} (worn {l = l} {k} {o = o} h t) =
      rw (journals_length t, oldest_same (journals_take o t))
      (worn_pick (room n) (worn h t) (worn_pick (n.ring also ltb 0 o) (worn h (journals_append _ (journals_drop (oldest (take o k)) t))) (worn h t)))

  pub lay_worn : (x : ℕ) {m n : Mem} → Worn m n → Worn (lay x m) (lay x n)
  lay_worn x (worn {u = u} h t) = worn h (journals_set u alike t)

  -- a store, whose old bytes are those of m and n, made in machines that may have dropped words since
  pub make_worn : (k : Kind) (a b : ℕ) {m n m₁ n₁ : Mem} → Worn m n → Worn m₁ n₁ → ltb a (extent (area m) k) ≡ true → writable (area m) k a ≡ true
      → Worn (make (store_of k a b m) m₁) (make (store_of k a b n) n₁)
  make_worn cpu a b (worn h t) (worn {u = u} h₁ t₁) e o = worn h₁ (journals_set u alike t₁)
  make_worn vdp a b (worn h t) (worn {u = u} h₁ t₁) e o = worn h₁ (journals_set u alike t₁)
  make_worn register a b (worn h t) (worn {u = u} h₁ t₁) e o = worn h₁ (journals_set u alike t₁)
  make_worn grom a b {m = m} (worn h t) (worn {u = u} h₁ t₁) e o =
      worn (images_set a b o (omega (arith, ltb-true a (length m.image) e, h.start)) h₁) (journals_set u (old a o (h.bytes a)) t₁)
