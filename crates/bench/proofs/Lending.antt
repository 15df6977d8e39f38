-- The ring that is lent a step: beside it the journal is seen as it is at rest, at each point it is as long as it was, and its words have room.
use Rattle.std.proofs.Common.{◌≡◌, refl, ◌∙◌, ap, sym, Bool, true, false, List, [], ◌∷◌, ℕ, ◌+◌, ◌-◌, ◌%◌, ◌≤◌, ◌<◌, arith, ltb, length, get_or, take, length-take, ltb-true, ltb-false}
use Rattle.rules.specs.Machine.{pick, Mem}
use Rattle.rules.specs.Journal.{turned, until_mark}
use Rattle.rules.proofs.Forget.{length_forget, until_within}
use Rattle.ring.specs.Meaning.{alone, booked, laid_over, left, left_of, rest, ringed, rings, own, seen, lent_by}
use Rattle.ring.specs.declared.book.Book.{Book}
use Rattle.ring.proofs.Turned.{length_turned}
use Rattle.ring.proofs.Laying.{length_own, closed_plain, closed_free}
use Rattle.bench.specs.declared.at.At.{At}
use Rattle.bench.specs.Meaning.{book_at, count_at, ring_at, Lends}

pub ring_at_lem : {j r : List ℕ} {at : At} → at.used ≤ length j → Lends r j at
    → seen j r at.used at.place (count_at at) ≡ booked j (book_at at) (alone [] 0 0 0 false)
ring_at_lem {j} {r} {at} h l = ap (λ (d : List ℕ). seen j d at.used at.place (count_at at)) l.ring ∙ go at.ring
  where
    go : (b : Bool) → seen j (pick b ((at.place + at.used) % length j ∷ at.used ∷ []) []) at.used at.place (pick b 0 at.used)
        ≡ booked j (record { used = at.used; older = at.used; place = at.place; ring = b }) (alone [] 0 0 0 false)
    go false = sym (closed_plain j at.used at.place at.used)
    go true =
        let z : at.used + 0 ≡ at.used = omega arith in
        sym (closed_free j at.used at.place 0 (omega arith) l.long) ∙ ap (λ (u : ℕ). alone (turned true at.place j) u at.used at.place true) z

-- after a step it is lent still
pub still_lends : {j r j₁ r₁ : List ℕ} {at : At} → Lends r j at → r₁ ≡ r → length j₁ ≡ length j → Lends r₁ j₁ at
still_lends {at = at} l e n = record { ring = e ∙ l.ring ∙ ap (λ (x : ℕ). ring_at x at) (sym n); long = omega (arith, l.long, n) }

-- and its book at the end says what is seen
pub closed : {j d : List ℕ} {at : At} {b : Book} {m : Mem} (u : ℕ) → b ≡ book_at at → Lends d j at → m ≡ seen j (lent_by (length j) b) b.used b.place u
    → m ≡ seen j d at.used at.place u
closed {j} {d} {at} u e l h =
    h ∙ ap (λ (x : Book). seen j (lent_by (length j) x) x.used x.place u) e ∙ ap (λ (y : List ℕ). seen j y at.used at.place u) (sym l.ring)

-- ---- the words seen

-- no more are dropped than there are
few : (b : Bool) (n : ℕ) (j : List ℕ) → pick b (until_mark (take n j)) 0 ≤ length j
few true n j = omega (arith, until_within (take n j), length-take n j)
few false n j = omega arith

-- those of a step that has laid as many as there are
all_own : (b : Bool) (n : ℕ) (j : List ℕ) → n ≡ 0 → pick b (until_mark (take n j)) 0 ≡ 0
all_own true n j e = ap (λ (x : ℕ). until_mark (take x j)) e
all_own false n j e = refl

module _ (l : List ℕ) (o k a : ℕ) where
  long_ringed : length (ringed l o k a).journal ≡ length l
  long_ringed =
      length_forget (rest l o k a) (left_of l o k a).journal (few (ltb 0 (laid_over (length l) o k)) (left (length l) o k) (left_of l o k a).journal)
      ∙ length_turned true (length l - left (length l) o k) l

  used_ringed : length l ≤ k → (ringed l o k a).used ≡ k
  used_ringed h =
      let z : left (length l) o k ≡ 0 = omega arith in
      let e : rest l o k a ≡ 0 = all_own (ltb 0 (laid_over (length l) o k)) (left (length l) o k) (left_of l o k a).journal z in
      omega (arith, e)

module _ (j r : List ℕ) (o a u : ℕ) where
  pub long_seen : length (seen j r o a u).journal ≡ length j
  unfolding seen
  long_seen = go (rings r)
    where
      go : (b : Bool) → length (pick b (ringed (own j r) (get_or r 1 0) u a) (alone j u o a false)).journal ≡ length j
      go true = long_ringed (own j r) (get_or r 1 0) u a ∙ length_own j r
      go false = refl

  pub words_fit : (seen j r o a u).used ≤ length j → u ≤ length j
  unfolding seen
  words_fit h = go (rings r) h
    where
      ring : (c : Bool) → ltb (length j) u ≡ c → (ringed (own j r) (get_or r 1 0) u a).used ≤ length j → u ≤ length j
      ring true e h =
          let over : length j < u = ltb-true (length j) u e in
          omega (arith, used_ringed (own j r) (get_or r 1 0) u a (omega (arith, length_own j r)))
      ring false e h = ltb-false (length j) u e

      go : (b : Bool) → (pick b (ringed (own j r) (get_or r 1 0) u a) (alone j u o a false)).used ≤ length j → u ≤ length j
      go true h = ring (ltb (length j) u) refl h
      go false h = h
