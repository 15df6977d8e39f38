-- A word laid in a step, as the rules have it. In a ring: where a place is free, nothing is dropped; where none is, one older word more is laid over, and the
-- rest of its step goes with it.
use Rattle.std.proofs.Common.{◌≡◌, refl, ◌∙◌, ap, ap₂, sym, subst, Bool, true, false, List, [], ◌∷◌, ◌++◌, ℕ, zero, suc, ◌+◌, ◌-◌, ◌%◌, ◌^◌, ◌≤◌, ◌<◌, not-suc-le-zero, mod-eq_of_lt, add-one, arith, ltb, length, get_or, set, take, drop, length-set, set-set, lt-ltb, le-ltb, ltb-true, ltb-false}
use Rattle.std.proofs.Math.Nat.{mod-mod, mod-add-mod, add-mod_right}
use Rattle.std.proofs.Math.Seq.{take-append-le, take-set-le}
use Rattle.rules.specs.Machine.{pick, ◌also◌, Mem}
use Rattle.rules.specs.Journal.{turned, lay, marks, until_mark, oldest, older_words, place_on, forget}
use Rattle.rules.specs.Rules.{room, spare}
use Rattle.rules.proofs.Forget.{length_forget, forget_none, forget_lay}
use Rattle.ring.specs.Meaning.{slot_of, alone, laid_over, left, left_of, ringed, rings, own, seen, carrying, Laid}
use Rattle.ring.proofs.Turned.{length_turned, as_long, turned_set, turned_forget, turned_mod, turned_round, place_on_lem, place_next}
use Rattle.ring.proofs.Books.{until_mark_lem, until_other, one_more, few, room_left, spare_plain, spare_none, spare_oldest}

-- where room is left
lays_there : (w : ℕ) (m : Mem) {c : Mem} → m.used < length m.journal → c ≡ lay w m → Laid w m c
lays_there w m h e = (ap room (sym (room_left m h)) ∙ lt-ltb m.used _ h, e ∙ ap (lay w) (room_left m h))

-- ---- none is left: the oldest step goes

module _ (m : Mem) (r : ℕ) (ring : m.ring ≡ true) (older : m.older ≡ suc r) (used : m.used ≡ length m.journal) (fits : suc r ≤ length m.journal) where
  -- so many words are of it
  gone : ℕ
  gone = suc (until_mark (take r (forget 1 m).journal))

  gone_fits : gone ≤ length m.journal
  unfolding gone
  gone_fits = few m r fits

  oldest_is : (j : List ℕ) → suc r ≤ length j → oldest (take (suc r) j) ≡ suc (until_mark (take r (drop 1 j ++ 0 ∷ [])))
  oldest_is [] l = absurd (not-suc-le-zero l)
  oldest_is (w ∷ ws) l = ap (λ (y : List ℕ). suc (until_mark y)) (sym (take-append-le r ws (0 ∷ []) (omega arith)))

  whole : spare m ≡ forget gone m
  unfolding gone
  whole =
      sym (spare_oldest m (omega arith) ring (omega arith))
      ∙ ap (λ (d : ℕ). forget d m) (ap (λ (o : ℕ). oldest (take o m.journal)) older ∙ oldest_is m.journal fits)

  fewer : (forget gone m).used < length (forget gone m).journal
  unfolding gone
  fewer = omega (arith, gone_fits, length_forget gone m.journal gone_fits)

  -- or the rest of it, which may have gone before
  spared : (b : Bool) → spare (forget (pick b (until_mark (take m.older m.journal)) 0) m) ≡ forget gone m
  unfolding gone
  spared false = ap spare (forget_none m) ∙ whole
  spared true =
      ap (λ (o : ℕ). spare (forget (until_mark (take o m.journal)) m)) older ∙ go (marks (get_or m.journal 0 0)) refl
    where
      go : (b : Bool) → marks (get_or m.journal 0 0) ≡ b → spare (forget (until_mark (take (suc r) m.journal)) m) ≡ forget gone m
      go true e = ap (λ (d : ℕ). spare (forget d m)) (until_mark_lem r m.journal e (omega arith)) ∙ ap spare (forget_none m) ∙ whole
      go false e = ap (λ (d : ℕ). spare (forget d m)) (until_other r m.journal e fits) ∙ sym (room_left (forget gone m) fewer)

-- ---- a step's words in a ring

none_broken : (v z : ℕ) → v ≡ 0 → pick (ltb 0 v) z 0 ≡ 0
none_broken v z e = rw e

module _ (l : List ℕ) (o k a : ℕ) where
  -- with free places left, or just none
  left_free : o + k ≤ length l → left_of l o k a ≡ alone (turned true (length l - o) l) (o + k) o a true
  left_free h =
      let v : laid_over (length l) o k ≡ 0 = omega arith in
      let z : o - 0 ≡ o = omega arith in
      ap (λ (x : ℕ). alone (turned true (length l - (o - x)) l) (o - x + k) (o - x) (place_on x (length l) a) true) v
      ∙ ap (λ (x : ℕ). alone (turned true (length l - x) l) (x + k) x a true) z

  pub free_ringed : o + k ≤ length l → ringed l o k a ≡ alone (turned true (length l - o) l) (o + k) o a true
  free_ringed h =
      ap (λ (d : ℕ). forget d (left_of l o k a)) (none_broken (laid_over (length l) o k) _ (let v : laid_over (length l) o k ≡ 0 = omega arith in v))
      ∙ forget_none (left_of l o k a) ∙ left_free h

  -- with none
  pub left_full : length l ≤ o + k → k ≤ length l
      → left_of l o k a ≡ alone (turned true k l) (length l) (length l - k) (place_on (laid_over (length l) o k) (length l) a) true
  left_full h f =
      let p : ℕ = place_on (laid_over (length l) o k) (length l) a in
      let v : left (length l) o k ≡ length l - k = omega arith in
      let x : length l - (length l - k) ≡ k = omega arith in
      let y : length l - k + k ≡ length l = omega arith in
      ap (λ (z : ℕ). alone (turned true (length l - z) l) (z + k) z p true) v
      ∙ ap₂ (λ (s u : ℕ). alone (turned true s l) u (length l - k) p true) x y

  -- all its words: no older one is left
  all_ringed : length l ≤ k → ringed l o k a ≡ left_of l o k a
  all_ringed h =
      let z : left (length l) o k ≡ 0 = omega arith in
      ap (λ (d : ℕ). forget d (left_of l o k a)) (go (ltb 0 (laid_over (length l) o k)) _ (ap (λ (n : ℕ). until_mark (take n (left_of l o k a).journal)) z))
      ∙ forget_none (left_of l o k a)
    where
      go : (b : Bool) (n : ℕ) → n ≡ 0 → pick b n 0 ≡ 0
      go true n e = e
      go false n e = refl

  pub ring_full : length l ≤ k → (room (spare (ringed l o k a)) ≡ false) × (ringed l o k a ≡ spare (ringed l o k a))
  ring_full h =
      let m : Mem = left_of l o k a in
      let z : m.older ≡ 0 = omega arith in
      let u : length m.journal ≤ m.used = omega (arith, length_turned true (length l - left (length l) o k) l) in
      let e : ringed l o k a ≡ spare (ringed l o k a) = all_ringed h ∙ spare_none m u z ∙ ap spare (sym (all_ringed h)) in
      (ap room (sym e ∙ all_ringed h) ∙ le-ltb m.used _ u, e)

-- ---- one word more

module _ (l : List ℕ) (o k a w : ℕ) where
  long : length (set l k w) ≡ length l
  long = length-set l k w

  -- into a free place
  pub lays_free : o + k < length l → Laid w (ringed l o k a) (ringed (set l k w) o (k + 1) a)
  unfolding slot_of
  lays_free h =
      let m : Mem = alone (turned true (length l - o) l) (o + k) o a true in
      let i : o + k < length (turned true (length l - o) l) = as_long true _ l h in
      let z : length l - o + (o + k) ≡ k + length l = omega arith in
      let at : slot_of true (length l - o) (length l) (o + k) ≡ k = ap (λ (x : ℕ). x % length l) z ∙ add-mod_right k (length l) ∙ mod-eq_of_lt (omega arith) in
      let u : o + (k + 1) ≡ suc (o + k) = omega arith in
      let e : ringed (set l k w) o (k + 1) a ≡ lay w m =
      free_ringed (set l k w) o (k + 1) a (omega (arith, long))
      ∙ ap₂ (λ (n v : ℕ). alone (turned true (n - o) (set l k w)) v o a true) long u
      ∙ ap (λ (j : List ℕ). alone j (suc (o + k)) o a true)
      (ap (λ (x : ℕ). turned true (length l - o) (set l x w)) (sym at) ∙ sym (turned_set l (length l - o) (o + k) h true w)) in
      subst (λ (x : Mem). Laid w x (ringed (set l k w) o (k + 1) a)) (sym (free_ringed l o k a (omega arith))) (lays_there w m i e)

  -- over an older word
  module _ (h : length l ≤ o + k) (f : k < length l) where
    v : ℕ
    v = laid_over (length l) o k

    abbrev full : Mem
    full = alone (turned true k l) (length l) (length l - k) (place_on v (length l) a) true

    abbrev others : ℕ
    others = length l - k - 1

    words : length (turned true k l) ≡ length l
    words = length_turned true k l

    dropped : ℕ
    unfolding v
    dropped = gone full others refl (omega arith) (sym words) (omega (arith, words))

    spared_so : spare (ringed l o k a) ≡ forget dropped full
    unfolding v dropped
    spared_so =
        ap (λ (m : Mem). spare (forget (pick (ltb 0 (laid_over (length l) o k)) (until_mark (take m.older m.journal)) 0) m)) (left_full l o k a h (omega arith))
        ∙ spared full others refl (omega arith) (sym words) (omega (arith, words)) (ltb 0 (laid_over (length l) o k))

    -- the words then: one less from the oldest on, and the new one at their end
    turned_on : turned true (k + 1) (set l k w) ≡ set (drop 1 (turned true k l) ++ 0 ∷ []) (length l - 1) w
    unfolding slot_of
    turned_on =
        let b : ℕ = (k + 1) % length l in
        let n : length (set l k 0) ≡ length l = length-set l k 0 in
        let z : k + 1 + (length l - 1) ≡ k + length l = omega arith in
        let at : (b + (length l - 1)) % length l ≡ k =
        mod-add-mod (k + 1) (length l) (length l - 1) ∙ ap (λ (x : ℕ). x % length l) z ∙ add-mod_right k (length l) ∙ mod-eq_of_lt f in
        let i : length l - 1 < length (set l k 0) = omega (arith, n) in
        let same : (k + 1) % length (set l k w) ≡ b % length (set l k w) =
        ap (λ (c : ℕ). (k + 1) % c) long ∙ sym (mod-mod (k + 1) (length l)) ∙ ap (λ (c : ℕ). b % c) (sym long) in
        turned_mod (set l k w) (k + 1) b same
        ∙ ap (turned true b) (sym (set-set l k 0 w) ∙ ap (λ (x : ℕ). set (set l k 0) x w) (sym (ap (λ (c : ℕ). (b + (length l - 1)) % c) n ∙ at)))
        ∙ sym (turned_set (set l k 0) b (length l - 1) i true w)
        ∙ ap (λ (j : List ℕ). set j (length l - 1) w) (sym (turned_forget l k k b (omega arith) (sym (mod-eq_of_lt f)) refl))

    -- so are its numbers
    goes_on : left_of (set l k w) o (k + 1) a ≡ lay w (forget 1 full)
    unfolding v
    goes_on =
        let u : length l ≡ suc (length l - 1) = omega arith in
        let x : length l - (k + 1) ≡ length l - k - 1 = omega arith in
        let y : laid_over (length l) o (k + 1) ≡ suc (laid_over (length l) o k) = omega arith in
        let p : ℕ = place_on (laid_over (length l) o k) (length l) a in
        left_full (set l k w) o (k + 1) a (omega (arith, long)) (omega (arith, long))
        ∙ ap (λ (n : ℕ). alone (turned true (k + 1) (set l k w)) n (n - (k + 1)) (place_on (laid_over n o (k + 1)) n a) true) long
        ∙ ap₂ (λ (j : List ℕ) (n : ℕ). alone j n (length l - (k + 1)) (place_on (laid_over (length l) o (k + 1)) (length l) a) true) turned_on u
        ∙ ap₂ (λ (n q : ℕ). alone (set (drop 1 (turned true k l) ++ 0 ∷ []) (length l - 1) w) (suc (length l - 1)) n q true) x
        (ap (λ (n : ℕ). place_on n (length l) a) y ∙ place_next (laid_over (length l) o k) (length l) a ∙ ap (λ (c : ℕ). (p + 1) % c) (sym words))

    laid_so : ringed (set l k w) o (k + 1) a ≡ lay w (forget dropped full)
    unfolding v dropped gone
    laid_so =
        let e : ℕ = until_mark (take others (forget 1 full).journal) in
        let over : 0 < laid_over (length (set l k w)) o (k + 1) = omega (arith, long) in
        let m : Mem = left_of (set l k w) o (k + 1) a in
        let few : suc e ≤ length full.journal = gone_fits full others refl (omega arith) (sym words) (omega (arith, words)) in
        ap (λ (b : Bool). forget (pick b (until_mark (take m.older m.journal)) 0) m) (lt-ltb 0 _ over)
        ∙ ap (λ (x : Mem). forget (until_mark (take x.older x.journal)) x) goes_on
        ∙ ap (λ (j : List ℕ). forget (until_mark j) (lay w (forget 1 full))) (take-set-le others (forget 1 full).journal (length l - 1) w (omega arith))
        ∙ sym (forget_lay e w (forget 1 full) (omega (arith, few, words)) (omega (arith, words, length_forget 1 full.journal (omega (arith, words)))))
        ∙ ap (lay w) (one_more full e few)

    pub lays_over : Laid w (ringed l o k a) (ringed (set l k w) o (k + 1) a)
    unfolding v dropped
    lays_over =
        (ap room spared_so ∙ lt-ltb _ _ (fewer full others refl (omega arith) (sym words) (omega (arith, words))), laid_so ∙ ap (lay w) (sym spared_so))

-- either
lays_ring : (l : List ℕ) (o k a w : ℕ) → k < length l → Laid w (ringed l o k a) (ringed (set l k w) o (k + 1) a)
lays_ring l o k a w f = go (ltb (o + k) (length l)) refl
  where
    go : (b : Bool) → ltb (o + k) (length l) ≡ b → Laid w (ringed l o k a) (ringed (set l k w) o (k + 1) a)
    go true e = lays_free l o k a w (ltb-true (o + k) (length l) e)
    go false e = lays_over l o k a w (ltb-false (o + k) (length l) e) f

-- ---- as a step sees its journal

module _ (j r : List ℕ) (o a u : ℕ) where
  seen_plain : length r < 2 → seen j r o a u ≡ alone j u o a false
  unfolding seen rings
  seen_plain h = rw (le-ltb 1 (length r) (omega arith))

  seen_ring : 2 ≤ length r → seen j r o a u ≡ ringed (own j r) (get_or r 1 0) u a
  unfolding seen rings
  seen_ring h = rw (lt-ltb 1 (length r) h)

pub length_own : (j r : List ℕ) → length (own j r) ≡ length j
unfolding own
length_own j r = length_turned true (get_or r 0 0 % 2 ^ 61) j

pub laid_plain : (j r : List ℕ) (u w : ℕ) → length r < 2 → u < length j → (o a : ℕ) → Laid w (seen j r o a u) (seen (set j u w) r o a (u + 1))
laid_plain j r u w h l o a =
    subst (λ (x : Mem). Laid w x (seen (set j u w) r o a (u + 1))) (sym (seen_plain j r o a u h))
    (lays_there w (alone j u o a false) l (seen_plain (set j u w) r o a (u + 1) h ∙ ap (λ (n : ℕ). alone (set j u w) n o a false) (add-one u)))

pub laid_ring : (j r : List ℕ) (u w s : ℕ) → 2 ≤ length r → u < length j → s ≡ (get_or r 0 0 % 2 ^ 61 + u) % length j
    → (o a : ℕ) → Laid w (seen j r o a u) (seen (set j s w) r o a (u + 1))
unfolding own slot_of
laid_ring j r u w s h l e o a =
    let first : ℕ = get_or r 0 0 % 2 ^ 61 in
    let words : own (set j s w) r ≡ set (own j r) u w =
    ap (λ (i : ℕ). turned true first (set j i w)) e ∙ sym (turned_set j first u l true w) in
    subst (λ (x : Mem). Laid w x (seen (set j s w) r o a (u + 1))) (sym (seen_ring j r o a u h))
    (subst (λ (x : Mem). Laid w (ringed (own j r) (get_or r 1 0) u a) x)
    (ap (λ (x : List ℕ). ringed x (get_or r 1 0) (u + 1) a) (sym words) ∙ sym (seen_ring (set j s w) r o a (u + 1) h))
    (lays_ring (own j r) (get_or r 1 0) u a w (as_long true first j l)))

-- no place is left
pub no_room_lem : (j r : List ℕ) (u : ℕ) → length j ≤ u → (o a : ℕ) → (room (spare (seen j r o a u)) ≡ false) × (seen j r o a u ≡ spare (seen j r o a u))
no_room_lem j r u l o a = go (ltb 1 (length r)) refl
  where
    go : (b : Bool) → ltb 1 (length r) ≡ b → (room (spare (seen j r o a u)) ≡ false) × (seen j r o a u ≡ spare (seen j r o a u))
    go true e =
        subst (λ (x : Mem). (room (spare x) ≡ false) × (x ≡ spare x)) (sym (seen_ring j r o a u (ltb-true 1 (length r) e)))
        (ring_full (own j r) (get_or r 1 0) u a (omega (arith, length_own j r)))
    go false e =
        let m : Mem = alone j u o a false in
        let x : m ≡ spare m = spare_plain m l refl in
        subst (λ (x : Mem). (room (spare x) ≡ false) × (x ≡ spare x)) (sym (seen_plain j r o a u (omega (arith, ltb-false 1 (length r) e))))
        (ap room (sym x) ∙ le-ltb u (length j) l, x)

-- ---- beside the cells of any machine

module _ (s x : Mem) where
  spare_carried : spare (carrying s x) ≡ carrying (spare s) x
  unfolding spare
  spare_carried = go (room s) (s.ring also ltb 0 s.older)
    where
      go : (b c : Bool)
          → pick b (carrying s x) (pick c (forget (oldest (older_words s)) (carrying s x)) (carrying s x)) ≡ carrying (pick b s (pick c (forget (oldest (older_words s)) s) s)) x
      go true c = refl
      go false true = refl
      go false false = refl

  pub laid_carried : (w : ℕ) {t : Mem} → Laid w s t → Laid w (carrying s x) (carrying t x)
  laid_carried w h = (ap room spare_carried ∙ h.0, ap (λ (m : Mem). carrying m x) h.1 ∙ ap (lay w) (sym spare_carried))

  pub full_carried : (room (spare s) ≡ false) × (s ≡ spare s) → (room (spare (carrying s x)) ≡ false) × (carrying s x ≡ spare (carrying s x))
  full_carried h = (ap room spare_carried ∙ h.0, ap (λ (m : Mem). carrying m x) h.1 ∙ sym spare_carried)

-- ---- as its book at the end has it

module _ (j : List ℕ) (o a u : ℕ) where
  abbrev lent : List ℕ
  lent = (a + o) % length j ∷ o ∷ []

  pub closed_plain : alone (turned false a j) u o a false ≡ seen j [] o a u
  unfolding turned
  closed_plain = sym (seen_plain j [] o a u (omega arith))

  pub closed_free : o + u ≤ length j → length j < 2 ^ 61 → alone (turned true a j) (o + u) o a true ≡ seen j lent o a u
  unfolding own
  closed_free h f =
      let z : o + 0 ≡ o = omega arith in
      let n : length (own j lent) ≡ length j = length_own j lent in
      let back : turned true (length (own j lent) - o) (own j lent) ≡ turned true a j =
      ap (λ (c : ℕ). turned true (c - o) (own j lent)) n
      ∙ ap (λ (x : ℕ). turned true (length j - o) (turned true ((a + x) % length j % 2 ^ 61) j)) (sym z)
      ∙ turned_round j a o 0 (omega arith) f in
      sym (seen_ring j lent o a u (omega arith) ∙ free_ringed (own j lent) o u a (omega (arith, n)) ∙ ap (λ (l : List ℕ). alone l (o + u) o a true) back)

  -- over v older words
  pub closed_over : (v p : ℕ) → o + u ≡ length j + v → 0 < v → o ≤ length j → u ≤ length j → length j < 2 ^ 61 → p ≡ (a + v) % length j
      → forget (until_mark (take (length j - u) (turned true p j))) (alone (turned true p j) (length j) (length j - u) p true) ≡ seen j lent o a u
  unfolding own
  closed_over v p e h g i f q =
      let l : List ℕ = own j lent in
      let n : length l ≡ length j = length_own j lent in
      let y : laid_over (length j) o u ≡ v = omega arith in
      let z : length j - u + v ≡ o = omega arith in
      let w : length j - (length j - u) ≡ u = omega arith in
      let on : place_on v (length j) a ≡ p = go v h ∙ sym q in
      let back : turned true u l ≡ turned true p j =
      ap₂ (λ (t x : ℕ). turned true t (turned true ((a + x) % length j % 2 ^ 61) j)) (sym w) (sym z)
      ∙ turned_round j a (length j - u) v (omega arith) f ∙ ap (λ (x : ℕ). turned true x j) on in
      let m : left_of l o u a ≡ alone (turned true p j) (length j) (length j - u) p true =
      left_full l o u a (omega (arith, n)) (omega (arith, n))
      ∙ ap (λ (c : ℕ). alone (turned true u l) c (c - u) (place_on (laid_over c o u) c a) true) n
      ∙ ap₂ (λ (x : List ℕ) (s : ℕ). alone x (length j) (length j - u) s true) back (ap (λ (x : ℕ). place_on x (length j) a) y ∙ on) in
      sym (seen_ring j lent o a u (omega arith)
      ∙ ap (λ (b : Bool). forget (pick b (until_mark (take (left_of l o u a).older (left_of l o u a).journal)) 0) (left_of l o u a)) (lt-ltb 0 (laid_over (length l) o u) (omega (arith, n)))
      ∙ ap (λ (x : Mem). forget (until_mark (take x.older x.journal)) x) m)
    where
      go : (v : ℕ) → 0 < v → place_on v (length j) a ≡ (a + v) % length j
      go zero h = absurd (not-suc-le-zero h)
      go (suc v) h = place_on_lem v (length j) a
