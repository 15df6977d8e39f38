-- The journal's words and their book in the words of the rules: one law for each way out of a function.
use Rattle.std.proofs.Common.{◌≡◌, refl, ◌∙◌, ap, ap₂, sym, Bool, true, false, List, [], ◌∷◌, ◌++◌, ℕ, zero, suc, ◌+◌, ◌-◌, ◌%◌, ◌≤◌, ◌<◌, not-suc-le-zero, arith, length, get_or, set, take, drop, length-take-le, lt-ltb, le-ltb}
use Rattle.std.proofs.Math.Nat.{mod-add-mod}
use Rattle.std.proofs.Math.Seq.{take-append-le}
use Rattle.rules.specs.Machine.{◌also◌, Mem, mem, beside}
use Rattle.rules.specs.Journal.{turned, zero_top, marks, until_mark, oldest, older_words, forget}
use Rattle.rules.specs.Rules.{spare}
use Rattle.rules.proofs.Forget.{length_forget, until_within, forget_none, forget_more}
use Rattle.ring.specs.Meaning.{booked, slot_of}
use Rattle.ring.specs.declared.book.Book.{Book}
use Rattle.ring.proofs.Turned.{length_turned, turned_set, turned_forget}

abbrev book : ℕ → ℕ → ℕ → Bool → Book
book u o a r = record { used = u; older = o; place = a; ring = r }

-- ---- a word laid, one wiped, and the oldest dropped

module _ (j : List ℕ) (b : Book) (x : Mem) where
  pub wiped : (s i : ℕ) → i < length j → s ≡ slot_of b.ring b.place (length j) i
      → booked (set j s 0) (book i b.older b.place b.ring) x ≡ zero_top i (booked j b x)
  wiped s i h e =
      ap (λ (l : List ℕ). beside l i (booked j b x))
      (ap (λ (n : ℕ). turned b.ring b.place (set j n 0)) e ∙ sym (turned_set j b.place i h b.ring 0))

-- where steps are dropped
pub forgot : (j : List ℕ) (u o a : ℕ) (r : Bool) (x : Mem) (s p : ℕ) → r ≡ true → 0 < length j → s ≡ a % length j → p ≡ (s + 1) % length j
    → booked (set j s 0) (book (u - 1) (o - 1) p r) x ≡ forget 1 (booked j (book u o a r) x)
forgot j u o a false x s p e h f g = absurd (let z : ◌≡◌ {A = ℕ} 0 1 = cc in omega arith)
forgot j u o a true x s p e h f g =
    let on : p ≡ (a + 1) % length (turned true a j) =
    g ∙ ap (λ (n : ℕ). (n + 1) % length j) f ∙ mod-add-mod a (length j) 1 ∙ ap (λ (n : ℕ). (a + 1) % n) (sym (length_turned true a j)) in
    ap₂ (λ (l : List ℕ) (q : ℕ). mem x.image x.groups x.pad x.vram x.regs l (u - 1) (o - 1) q true) (sym (turned_forget j a s p h f g)) on

-- a machine of no cells, to read a book beside
pub bare : Mem
bare = mem [] 0 [] [] [] [] 0 0 0 false

-- ---- the words before the next mark

pub until_mark_lem : (l : ℕ) (j : List ℕ) → marks (get_or j 0 0) ≡ true → 0 < length j → until_mark (take (suc l) j) ≡ 0
until_mark_lem l [] h k = absurd (not-suc-le-zero k)
until_mark_lem l (w ∷ ws) h k = rw h

pub until_other : (l : ℕ) (j : List ℕ) → marks (get_or j 0 0) ≡ false → suc l ≤ length j → until_mark (take (suc l) j) ≡ suc (until_mark (take l (drop 1 j ++ 0 ∷ [])))
until_other l [] h k = absurd (not-suc-le-zero k)
until_other l (w ∷ ws) h k = rw h (ap (λ (x : List ℕ). suc (until_mark x)) (sym (take-append-le l ws (0 ∷ []) (omega arith))))

-- one word dropped, then n
pub one_more : (m : Mem) (n : ℕ) → suc n ≤ length m.journal → forget n (forget 1 m) ≡ forget (suc n) m
one_more m n h =
    let z : 1 + n ≡ suc n = omega arith in
    forget_more 1 n m (omega arith) ∙ ap (λ (k : ℕ). forget k m) z

-- so many at most, of the first l words
pub few : (m : Mem) (l : ℕ) → suc l ≤ length m.journal → suc (until_mark (take l (forget 1 m).journal)) ≤ length m.journal
few m l h =
    let j : List ℕ = (forget 1 m).journal in
    let n : length j ≡ length m.journal = length_forget 1 m.journal (omega arith) in
    omega (arith, until_within (take l j), length-take-le l j (omega arith))

-- the turns of the loop over a journal m, of which l words may still be dropped, and whose first word is w
module _ (l w : ℕ) (m : Mem) (q : w ≡ get_or m.journal 0 0) (n : 0 < l) (h : l ≤ length m.journal) where
  pub unmarked_stops : marks w ≡ true → m ≡ forget (until_mark (take l m.journal)) m
  unmarked_stops k = go l n h
    where
      go : (l : ℕ) → 0 < l → l ≤ length m.journal → m ≡ forget (until_mark (take l m.journal)) m
      go zero n h = absurd (not-suc-le-zero n)
      go (suc l) n h = sym (ap (λ (d : ℕ). forget d m) (until_mark_lem l m.journal (ap marks (sym q) ∙ k) (omega arith)) ∙ forget_none m)

  pub unmarked_goes : {m₁ : Mem} (k : ℕ) → k ≡ l - 1 → marks w ≡ false → m₁ ≡ forget 1 m
      → forget (until_mark (take k m₁.journal)) m₁ ≡ forget (until_mark (take l m.journal)) m
  unmarked_goes _ z k e = ap₂ (λ (d : ℕ) (y : Mem). forget (until_mark (take d y.journal)) y) z e ∙ go l n h
    where
      go : (l : ℕ) → 0 < l → l ≤ length m.journal
          → forget (until_mark (take (l - 1) (forget 1 m).journal)) (forget 1 m) ≡ forget (until_mark (take l m.journal)) m
      go zero n h = absurd (not-suc-le-zero n)
      go (suc l) n h =
          let z : suc l - 1 ≡ l = omega arith in
          rw z (one_more m (until_mark (take l (forget 1 m).journal)) (few m l h) ∙ ap (λ (d : ℕ). forget d m) (sym (until_other l m.journal (ap marks (sym q) ∙ k) h)))

pub unmarked_ends : (l : ℕ) (m : Mem) → l ≡ 0 → m ≡ forget (until_mark (take l m.journal)) m
unmarked_ends l m e = sym (ap (λ (l : ℕ). forget (until_mark (take l m.journal)) m) e ∙ forget_none m)

-- ---- room for a word

pub room_left : (m : Mem) → m.used < length m.journal → m ≡ spare m
unfolding spare
room_left m h = rw (lt-ltb m.used (length m.journal) h)

module _ (m : Mem) (h : length m.journal ≤ m.used) where
  pub spare_plain : m.ring ≡ false → m ≡ spare m
  unfolding spare ◌also◌
  spare_plain e = rw (le-ltb m.used (length m.journal) h, e)

  pub spare_none : m.older ≡ 0 → m ≡ spare m
  unfolding spare ◌also◌
  spare_none e = go m.ring refl
    where
      go : (r : Bool) → m.ring ≡ r → m ≡ spare m
      go true q = rw (le-ltb m.used (length m.journal) h, q, e)
      go false q = spare_plain q

  pub spare_oldest : m.ring ≡ true → 0 < m.older → forget (oldest (older_words m)) m ≡ spare m
  unfolding spare ◌also◌
  spare_oldest e z = rw (le-ltb m.used (length m.journal) h, e, lt-ltb 0 m.older z)
