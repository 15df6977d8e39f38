-- 02, item 13, of the call with a map: "So a buyer can hold a dump's bad bytes against it". Two images of one length that agree wherever the map has a mark after a run over the
-- first are graded alike: what the rules read is marked, and beyond the images there is nothing to differ.
use Rattle.std.proofs.Common.{◌≡◌, refl, ◌∙◌, sym, Bool, true, false, List, [], ◌∷◌, ℕ, zero, suc, ◌≤◌, ◌<◌, not-suc-le-zero, arith, eqb, ltb, length, get_or, set, length-set, get_or-set_same, get_or-set_other, eq-eqb, eqb-true, ltb-true, ltb-false}
use borrow.Author.Tests.{eqb-false}
use Rattle.rules.specs.Machine.{pick, State}
use Rattle.rules.specs.Calls.{run}
use Rattle.rules.specs.Reads.{run_reads, marked, mapped_run, map_left}
use Rattle.rules.proofs.Tests.{false_true}
use Rattle.worn.specs.Worn.{among, AgreeAt, with_image, Graded}
use Rattle.bench.specs.Numbers as numbers
use Rattle.bench.specs.Meaning.{Returned, reported, Tells}
use Rattle.export.specs.Meaning.{Numbers, heard}
use Rattle.witness.specs.Hosted.{as_report}
use Rattle.witness.proofs.Graded.{run_graded, run_graded_heard}

-- ---- what is read is marked

-- a mark put at b is there at a, if it was or a is b
put_mark : (z : List ℕ) (a b : ℕ) (c : Bool) → eqb a b ≡ c → a < length z → pick c 1 (get_or z a 0) ≡ 1 → get_or (set z b 1) a 0 ≡ 1
put_mark z a b true e l h = rw (sym (eqb-true a b e)) (get_or-set_same z a 1 0 l)
put_mark z a b false e l h = get_or-set_other z b a 1 0 (eqb-false a b e) ∙ h

marks_stay : (l z : List ℕ) (a : ℕ) → a < length z → get_or z a 0 ≡ 1 → get_or (marked l z) a 0 ≡ 1
unfolding marked
marks_stay [] z a n h = h
marks_stay (b ∷ l) z a n h = marks_stay l (set z b 1) a (rw (length-set z b 1) n) (go (eqb a b) refl)
  where
    go : (c : Bool) → eqb a b ≡ c → get_or (set z b 1) a 0 ≡ 1
    go true e = put_mark z a b true e n refl
    go false e = put_mark z a b false e n h

read_marked : (l z : List ℕ) (a : ℕ) → a < length z → among a l ≡ true → get_or (marked l z) a 0 ≡ 1
unfolding marked
read_marked [] z a n h = absurd (false_true h)
read_marked (b ∷ l) z a n h = go (eqb a b) refl h (read_marked l (set z b 1) a (rw (length-set z b 1) n))
  where
    go : (c : Bool) → eqb a b ≡ c → pick c true (among a l) ≡ true → (among a l ≡ true → get_or (marked l (set z b 1)) a 0 ≡ 1)
        → get_or (marked l (set z b 1)) a 0 ≡ 1
    go true e k f = marks_stay l (set z b 1) a (rw (length-set z b 1) n) (put_mark z a b true e n refl)
    go false e k f = f k

-- beyond its end a list has only 0
beyond : (l : List ℕ) (a : ℕ) → length l ≤ a → get_or l a 0 ≡ 0
beyond [] a h = refl
beyond (x ∷ l) zero h = absurd (not-suc-le-zero h)
beyond (x ∷ l) (suc a) h = beyond l a (omega arith)

-- ---- so the map is enough to go by

-- A run over an image i from a map z leaves the map k; another image j has the same bytes wherever k has a mark.
module _ (n : ℕ) (s : State) (z k j : List ℕ) (h : length z ≡ length s.mem.image) (m : k ≡ map_left n z s) (l : length j ≡ length s.mem.image)
    (e : (a : ℕ) → get_or k a 0 ≡ 1 → get_or s.mem.image a 0 ≡ get_or j a 0) where
  marked_all : (a : ℕ) → a < length z → among a (run_reads n s) ≡ true → get_or k a 0 ≡ 1
  unfolding map_left
  marked_all a t r = rw (m, eq-eqb (length z) (length s.mem.image) h) (read_marked (run_reads n s) z a t r)

  agree : AgreeAt (run_reads n s) s.mem.image j
  agree a r = go (ltb a (length z)) refl
    where
      go : (c : Bool) → ltb a (length z) ≡ c → get_or s.mem.image a 0 ≡ get_or j a 0
      go true t = e a (marked_all a (ltb-true a (length z) t) r)
      go false t =
          let far : length z ≤ a = ltb-false a (length z) t in
          beyond s.mem.image a (omega arith) ∙ sym (beyond j a (omega arith))

  is_run : mapped_run n z s ≡ run n s
  unfolding mapped_run
  is_run = rw (eq-eqb (length z) (length s.mem.image) h)

  -- `run_mapped`, and `run` over the other
  pub mapped_graded : {x y : Returned numbers.Report} → Tells reported (mapped_run n z) s x → Tells reported (run n) (with_image j s) y
      → Graded (run_reads n s) s.mem.image j (reported x) (reported y)
  mapped_graded f g = run_graded n s j l agree (record { is = f.is ∙ is_run }) g

  -- `argolythe_run_mapped`, and `argolythe_run` over the other
  pub mapped_graded_heard : (ring w : ℕ) {x y : Returned Numbers} → Tells (heard ring w) (mapped_run n z) s x → Tells (heard ring w) (run n) (with_image j s) y
      → Graded (run_reads n s) s.mem.image j (reported (as_report ring w x)) (reported (as_report ring w y))
  mapped_graded_heard ring w f g = run_graded_heard n s j l agree ring w (record { is = f.is ∙ is_run }) g
