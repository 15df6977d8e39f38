-- 12 goes by step-back's rule: the words are whole exactly if a step-back finds a record from the used count, and from each lower one. By the word at the top.
use Rattle.std.proofs.Common.{◌≡◌, refl, ◌∙◌, ap, sym, subst, Bool, true, false, List, [], ◌∷◌, ℕ, zero, suc, ◌/◌, ◌%◌, ◌^◌, ◌≤◌, ◌<◌, arith, length, get_or, take, get_or-take, length-take-le, eqb-true}
use Rattle.rules.specs.Machine.{pick, Area}
use Rattle.rules.specs.Journal.{Note, stood, mark, nothing, note_of, note, sound, marks}
use Rattle.rules.specs.Calls.{Find, found, lost, further, passed, seen, scan}
use Rattle.rules.proofs.Tests.{false_true, both, together}
use Rattle.culprit.specs.Culprit.{all_sound, marked, whole}

abbrev pub Found : Find → Type 0
Found (found n pc) = Unit {0}
Found lost = ⊥

further_found : (f : Find) → Found f → Found (further f)
further_found (found n pc) h = tt
further_found lost h = h

-- ---- one word

module _ (z : Area) where
  -- a sound word on a record, and a mark on anything, is found
  seen_more : (x : Note) (f : Find) → sound z x ≡ true → Found f → Found (seen z x f)
  seen_more (stood k a b) f e h = rw e (further_found f h)
  seen_more (mark pc) f e h = rw e tt
  seen_more nothing f e h = absurd (false_true e)

  seen_mark : (x : Note) (f : Find) (low : ℕ) → sound z x ≡ true → x ≡ mark low → Found (seen z x f)
  seen_mark x f low e q = rw e (subst (λ (y : Note). Found (passed y f)) (sym q) tt)

  -- what is found is sound; and on nothing only a mark is
  seen_sound : (x : Note) (f : Find) → Found (seen z x f) → sound z x ≡ true
  seen_sound x f = go (sound z x)
    where
      go : (c : Bool) → Found (pick c (passed x f) lost) → c ≡ true
      go true h = refl
      go false h = absurd h

  passed_none : (n low : ℕ) → Found (passed (note_of n low) lost) → n ≡ 3
  passed_none zero low h = absurd h
  passed_none (suc zero) low h = absurd h
  passed_none (suc (suc zero)) low h = absurd h
  passed_none (suc (suc (suc zero))) low h = refl
  passed_none (suc (suc (suc (suc zero)))) low h = absurd h
  passed_none (suc (suc (suc (suc (suc n))))) low h = absurd h

  seen_first : (w : ℕ) → Found (seen z (note w) lost) → marks w ≡ true
  unfolding marks note
  seen_first w h =
      let e : sound z (note w) ≡ true = seen_sound (note w) lost h in
      let q : w / 2 ^ 29 ≡ 3 = passed_none (w / 2 ^ 29) (w % 2 ^ 29) (rw e at h) in
      rw q

  -- ---- all of them

  sound_at : (ws : List ℕ) (i : ℕ) → i < length ws → all_sound z ws ≡ true → sound z (note (get_or ws i 0)) ≡ true
  unfolding all_sound
  sound_at [] i l h = absurd (omega arith)
  sound_at (w ∷ ws) zero l h = (both h).0
  sound_at (w ∷ ws) (suc i) l h = sound_at ws i (omega arith) (both h).1

  all_sound_lem : (ws : List ℕ) → ((i : ℕ) → i < length ws → sound z (note (get_or ws i 0)) ≡ true) → all_sound z ws ≡ true
  unfolding all_sound
  all_sound_lem [] h = refl
  all_sound_lem (w ∷ ws) h = together (h 0 (omega arith)) (all_sound_lem ws (λ i l. h (suc i) (omega arith)))

  -- the first of some words is a mark
  first_marked : (u : ℕ) (j : List ℕ) → 0 < u → 0 < length j → marked (take u j) ≡ true → marks (get_or j 0 0) ≡ true
  unfolding marked
  first_marked zero j k l h = absurd (omega arith)
  first_marked (suc u) [] k l h = absurd (omega arith)
  first_marked (suc u) (x ∷ j) k l h = h

  marked_first : (u : ℕ) (j : List ℕ) → (0 < u → marks (get_or j 0 0) ≡ true) → marked (take u j) ≡ true
  unfolding marked
  marked_first zero j h = refl
  marked_first (suc u) [] h = refl
  marked_first (suc u) (x ∷ j) h = h (omega arith)

  noted : (w : ℕ) → marks w ≡ true → note w ≡ mark (w % 2 ^ 29)
  unfolding marks note
  noted w h = ap (λ (n : ℕ). note_of n (w % 2 ^ 29)) (eqb-true (w / 2 ^ 29) 3 h)

  module _ (u : ℕ) (j : List ℕ) (l : u ≤ length j) where
    fine : whole z (take u j) ≡ true → (v : ℕ) → v < u → sound z (note (get_or j v 0)) ≡ true
    unfolding whole
    fine h v k =
        ap (λ (w : ℕ). sound z (note w)) (sym (get_or-take u j v 0 k)) ∙ sound_at (take u j) v (omega (arith, length-take-le u j l)) (both h).0

    pub whole_found : whole z (take u j) ≡ true → (v : ℕ) → v < u → Found (scan z (suc v) j)
    unfolding whole scan
    whole_found h zero k =
        let first : marks (get_or j 0 0) ≡ true = first_marked u j k (omega arith) (both h).1 in
        seen_mark (note (get_or j 0 0)) lost (get_or j 0 0 % 2 ^ 29) (fine h 0 k) (noted (get_or j 0 0) first)
    whole_found h (suc v) k = seen_more (note (get_or j (suc v) 0)) (scan z (suc v) j) (fine h (suc v) k) (whole_found h v (omega arith))

    pub found_whole : ((v : ℕ) → v < u → Found (scan z (suc v) j)) → whole z (take u j) ≡ true
    unfolding whole scan
    found_whole h =
        together (all_sound_lem (take u j) each) (marked_first u j (λ k. seen_first (get_or j 0 0) (h 0 k)))
      where
        each : (i : ℕ) → i < length (take u j) → sound z (note (get_or (take u j) i 0)) ≡ true
        each i k =
            let below : i < u = omega (arith, length-take-le u j l) in
            ap (λ (w : ℕ). sound z (note w)) (get_or-take u j i 0 below) ∙ seen_sound (note (get_or j i 0)) (scan z i j) (h i below)
