-- The trail in the code's words: a law for each way that a word is told, then for one word more of the list, and for how the loop ends.
use Rattle.std.proofs.Common.{◌≡◌, refl, ◌∙◌, ap, sym, Bool, true, false, List, [], ◌∷◌, ◌++◌, ℕ, zero, suc, ◌+◌, ◌≤◌, ◌<◌, not-suc-le-zero, add-one, arith, length, get_or, take, take-suc, get_or-take, length-take-le}
use Rattle.rules.specs.Machine.{pick, ◌also◌, Kind, Area, Mem}
use Rattle.rules.specs.Answers.{answer_for, wrong_length, no_record}
use Rattle.rules.specs.Journal.{note, sound, marks}
use Rattle.rules.specs.Calls.{fits}
use Rattle.rules.proofs.Tests.{both, together}
use Rattle.culprit.specs.Culprit.{nobody, Trail, trail, told, follow, all_sound, marked, whole}
use Rattle.culprit.specs.Culprit.{Wrote, refusal, named, answered, fit_who, who_wrote}

-- ---- the words as a list

pub follow_append : (k : Kind) (a : ℕ) (xs ys : List ℕ) (t : Trail) → follow k a (xs ++ ys) t ≡ follow k a ys (follow k a xs t)
unfolding follow
follow_append k a [] ys t = refl
follow_append k a (x ∷ xs) ys t = follow_append k a xs ys (told k a (note x) t)

pub sound_append : (z : Area) (xs ys : List ℕ) → all_sound z xs ≡ true → all_sound z ys ≡ true → all_sound z (xs ++ ys) ≡ true
unfolding all_sound
sound_append z [] ys h k = k
sound_append z (x ∷ xs) ys h k = together (both h).0 (sound_append z xs ys (both h).1 k)

-- one word that is not sound is enough
unsound_at : (z : Area) (ws : List ℕ) (u : ℕ) → u < length ws → sound z (note (get_or ws u 0)) ≡ false → all_sound z ws ≡ false
unfolding all_sound ◌also◌
unsound_at z [] u l h = absurd (not-suc-le-zero l)
unsound_at z (w ∷ ws) zero l h = rw h
unsound_at z (w ∷ ws) (suc u) l h = rw (unsound_at z ws u (omega arith) h) (go (sound z (note w)))
  where
    go : (c : Bool) → (c also false) ≡ false
    go true = refl
    go false = refl

-- ---- the oldest word

pub marked_none : (u : ℕ) (j : List ℕ) → u ≡ 0 → true ≡ marked (take u j)
unfolding marked
marked_none u j e = rw e

pub marked_oldest : (u w : ℕ) (j : List ℕ) → (u ≡ 0 → ⊥) → u ≤ length j → w ≡ get_or j 0 0 → marks w ≡ marked (take u j)
unfolding marked
marked_oldest zero w j h l e = absurd (h refl)
marked_oldest (suc u) w [] h l e = absurd (not-suc-le-zero l)
marked_oldest (suc u) w (x ∷ j) h l e = ap marks e

-- ---- the loop

module _ (u n w : ℕ) (j : List ℕ) (h : u < n) (l : n ≤ length j) (e : w ≡ get_or j u 0) where
  more : take (u + 1) j ≡ take u j ++ w ∷ []
  more = ap (λ (n : ℕ). take n j) (add-one u) ∙ take-suc j u 0 (omega arith) ∙ ap (λ (x : ℕ). take u j ++ x ∷ []) (sym e)

  pub follow_more : (k : Kind) (a : ℕ) {r t : Trail} → t ≡ follow k a (take u j) (trail 0 nobody) → r ≡ told k a (note w) t → r ≡ follow k a (take (u + 1) j) (trail 0 nobody)
  unfolding follow
  follow_more k a f q = rw more (q ∙ ap (told k a (note w)) f ∙ sym (follow_append k a (take u j) (w ∷ []) (trail 0 nobody)))

  pub sound_more : (z : Area) → all_sound z (take u j) ≡ true → sound z (note w) ≡ true → all_sound z (take (u + 1) j) ≡ true
  unfolding all_sound
  sound_more z f q = rw more (sound_append z (take u j) (w ∷ []) f (together q refl))

module _ (z : Area) (k : Kind) (a left : ℕ) where
  pub told_unmarked : (ws : List ℕ) (c : Bool) → c ≡ marked ws → c ≡ false → refusal (answer_for no_record) ≡ answered z k a left ws
  unfolding answered whole ◌also◌
  told_unmarked ws c e f = rw (sym e ∙ f) (go (all_sound z ws))
    where
      go : (b : Bool) → refusal (answer_for no_record) ≡ pick (b also false) (named left (follow k a ws (trail 0 nobody)).by) (refusal (answer_for no_record))
      go true = refl
      go false = refl

  pub told_unsound : (u n w : ℕ) (j : List ℕ) (c : Bool) → u < n → n ≤ length j → w ≡ get_or j u 0 → c ≡ sound z (note w) → c ≡ false
      → refusal (answer_for no_record) ≡ answered z k a left (take n j)
  unfolding answered whole ◌also◌
  told_unsound u n w j c h l e f g =
      let bad : sound z (note (get_or (take n j) u 0)) ≡ false = ap (λ (x : ℕ). sound z (note x)) (get_or-take n j u 0 h ∙ sym e) ∙ sym f ∙ g in
      rw (unsound_at z (take n j) u (omega (arith, length-take-le n j l)) bad)

  pub told_whole : (u n : ℕ) (j : List ℕ) (c : Bool) (t : Trail) {x : Wrote} → n ≤ u → u ≤ n → c ≡ marked (take n j) → c ≡ true → all_sound z (take u j) ≡ true
      → t ≡ follow k a (take u j) (trail 0 nobody) → x ≡ named left t.by → x ≡ answered z k a left (take n j)
  unfolding answered whole ◌also◌
  told_whole u n j c t l r f g h i q =
      let e : u ≡ n = omega arith in
      let s : all_sound z (take n j) ≡ true = ap (λ (v : ℕ). all_sound z (take v j)) (sym e) ∙ h in
      let m : marked (take n j) ≡ true = sym f ∙ g in
      let y : t ≡ follow k a (take n j) (trail 0 nobody) = i ∙ ap (λ (v : ℕ). follow k a (take v j) (trail 0 nobody)) e in
      rw (s, m) (q ∙ ap (λ (v : Trail). named left v.by) y)

-- ---- test 11

module _ (k : Kind) (a : ℕ) (m : Mem) where
  pub who_fit : fits m ≡ true → who_wrote k a m ≡ fit_who k a m
  unfolding who_wrote
  who_fit e = rw e

  pub who_unfit : fits m ≡ false → who_wrote k a m ≡ refusal (answer_for wrong_length)
  unfolding who_wrote
  who_unfit e = rw e
