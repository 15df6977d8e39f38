-- A text in lines: the first one by where its line feed is, or by what follows a text that has none; and what is told of it.
-- Assumes nothing.
use Rattle.std.proofs.Common.{◌≡◌, refl, ap, ◌∙◌, sym, Bool, true, false, true≢false, cond, List, [], ◌∷◌, ◌++◌, ℕ, suc, ◌+◌, ◌-◌, ◌≤◌, ◌<◌, arith, eqb, length, take, drop, length-append, length-drop, drop_of_length-le, take_all, drop-drop, le-leb, append-nil}
use Rattle.std.proofs.Math.Seq.{take-length}
use Rattle.std.proofs.lemmas.Bool.{lt-leb}
use Rattle.desk.specs.Bytes.{index_after, index_of, slice}
use Rattle.rules.specs.Machine.{State}
use Rattle.lines.specs.Lines.{bad, line_of}
use Rattle.desk.specs.Desk.{line_feed, onto, cut, longest, heard, told}
use Rattle.desk.specs.Meaning.{Waits, Heads}

-- ---- the first line

-- a character that is a line feed, or none
fed : (b : Bool) (c : ℕ) (cs rest : List ℕ) → (index_of line_feed cs < length cs
    → cut (cs ++ rest) ≡ take (index_of line_feed cs) cs ∷ cut (drop (suc (index_of line_feed cs)) cs ++ rest))
    → index_after b (index_of line_feed cs) < suc (length cs)
    → cond b ([] ∷ cut (cs ++ rest)) (onto c (cut (cs ++ rest)))
    ≡ take (index_after b (index_of line_feed cs)) (c ∷ cs) ∷ cut (drop (suc (index_after b (index_of line_feed cs))) (c ∷ cs) ++ rest)
unfolding index_after
fed true c cs rest e h = refl
fed false c cs rest e h = ap (onto c) (e (omega arith))

pub first_cut : (t rest : List ℕ) → index_of line_feed t < length t
    → cut (t ++ rest) ≡ take (index_of line_feed t) t ∷ cut (drop (suc (index_of line_feed t)) t ++ rest)
unfolding cut index_of
first_cut [] rest h = absurd (omega arith)
first_cut (c ∷ cs) rest h = fed (eqb c line_feed) c cs rest (first_cut cs rest) h

-- a text put before the first of some lines
joined : List ℕ → List (List ℕ) → List (List ℕ)
joined t [] = t ∷ []
joined t (l ∷ ls) = (t ++ l) ∷ ls

joined_one : (c : ℕ) (ls : List (List ℕ)) → onto c ls ≡ joined (c ∷ []) ls
unfolding joined
joined_one c [] = refl
joined_one c (l ∷ ls) = refl

joined_more : (c : ℕ) (t : List ℕ) (ls : List (List ℕ)) → onto c (joined t ls) ≡ joined (c ∷ t) ls
unfolding joined
joined_more c t [] = refl
joined_more c t (l ∷ ls) = refl

unfed : (b : Bool) (n m : ℕ) (x y z : List (List ℕ)) → index_after b n ≡ suc m → (n ≡ m → y ≡ z) → cond b x y ≡ z
unfolding index_after
unfed true n m x y z h e = absurd (omega arith)
unfed false n m x y z h e = e (omega arith)

cut_on : (c : ℕ) (t rest : List ℕ) → index_of line_feed (c ∷ t) ≡ suc (length t) → cut ((c ∷ t) ++ rest) ≡ joined (c ∷ t) (cut rest)
unfolding cut index_of
cut_on c [] rest h = unfed (eqb c line_feed) _ _ _ _ _ h (λ _. joined_one c (cut rest))
cut_on c (d ∷ t) rest h = unfed (eqb c line_feed) _ _ _ _ _ h (λ e. ap (onto c) (cut_on d t rest e) ∙ joined_more c (d ∷ t) (cut rest))

-- a text without a line feed goes on in the first line of what follows
part_cut : (t rest : List ℕ) → index_of line_feed t ≡ length t → 0 < length t → cut (t ++ rest) ≡ joined t (cut rest)
part_cut [] rest h l = absurd (omega arith)
part_cut (c ∷ t) rest h l = cut_on c t rest h

-- the last one, where nothing follows
pub last_cut : (t : List ℕ) → index_of line_feed t ≡ length t → 0 < length t → cut t ≡ t ∷ []
unfolding joined cut
last_cut t h l = ap cut (sym (append-nil t)) ∙ part_cut t [] h l

-- ---- what is told of it

pub heard_long : (l : List ℕ) → longest < length l → heard l ≡ bad
unfolding heard
heard_long l h = rw (lt-leb (length l) longest h)

pub heard_short : (l : List ℕ) → length l ≤ longest → heard l ≡ line_of l
unfolding heard
heard_short l h = rw (le-leb (length l) longest h)

-- after a line that says nothing, nothing is told
both_bad : (k : ℕ) (l m : List ℕ) (ls ms : List (List ℕ)) (s : State) → heard l ≡ bad → heard m ≡ bad → told k (l ∷ ls) s ≡ told k (m ∷ ms) s
unfolding told
both_bad k l m ls ms s e f = rw (e, f)

long_told : (k : ℕ) (t : List ℕ) (ls ms : List (List ℕ)) (s : State) → longest < length t → told k (joined t ls) s ≡ told k (t ∷ ms) s
unfolding joined
long_told k t [] ms s h = both_bad k t t [] ms s (heard_long t h) (heard_long t h)
long_told k t (l ∷ ls) ms s h = both_bad k (t ++ l) t ls ms s (heard_long (t ++ l) (omega (arith, length-append t l))) (heard_long t h)

-- ---- as it is found in a text

pub never : {A : Type 0} {b : Bool} → b ≡ true → b ≡ false → A
never t f = absurd (true≢false (sym t ∙ f))

rest_of : (text : List ℕ) (at : ℕ) → slice at (length text) text ≡ drop at text
unfolding slice
rest_of text at = rw (take-length text)

module _ (text : List ℕ) (at end : ℕ) (found : end ≡ at + index_of line_feed (slice at (length text) text)) (h : at ≤ length text) where
  index : end - at ≡ index_of line_feed (drop at text)
  index = omega (arith, found, ap (index_of line_feed) (rest_of text at))

  pub head_fed : (ended : Bool) → end < length text → Heads ended text at end (end + 1)
  head_fed ended l =
      let feed : index_of line_feed (drop at text) < length (drop at text) = omega (arith, index, length-drop at text) in
      let next : at + suc (index_of line_feed (drop at text)) ≡ end + 1 = omega (arith, index) in
      record {
        ends = omega (arith, found);
        within = omega arith;
        moves = omega (arith, found);
        reaches = omega arith;
        same = λ k s rest _. rw (first_cut (drop at text) rest feed, drop-drop _ at text, next, index);
      }

  module _ (l : length text ≤ end) (m : end ≤ length text) where
    none_fed : index_of line_feed (drop at text) ≡ length (drop at text)
    none_fed = omega (arith, index, length-drop at text)

    all_of : take (end - at) (drop at text) ≡ drop at text
    all_of = take_all (end - at) (drop at text) (omega (arith, length-drop at text))

    pub head_long : (ended : Bool) → longest < end - at → Heads ended text at end end
    head_long ended g =
        let some : 0 < length (drop at text) = omega (arith, length-drop at text) in
        let long : longest < length (drop at text) = omega (arith, length-drop at text) in
        record {
          ends = omega arith;
          within = m;
          moves = omega arith;
          reaches = m;
          same = λ k s rest _. rw (part_cut (drop at text) rest none_fed some, all_of) (long_told k (drop at text) (cut rest) (cut (drop end text ++ rest)) s long);
        }

    pub head_last : (ended : Bool) → ended ≡ true → (end - at ≡ 0 → ⊥) → Heads ended text at end end
    unfolding joined cut
    head_last ended t g =
        let some : 0 < length (drop at text) = omega (arith, length-drop at text) in
        rw t (record {
          ends = omega arith;
          within = m;
          moves = omega arith;
          reaches = m;
          same = λ k s rest e. rw (e, part_cut (drop at text) [] none_fed some, all_of, drop_of_length-le text l);
        })

    pub waits : (ended : Bool) → end - at ≤ longest → (ended ≡ true → end - at ≡ 0) → Waits ended (drop at text)
    waits ended g n =
        record { unfed = none_fed; short = omega (arith, length-drop at text); none = λ e. drop_of_length-le text {i = at} (omega (arith, n e)) }
