-- The first line of a text, and what is left after it.
-- Assumes nothing.
use Rattle.std.proofs.Common.{◌≡◌, refl, sym, ap, ◌∙◌, subst, Bool, true, false, true≢false, cond, ◌&&◌, Option, Some, None, MatchOption}
use Rattle.std.proofs.Common.{unwrap_or, List, [], ◌∷◌, ℕ, zero, suc, ◌+◌, ◌-◌, ◌≤◌, ◌<◌, eqb, ltb, length, get_or, take, drop, add-one}
use Rattle.std.proofs.Common.{length-take, length-drop, arith, not-suc-le-zero, take-take, take_all, drop_of_length-le, eq-eqb, ne_eqb}
use Rattle.std.proofs.Common.{eqb-true, ltb-true, ltb-false}
use Rattle.std.specs.Cmp.Lexicographic.{pointwise}
use borrow.Author.Tests.{eqb-false}
use Rattle.std.specs.Borrow.{Bor}
use Rattle.std.proofs.lemmas.Option.{none-some, same_Some}
use Rattle.std.specs.List.{position_or_len}
use Rattle.std.proofs.lemmas.List.Recursion.{is_position_or_len}
use Rattle.lines.specs.Digits.{before}
use Rattle.intelhex.specs.Lines.{lf, cr, feeds, onto, lines_of}
use Rattle.intelhex.specs.Meaning.{stop_of, Cuts}

-- ---- up to the line feed

before_place : (b : Bool) (n : ℕ) → cond b 0 (suc n) ≡ cond b 0 (1 + n)
before_place true n = refl
before_place false n = omega arith

-- what `position` finds
pub feed_place : (s : List ℕ) → before lf s ≡ position_or_len (eqb lf) s
unfolding before
feed_place s = is_position_or_len (before lf) (eqb lf) refl (λ c cs. before_place (eqb lf c) (before lf cs)) s

-- ---- a line that ends with a line feed

abbrev Cut : List ℕ → ℕ → Type 0
Cut s n = lines_of s ≡ take (stop_of s n) s ∷ lines_of (drop (suc n) s)

bare : (b : Bool) → cond b false false ≡ false
bare true = refl
bare false = refl

-- a character more, by whether a CR stands before the feed
longer : (b : Bool) (c m : ℕ) (cs : List ℕ) (rest : List (List ℕ))
    → onto c (take (cond b m (suc m)) cs ∷ rest) ≡ take (cond b (suc m) (suc (suc m))) (c ∷ cs) ∷ rest
unfolding onto
longer true c m cs rest = refl
longer false c m cs rest = refl

-- the feed is next
returned : (b : Bool) (c d : ℕ) (ds : List ℕ) → eqb lf d ≡ true → eqb cr c ≡ b
    → cond (cond b (feeds (d ∷ ds)) false) (lines_of (d ∷ ds)) (onto c (lines_of (d ∷ ds))) ≡ take (cond b 0 1) (c ∷ d ∷ ds) ∷ lines_of ds
unfolding lines_of feeds onto
returned true c d ds e r = rw e
returned false c d ds e r = rw e

no_feed : (d : ℕ) (ds : List ℕ) → eqb lf d ≡ false → feeds (d ∷ ds) ≡ false
unfolding feeds
no_feed d ds e = e

passed : (c : ℕ) (cs : List ℕ) → feeds cs ≡ false → eqb lf c ≡ false → lines_of (c ∷ cs) ≡ onto c (lines_of cs)
unfolding lines_of
passed c cs e f = rw (f, e, bare (eqb cr c))

later_on : (c d : ℕ) (ds : List ℕ) → eqb lf d ≡ false → eqb lf c ≡ false → lines_of (c ∷ d ∷ ds) ≡ onto c (lines_of (d ∷ ds))
later_on c d ds e f = passed c (d ∷ ds) (no_feed d ds e) f

step_over : (c d : ℕ) (ds : List ℕ) → eqb lf d ≡ false
    → onto c (take (stop_of (d ∷ ds) (before lf (d ∷ ds))) (d ∷ ds) ∷ lines_of (drop (suc (before lf (d ∷ ds))) (d ∷ ds)))
    ≡ take (stop_of (c ∷ d ∷ ds) (suc (before lf (d ∷ ds)))) (c ∷ d ∷ ds) ∷ lines_of (drop (suc (suc (before lf (d ∷ ds)))) (c ∷ d ∷ ds))
unfolding before stop_of
step_over c d ds e = rw e (longer (eqb cr (get_or (d ∷ ds) (before lf ds) 0)) c (before lf ds) (d ∷ ds) (lines_of (drop (suc (before lf ds)) ds)))

opened : (c : ℕ) (cs : List ℕ) → eqb lf c ≡ false → lines_of (c ∷ cs) ≡ cond (cond (eqb cr c) (feeds cs) false) (lines_of cs) (onto c (lines_of cs))
unfolding lines_of
opened c cs f = rw f

here : (c : ℕ) (cs : List ℕ) → eqb lf c ≡ true → before lf (c ∷ cs) ≡ 0
unfolding before
here c cs e = rw e

stopped : (c d : ℕ) (ds : List ℕ) (n : ℕ) → n ≡ 0
    → take (cond (eqb cr c) 0 1) (c ∷ d ∷ ds) ∷ lines_of ds ≡ take (stop_of (c ∷ d ∷ ds) (suc n)) (c ∷ d ∷ ds) ∷ lines_of (drop (suc (suc n)) (c ∷ d ∷ ds))
unfolding stop_of
stopped c d ds n e = rw e

at_once : (c d : ℕ) (ds : List ℕ) → eqb lf d ≡ true → eqb lf c ≡ false → Cut (c ∷ d ∷ ds) (suc (before lf (d ∷ ds)))
at_once c d ds e f = opened c (d ∷ ds) f ∙ returned (eqb cr c) c d ds e refl ∙ stopped c d ds (before lf (d ∷ ds)) (here d ds e)

farther : (c d : ℕ) (ds : List ℕ) → eqb lf d ≡ false → eqb lf c ≡ false → Cut (d ∷ ds) (before lf (d ∷ ds)) → Cut (c ∷ d ∷ ds) (suc (before lf (d ∷ ds)))
farther c d ds e f ih = later_on c d ds e f ∙ ap (onto c) ih ∙ step_over c d ds e

none_there : (c : ℕ) → eqb lf c ≡ false → before lf (c ∷ []) ≡ 1
unfolding before
none_there c e = rw e

one_more : (c : ℕ) (cs : List ℕ) → eqb lf c ≡ false → before lf (c ∷ cs) ≡ suc (before lf cs)
unfolding before
one_more c cs e = rw e

alone : (c : ℕ) → eqb lf c ≡ false → lines_of (c ∷ []) ≡ (c ∷ []) ∷ []
unfolding lines_of feeds onto
alone c e = rw (e, bare (eqb cr c))

unfed : (c d : ℕ) (ds : List ℕ) → eqb lf c ≡ false → eqb lf d ≡ false → lines_of (d ∷ ds) ≡ (d ∷ ds) ∷ [] → lines_of (c ∷ d ∷ ds) ≡ (c ∷ d ∷ ds) ∷ []
unfolding onto
unfed c d ds e f ih = later_on c d ds f e ∙ ap (onto c) ih

not_here : (b : Bool) (d : ℕ) (ds : List ℕ) → eqb lf d ≡ b → before lf (d ∷ ds) ≡ length (d ∷ ds) → eqb lf d ≡ false
not_here true d ds e h = absurd (omega (arith, here d ds e, h))
not_here false d ds e h = e

second : (b : Bool) (c d : ℕ) (ds : List ℕ) → eqb lf d ≡ b → eqb lf c ≡ false → Cut (d ∷ ds) (before lf (d ∷ ds))
    → Cut (c ∷ d ∷ ds) (suc (before lf (d ∷ ds)))
second true c d ds e f ih = at_once c d ds e f
second false c d ds e f ih = farther c d ds e f ih

first : (b : Bool) (c : ℕ) (cs : List ℕ) → eqb lf c ≡ b → before lf (c ∷ cs) < length (c ∷ cs) → (before lf cs < length cs → Cut cs (before lf cs))
    → Cut (c ∷ cs) (before lf (c ∷ cs))
unfolding before lines_of stop_of
first true c cs e h ih = rw e
first false c [] e h ih = absurd (omega (arith, none_there c e, h))
first false c (d ∷ ds) e h ih =
    subst (λ (n : ℕ). Cut (c ∷ d ∷ ds) n) (sym (one_more c (d ∷ ds) e)) (second (eqb lf d) c d ds refl e (ih (omega (arith, one_more c (d ∷ ds) e, h))))

-- a text that has a line feed
pub cut : (s : List ℕ) → before lf s < length s → Cut s (before lf s)
cut [] h = absurd (not-suc-le-zero h)
cut (c ∷ cs) h = first (eqb lf c) c cs refl h (λ g. cut cs g)

-- ---- the last line, without one

unended : (b : Bool) (c : ℕ) (cs : List ℕ) → eqb lf c ≡ b → before lf (c ∷ cs) ≡ length (c ∷ cs)
    → (0 < length cs → before lf cs ≡ length cs → lines_of cs ≡ cs ∷ []) → lines_of (c ∷ cs) ≡ (c ∷ cs) ∷ []
unended true c cs e h ih = absurd (omega (arith, here c cs e, h))
unended false c [] e h ih = alone c e
unended false c (d ∷ ds) e h ih =
    let full : before lf (d ∷ ds) ≡ length (d ∷ ds) = omega (arith, one_more c (d ∷ ds) e, h) in
    let more : eqb lf d ≡ false = not_here (eqb lf d) d ds refl full in
    unfed c d ds e more (ih (omega arith) full)

pub last : (s : List ℕ) → 0 < length s → before lf s ≡ length s → lines_of s ≡ s ∷ []
last [] l h = absurd (not-suc-le-zero l)
last (c ∷ cs) l h = unended (eqb lf c) c cs refl h (λ g k. last cs g k)

nearer : (b : Bool) (m n : ℕ) → m ≤ n → cond b 0 (suc m) ≤ suc n
nearer true m n h = omega arith
nearer false m n h = omega arith

-- no feed stands past the end
pub before_within : (s : List ℕ) → before lf s ≤ length s
unfolding before
before_within [] = omega arith
before_within (c ∷ cs) = nearer (eqb lf c) (before lf cs) (length cs) (before_within cs)

-- ---- the first line, by the code

-- no line feed: `position` finds none
pub cuts_last : (text : List ℕ) → 0 < length text → length text ≤ position_or_len (eqb lf) text → Cuts text text []
unfolding lines_of
cuts_last text h l =
    let all : before lf text ≡ length text = omega (arith, feed_place text, before_within text) in
    record {
      lines = last text h all;
      start = take_all (length text) text (omega arith);
      end = drop_of_length-le text (omega arith);
      apart = omega arith;
      on = h;
    }

last_char : (m : ℕ) (s : List ℕ) → m < length s → drop m (take (suc m) s) ≡ get_or s m 0 ∷ []
last_char m [] h = absurd (omega arith)
last_char zero (c ∷ cs) h = refl
last_char (suc m) (c ∷ cs) h = last_char m cs (omega arith)

pub alike : (b : Bool) → (b && true) ≡ b
alike true = refl
alike false = refl

-- what `strip_suffix` tests: whether the last of n characters is a CR
ends_cr : (m : ℕ) (s : List ℕ) → m < length s → pointwise eqb (drop (length (take (suc m) s) - 1) (take (suc m) s)) (cr ∷ []) ≡ eqb (get_or s m 0) cr
ends_cr m s h =
    let long : length (take (suc m) s) - 1 ≡ m = omega (arith, length-take (suc m) s) in
    rw (long, last_char m s h) (alike (eqb (get_or s m 0) cr))

pub stop_plain : (n : ℕ) (s : List ℕ) → n ≤ length s → pointwise eqb (drop (length (take n s) - 1) (take n s)) (cr ∷ []) ≡ false → stop_of s n ≡ n
unfolding stop_of
stop_plain zero s h e = refl
stop_plain (suc m) s h e =
    let other : cr ≡ get_or s m 0 → ⊥ = λ q. eqb-false (get_or s m 0) cr (sym (ends_cr m s (omega arith)) ∙ e) (sym q) in
    rw (ne_eqb cr (get_or s m 0) other)

pub stop_cr : (n : ℕ) (s : List ℕ) → n ≤ length s → pointwise eqb (drop (length (take n s) - 1) (take n s)) (cr ∷ []) ≡ true → stop_of s n ≡ n - 1
unfolding stop_of
stop_cr zero s h e = absurd (true≢false (sym e))
stop_cr (suc m) s h e =
    let same : cr ≡ get_or s m 0 = sym (eqb-true (get_or s m 0) cr (sym (ends_cr m s (omega arith)) ∙ e)) in
    rw (eq-eqb cr (get_or s m 0) same) (omega arith)

shorter : (b : Bool) (m : ℕ) → cond b m (suc m) ≤ suc m
shorter true m = omega arith
shorter false m = omega arith

-- no line goes past its feed
stop_most : (n : ℕ) (s : List ℕ) → stop_of s n ≤ n
unfolding stop_of
stop_most zero s = omega arith
stop_most (suc m) s = shorter (eqb cr (get_or s m 0)) m

-- the line without a CR at its end, or as it is
pub stripped : (text : List ℕ) (n : ℕ) (r : Option (Bor (List ℕ))) (d : Bor (List ℕ)) → n ≤ length text → d.now ≡ take n text
    → MatchOption r (pointwise eqb (drop (length (take n text) - 1) (take n text)) (cr ∷ []) ≡ false)
    (λ x. (pointwise eqb (drop (length (take n text) - 1) (take n text)) (cr ∷ []) ≡ true) × (x.now ≡ take (length (take n text) - 1) (take n text))
    × (length x.now + 1 ≡ length (take n text)))
    → (unwrap_or r d).now ≡ take (stop_of text n) text
stripped text n None d h e m = rw (stop_plain n text h m) e
stripped text n (Some x) d h e m =
    let long : length (take n text) - 1 ≡ n - 1 = omega (arith, length-take n text) in
    rw (stop_cr n text h m.0) (m.1 ∙ rw long (take-take (n - 1) n text (omega arith)))

-- what `position` answered
pub found_none : (b : Bool) (p n : ℕ) → ltb p n ≡ b → None ≡ cond b (Some p) None → n ≤ p
found_none true p n e h = absurd (none-some p h)
found_none false p n e h = ltb-false p n e

pub found_at : (b : Bool) (p n i : ℕ) → ltb p n ≡ b → Some i ≡ cond b (Some p) None → (i ≡ p) × (p < n)
found_at true p n i e h = (same_Some i p h, ltb-true p n e)
found_at false p n i e h = absurd (none-some i (sym h))

-- a line that ends with a line feed
module _ (text : List ℕ) (n : ℕ) (e : n ≡ position_or_len (eqb lf) text) (h : n < length text) where
  pub cuts_fed : (line : List ℕ) → line ≡ take (stop_of text n) text → Cuts text line (drop (n + 1) text)
  cuts_fed line q =
      let far : before lf text ≡ n = feed_place text ∙ sym e in
      let first : lines_of text ≡ take (stop_of text n) text ∷ lines_of (drop (suc n) text) = subst (λ (k : ℕ). Cut text k) far (cut text (omega (arith, far))) in
      let upto : length line ≡ stop_of text n = ap length q ∙ omega (arith, length-take (stop_of text n) text, stop_most n text) in
      let past : length text - length (drop (n + 1) text) ≡ n + 1 = omega (arith, length-drop (n + 1) text) in
      record {
        lines = rw (add-one, q) first;
        start = rw upto (sym q);
        end = rw past;
        apart = omega (arith, length-drop (n + 1) text, upto, stop_most n text);
        on = omega (arith, length-drop (n + 1) text);
      }
