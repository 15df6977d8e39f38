-- Demands 1 and 2 of the rules' step: what it leaves where it is refused, and where it is accepted. By the cases of test 11 and of the attempt.
use mathlib.Core.Path.{◌≡◌, refl, ◌∙◌, ap, sym, subst}
use mathlib.Core.Bool.{true, false}
use mathlib.Core.List.{List, ◌∷◌, ◌++◌, map, append-nil}
use Prim.Native.Nat.{ℕ, suc, ◌+◌, ◌-◌, ◌≤◌}
use native.Mathlib.Omega.{arith}
use lib.ListN.{length, take, drop, replicate, length-append, take-append-drop}
use lib.Seq.{take-suc-set, append_snoc}
use Rattle.rules.specs.Machine.{Mem, State, state, address, over, at_rest}
use Rattle.rules.specs.Answers.{Answer, answer_for, wrong_length}
use Rattle.rules.specs.Journal.{mark_word, Store, word_of, blanked, used_words, place_on, forget}
use Rattle.rules.specs.Rules.{Out, got, stopped}
use Rattle.rules.specs.Sound.{Source}
use Rattle.rules.specs.Calls.{Way, fits, Reply, done, refused, attempt, taken, emptied, settle, fit_step, step, step_stores}
use Rattle.rules.specs.Demands.{Listed, Cause, unfit, stops, begun_words, dropped_words, Drops, enough, Demand1, Demand2}
use Rattle.rules.proofs.Stores.{used_after, older_after, place_after, ring_after, words_after}
use Rattle.rules.proofs.Forget.{take_forget, forget_none}
use Rattle.rules.proofs.Laid.{Late}
use Rattle.rules.proofs.Steps.{Tried, early, late, tried, emptied_late}
use Rattle.rules.proofs.Fits.{fits_used, step_cases}
use Rattle.rules.proofs.Named.{NamedReply, named_step}

-- one that was done began with a mark
pub tried_done : {a pc : ℕ} {v : Source} {m m₁ : Mem} {ss : List Store} → Tried a m ss (got v pc m₁) → Late a m ss m₁
tried_done (late h) = h

-- the used words, at most all there are
few_used : (u : ℕ) (j : List ℕ) → length (take u j) + 0 ≤ length j
few_used u j = omega (arith, ap length (take-append-drop u j), length-append (take u j) (drop u j))

-- what an attempt has spent where it ends with m: n words of its own, and d of older steps
pub record Spent (s : State) (m : Mem) (n d : ℕ) : Type 0 where
  pub own : taken m ≡ n
  pub older : m.older ≡ s.mem.used - d
  pub within : d ≤ s.mem.used
  pub drops : Drops s.mem.ring (length s.mem.journal) n (used_words s.mem) d
  pub place : m.place ≡ place_on d (length s.mem.journal) s.mem.place
  pub mode : m.ring ≡ s.mem.ring
  pub left : over (emptied m) s.mem ≡ blanked n (forget d (at_rest s.mem))

module _ (w : Way) (s : State) where
  spent_early : Spent s (at_rest s.mem) 0 0
  spent_early =
      let none : s.mem.used - s.mem.used ≡ 0 = omega arith in
      record {
        own = none;
        older = omega arith;
        within = omega arith;
        drops = enough (few_used s.mem.used s.mem.journal);
        place = refl;
        mode = refl;
        left = rw none (sym (forget_none (at_rest s.mem)));
      }

  spent_late : {ss : List Store} {m : Mem} (h : Late (address s) (at_rest s.mem) ss m) → Spent s m (suc (length ss)) h.dropped
  spent_late {ss} {m} h =
      let o : m.older ≡ s.mem.used - h.dropped = older_after h.makes in
      let n : s.mem.used - s.mem.used + suc (length ss) ≡ suc (length ss) = omega arith in
      record {
        own = omega (arith, used_after h.makes, o);
        older = o;
        within = h.within;
        drops = subst (λ (k : ℕ). Drops s.mem.ring (length s.mem.journal) k (used_words s.mem) h.dropped) n h.few;
        place = place_after h.makes;
        mode = ring_after h.makes;
        left = emptied_late refl h;
      }

  record Ended (m : Mem) : Type 0 where
    own : ℕ
    gone : ℕ
    is : Spent s m own gone

  spent_refused : {m₀ m : Mem} {ss : List Store} {a : Answer} → m₀ ≡ at_rest s.mem → Tried (address s) m₀ ss (stopped a m) → Ended m
  spent_refused q early = record { own = 0; gone = 0; is = subst (λ (x : Mem). Spent s x 0 0) (sym q) spent_early }
  spent_refused {m = m} {ss = ss} q (late h) = record { own = suc (length ss); gone = _; is = spent_late (subst (λ (x : Mem). Late (address s) x ss m) q h) }

  -- the words then
  words_late : {ss : List Store} {m : Mem} (h : Late (address s) (at_rest s.mem) ss m) → s.mem.used ≤ length s.mem.journal
      → used_words m ≡ drop h.dropped (used_words s.mem) ++ mark_word (address s) ∷ map word_of ss
  words_late {ss} h l =
      let j : List ℕ = drop h.dropped s.mem.journal ++ replicate h.dropped 0 in
      let u : ℕ = s.mem.used - h.dropped in
      words_after h.makes
      ∙ ap (λ (x : List ℕ). x ++ map word_of ss) (take-suc-set j u (mark_word (address s)) h.word_left)
      ∙ append_snoc (take u j) (mark_word (address s)) (map word_of ss)
      ∙ ap (λ (x : List ℕ). x ++ mark_word (address s) ∷ map word_of ss) (take_forget h.dropped s.mem.used s.mem.journal h.within l)

  -- the two demands, by how a call ended
  abbrev Met : Reply → Type 0
  Met (done t) = Demand2 w s t (length (step_stores w s))
  Met (refused a t) = Listed a → Demand1 w s a t

  left_refused : (a : Answer) {m : Mem} {n d : ℕ} → Cause w s a → Spent s m n d → begun_words w s ≡ n → dropped_words w s ≡ d
      → Listed a → Demand1 w s a (state s.pc s.source (over (emptied m) s.mem))
  left_refused a {m} {n} {d} c h eb ed l =
      record {
        cause = c;
        listed = l;
        address = refl;
        source = refl;
        memories = λ k. refl;
        drops = rw (eb, ed) h.drops;
        used = rw ed h.older;
        place = rw ed h.place;
        mode = h.mode;
        words = rw (eb, ed, h.older) (rw h.older at (ap (λ (x : Mem). x.journal) h.left));
      }

  -- test 11 "touches nothing"
  left_unfit : fits s.mem ≡ false → Listed (answer_for wrong_length) → Demand1 w s (answer_for wrong_length) s
  left_unfit f l =
      record {
        cause = unfit f;
        listed = l;
        address = refl;
        source = refl;
        memories = λ k. refl;
        drops = rw f (enough (few_used s.mem.used s.mem.journal));
        used = rw f (omega arith);
        place = rw f refl;
        mode = refl;
        words = rw f (sym (append-nil s.mem.journal));
      }

  module _ (f : fits s.mem ≡ true) where
    -- how many words it has dropped
    gone : {m : Mem} {n d : ℕ} → Spent s m n d → s.mem.used - m.older ≡ d
    gone h = omega (arith, h.older, h.within)

    met_refused : (a : Answer) {m : Mem} {n d : ℕ} → attempt w s ≡ stopped a m → Spent s m n d → Met (settle s (stopped a m))
    met_refused a e h = left_refused a (stops f e) h (rw (f, e) h.own) (rw (f, e) (gone h))

    met_accepted : (v : Source) (pc : ℕ) (m : Mem) → attempt w s ≡ got v pc m → Late (address s) (at_rest s.mem) (step_stores w s) m → Met (settle s (got v pc m))
    met_accepted v pc m e h =
        let x : Spent s m (suc (length (step_stores w s))) h.dropped = spent_late h in
        let eb : begun_words w s ≡ suc (length (step_stores w s)) = rw (f, e) x.own in
        let ed : dropped_words w s ≡ h.dropped = rw (f, e) (gone x) in
        record {
          fit = f;
          end = m;
          left = e;
          rests = refl;
          count = refl;
          begun = eb;
          drops = rw (eb, ed) x.drops;
          used = rw ed (omega (arith, used_after h.makes));
          words = rw ed (words_late h (fits_used s.mem f));
          place = rw ed x.place;
        }

    met_settle : (o : Out Source) → attempt w s ≡ o → Tried (address s) (at_rest s.mem) (step_stores w s) o → Met (settle s o)
    met_settle (got v pc m) e t = met_accepted v pc m e (tried_done t)
    met_settle (stopped a m) e t = met_refused a e (spent_refused refl t).is

  met : Met (step w s)
  unfolding fit_step
  met = step_cases w s Met (λ f. met_settle f (attempt w s) refl (tried w s (fits_used s.mem f))) left_unfit

  pub demand1 : (a : Answer) (t : State) → step w s ≡ refused a t → Demand1 w s a t
  demand1 a t e = subst Met e met (subst NamedReply e (named_step w s))

  pub demand2 : (t : State) → step w s ≡ done t → Demand2 w s t (length (step_stores w s))
  demand2 t e = subst Met e met
