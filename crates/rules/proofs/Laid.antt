-- The words that a rule lays: all that it drops may be dropped first, as few words as will do, and its stores made then. By induction on the rule.
use mathlib.Core.Path.{◌≡◌, refl, ◌∙◌, ap, sym, subst}
use mathlib.Core.Bool.{Bool, true, false}
use mathlib.Core.List.{List, [], ◌∷◌, ◌++◌}
use Prim.Native.Nat.{ℕ, suc, ◌+◌, ◌-◌, ◌%◌, ◌≤◌, ◌<◌}
use native.Mathlib.Nat.{mod-lt}
use native.Mathlib.Omega.{arith}
use lib.Dec.{ltb, lit<}
use lib.ListN.{length, drop, length-append, length-set}
use lib.Seq.{take-set-le, length-take-le}
use borrow.Author.Tests.{ltb-true, ltb-false, lt-ltb, le-ltb}
use Rattle.rules.specs.Machine.{pick, ◌also◌, Kind, extent, writable, Mem, area}
use Rattle.rules.specs.Answers.{Answer, answer_for, no_room, read_only, outside}
use Rattle.rules.specs.Journal.{mark_word, lay, Store, store_of, make, older_words, oldest, forget}
use Rattle.rules.specs.Rules.{Act, next, ask, jump, load, store, send, Rule, give, refuse, act, Out, got, stopped, then, room, spare, perform, exec, act_stores, stores_then, stores}
use Rattle.rules.specs.Calls.{taken}
use Rattle.rules.specs.Demands.{Bytes, Drops, enough}
use Rattle.rules.proofs.Stores.{mem_of, Made, none, one, made_append, used_after, older_after, older_words_after, ring_after, journal_length, used_fits}
use Rattle.rules.proofs.Undo.{bytes_put}
use Rattle.rules.proofs.Tests.{false_true}
use Rattle.rules.proofs.Forget.{length_forget, take_forget, forget_none, forget_more, forget_lay, made_forget, oldest_within, oldest_some, drops_then, drops_one}

-- no more words are used than there are, and no more are older than are used
pub record Sane (m : Mem) : Type 0 where
  pub used : m.used ≤ length m.journal
  pub older : m.older ≤ m.used

-- ---- room for a word

-- where there is none, the oldest step's words are dropped, if there is one
pub data Spared (m : Mem) : Mem → Type 0 where
  as_it_is : room m ≡ true → Spared m m
  in_vain : room m ≡ false → (m.ring also ltb 0 m.older) ≡ false → Spared m m
  one_less : room m ≡ false → m.ring ≡ true → 0 < m.older → Spared m (forget (oldest (older_words m)) m)

pub spared : (m : Mem) → Spared m (spare m)
unfolding spare ◌also◌
spared m = go (room m) refl m.ring refl (ltb 0 m.older) refl
  where
    go : (b : Bool) → room m ≡ b → (c : Bool) → m.ring ≡ c → (d : Bool) → ltb 0 m.older ≡ d
        → Spared m (pick b m (pick (c also d) (forget (oldest (older_words m)) m) m))
    go true e c f d h = as_it_is e
    go false e true f true h = one_less e f (ltb-true _ _ h)
    go false e true f false h = in_vain e (rw (f, h))
    go false e false f d h = in_vain e (rw f)

-- its cells stay, so bytes stay bytes
bytes_test : {A : Type 0} (c : Bool) (x y : Out A) → Bytes (mem_of x) → Bytes (mem_of y) → Bytes (mem_of (pick c x y))
bytes_test true x y h k = h
bytes_test false x y h k = k

bytes_spare : (m : Mem) → Bytes m → Bytes (spare m)
bytes_spare m b = go (spare m) (spared m)
  where
    go : (x : Mem) → Spared m x → Bytes x
    go x (as_it_is e) = b
    go x (in_vain e h) = b
    go x (one_less e g h) = b

pub bytes_act : (q : Act) (pc : ℕ) (m : Mem) → Bytes m → Bytes (mem_of (perform q pc m))
unfolding perform
bytes_act next pc m b = bytes_test (ltb pc (length m.image)) _ _ b b
bytes_act ask pc m b = b
bytes_act (jump a) pc m b = b
bytes_act (load k a) pc m b = bytes_test (ltb a (extent (area m) k)) _ _ b b
bytes_act (store k a v) pc m b =
    bytes_test (ltb a (extent (area m) k)) _ _
    (bytes_test (writable (area m) k a) _ _
    (bytes_test (room (spare m)) _ _ (bytes_put k a (v % 256) (spare m) (mod-lt v (lit< tt)) (bytes_spare m b)) (bytes_spare m b)) b) b
bytes_act (send v) pc m b = b

-- the words that can't be dropped: the step's own; or, where none can, all
abbrev pub held : Mem → ℕ
held m = pick m.ring (taken m) m.used

module _ (m : Mem) (s : Sane m) where
  abbrev olds : List ℕ
  olds = older_words m

  length_older : length olds ≡ m.older
  length_older = length-take-le m.older m.journal (omega (arith, s.used, s.older))

  -- the oldest step has a word, and no more than there are
  oldest_counts : 0 < m.older → (0 < oldest olds) × (oldest olds ≤ m.older)
  oldest_counts h = (oldest_some olds (omega (arith, length_older)), omega (arith, oldest_within olds, length_older))

  none_older : m.ring ≡ true → (m.ring also ltb 0 m.older) ≡ false → m.older ≡ 0
  unfolding ◌also◌
  none_older f h = omega (arith, ltb-false 0 m.older (rw f at h))

  spared_room : room m ≡ false → 0 < m.older → room (forget (oldest olds) m) ≡ true
  spared_room e h =
      let k : (0 < oldest olds) × (oldest olds ≤ m.older) = oldest_counts h in
      lt-ltb (forget (oldest olds) m).used (length (forget (oldest olds) m).journal)
      (omega (arith, k.0, k.1, s.used, s.older, length_forget (oldest olds) m.journal (omega (arith, k.1, s.used, s.older))))

  -- a word is left then exactly if those that can't be dropped are not all
  pub room_held : room (spare m) ≡ ltb (held m) (length m.journal)
  room_held = go (spare m) (spared m) m.ring refl
    where
      go : (x : Mem) → Spared m x → (c : Bool) → m.ring ≡ c → room x ≡ ltb (held m) (length m.journal)
      go x (as_it_is e) true f =
          let l : m.used - m.older < length m.journal = omega (arith, ltb-true m.used (length m.journal) e) in
          e ∙ sym (rw f (lt-ltb _ _ l))
      go x (as_it_is e) false f = sym (rw f)
      go x (in_vain e h) true f =
          let l : length m.journal ≤ m.used - m.older = omega (arith, ltb-false m.used (length m.journal) e, none_older f h) in
          e ∙ sym (rw f (le-ltb _ _ l))
      go x (in_vain e h) false f = sym (rw f)
      go x (one_less e g h) true f =
          let l : m.used - m.older < length m.journal = omega (arith, s.used, s.older, h) in
          spared_room e h ∙ sym (rw f (lt-ltb _ _ l))
      go x (one_less e g h) false f = absurd (false_true (sym f ∙ g))

-- a word is found: what is dropped for it
pub record Found (m : Mem) : Type 0 where
  pub dropped : ℕ
  pub within : dropped ≤ m.older
  pub is : spare m ≡ forget dropped m
  pub few : Drops m.ring (length m.journal) (taken m + 1) (older_words m) dropped
  pub word_left : (forget dropped m).used < length (forget dropped m).journal

pub find : (m : Mem) → Sane m → room (spare m) ≡ true → Found m
find m s = go (spare m) refl (spared m)
  where
    olds_length : length (older_words m) ≡ m.older
    olds_length = length_older m s

    go : (x : Mem) → spare m ≡ x → Spared m x → room x ≡ true → Found m
    go x q (as_it_is e) f =
        let free : m.used < length m.journal = ltb-true m.used (length m.journal) e in
        record {
          dropped = 0;
          within = omega arith;
          is = q ∙ sym (forget_none m);
          few = enough {ws = older_words m} (omega (arith, olds_length, s.older, free));
          word_left = subst (λ (y : Mem). y.used < length y.journal) (sym (forget_none m)) free;
        }
    go x q (in_vain e h) f = absurd (false_true (sym e ∙ f))
    go x q (one_less e g h) f =
        let k : (0 < oldest (older_words m)) × (oldest (older_words m) ≤ m.older) = oldest_counts m s h in
        let full : length m.journal ≤ m.used = ltb-false m.used (length m.journal) e in
        record {
          dropped = oldest (older_words m);
          within = k.1;
          is = q;
          few = drops_one (older_words m) g (omega (arith, olds_length, s.older, full)) (omega (arith, olds_length, s.used, s.older, k.0));
          word_left = ltb-true _ _ f;
        }

-- where none is found, nothing is dropped
pub not_found : (m : Mem) → Sane m → room (spare m) ≡ false → spare m ≡ m
not_found m s = go (spare m) refl (spared m)
  where
    go : (x : Mem) → spare m ≡ x → Spared m x → room x ≡ false → spare m ≡ m
    go x q (as_it_is e) f = q
    go x q (in_vain e h) f = q
    go x q (one_less e g h) f = absurd (false_true (sym f ∙ spared_room m s e h))

-- ---- what a rule lays

-- from m come the stores ss and m': so many words are dropped, as few as will do, and then the stores are made
pub record Laid (m : Mem) (ss : List Store) (m' : Mem) : Type 0 where
  pub dropped : ℕ
  pub within : dropped ≤ m.older
  pub makes : Made (forget dropped m) ss m'
  pub few : Drops m.ring (length m.journal) (taken m + length ss) (older_words m) dropped

laid_none : (m : Mem) → Sane m → Laid m [] m
laid_none m s =
    record {
      dropped = 0;
      within = omega arith;
      makes = subst (λ (x : Mem). Made x [] m) (sym (forget_none m)) none;
      few = enough {ws = older_words m} (omega (arith, length_older m s, s.used, s.older));
    }

-- what is so of the words then
module _ {m : Mem} {ss : List Store} {m' : Mem} (s : Sane m) (h : Laid m ss m') where
  abbrev d : ℕ
  d = h.dropped

  same_length : length (forget d m).journal ≡ length m.journal
  same_length = length_forget d m.journal (omega (arith, h.within, s.used, s.older))

  pub laid_length : length m'.journal ≡ length m.journal
  laid_length = journal_length h.makes ∙ same_length

  pub laid_used : m'.used ≡ m.used - d + length ss
  laid_used = used_after h.makes

  pub laid_older : m'.older ≡ m.older - d
  laid_older = older_after h.makes

  pub laid_taken : taken m' ≡ taken m + length ss
  laid_taken = omega (arith, laid_used, laid_older, h.within, s.older)

  pub laid_sane : Sane m'
  laid_sane =
      record {
        used = used_fits h.makes (omega (arith, same_length, s.used));
        older = omega (arith, laid_used, laid_older, s.older);
      }

  laid_olds : older_words m' ≡ drop d (older_words m)
  laid_olds =
      older_words_after (omega (arith, s.older)) h.makes ∙ take_forget d m.older m.journal h.within (omega (arith, s.used, s.older))

laid_append : {m m₁ m₂ : Mem} {ss ts : List Store} → Sane m → Laid m ss m₁ → Laid m₁ ts m₂ → Laid m (ss ++ ts) m₂
laid_append {m} {m₁} {m₂} {ss} {ts} s h k =
    let d : ℕ = h.dropped in
    let e : ℕ = k.dropped in
    let in_all : e ≤ m.older - d = subst (λ (n : ℕ). e ≤ n) (laid_older s h) k.within in
    let more : taken m₁ + length ts ≡ taken m + length (ss ++ ts) = omega (arith, laid_taken s h, length-append ss ts) in
    let few : Drops m.ring (length m.journal) (taken m + length (ss ++ ts)) (drop d (older_words m)) e =
    rw (← ring_after h.makes, ← laid_length s h, ← more, ← laid_olds s h) k.few in
    record {
      dropped = d + e;
      within = omega (arith, in_all, h.within);
      makes = subst (λ (x : Mem). Made x (ss ++ ts) m₂) (forget_more d e m (omega (arith, in_all, h.within, s.used, s.older)))
          (made_append (made_forget e (omega (arith, in_all, s.older)) h.makes) k.makes);
      few = drops_then (omega (arith, length-append ss ts)) h.few few;
    }

-- ---- by induction on the rule, an action at a time

laid_look : (c : Bool) (v pc : ℕ) (a : Answer) (m : Mem) → Sane m → Laid m [] (mem_of (pick c (got v pc m) (stopped a m)))
laid_look true v pc a m s = laid_none m s
laid_look false v pc a m s = laid_none m s

laid_store : (k : Kind) (a b pc : ℕ) (m : Mem) → Sane m → (c : Bool) → ltb a (extent (area m) k) ≡ c → (w : Bool) → writable (area m) k a ≡ w
    → (d : Bool) → room (spare m) ≡ d
    → Laid m (pick c (pick w (pick d (store_of k a (b % 256) m ∷ []) []) []) [])
    (mem_of {A = ℕ} (pick c (pick w (pick d (got 0 pc (make (store_of k a (b % 256) m) (spare m))) (stopped (answer_for no_room) (spare m))) (stopped (answer_for read_only) m))
    (stopped (answer_for (outside k a)) m)))
laid_store k a b pc m s true e true w true f =
    let x : Found m = find m s f in
    let t : Store = store_of k a (b % 256) m in
    record {
      dropped = x.dropped;
      within = x.within;
      makes = subst (λ (y : Mem). Made (forget x.dropped m) (t ∷ []) (make t y)) (sym x.is)
          (one (record { inside = ltb-true _ _ e; allowed = w; byte = mod-lt b (lit< tt); word_left = x.word_left; was = refl }) none);
      few = x.few;
    }
laid_store k a b pc m s true e true w false f = subst (Laid m []) (sym (not_found m s f)) (laid_none m s)
laid_store k a b pc m s true e false w d f = laid_none m s
laid_store k a b pc m s false e c w d f = laid_none m s

laid_act : (q : Act) (pc : ℕ) (m : Mem) → Sane m → Laid m (act_stores q m) (mem_of (perform q pc m))
unfolding perform act_stores
laid_act next pc m s = laid_look (ltb pc (length m.image)) _ _ _ m s
laid_act ask pc m s = laid_none m s
laid_act (jump a) pc m s = laid_none m s
laid_act (load k a) pc m s = laid_look (ltb a (extent (area m) k)) _ _ _ m s
laid_act (store k a b) pc m s = laid_store k a b pc m s _ refl _ refl _ refl
laid_act (send b) pc m s = laid_none m s

laid_then : {A B : Type 0} (o : Out A) (f : A → ℕ → Mem → List Store) (g : A → ℕ → Mem → Out B) → Sane (mem_of o)
    → ((a : A) (pc : ℕ) (m : Mem) → Sane m → Laid m (f a pc m) (mem_of (g a pc m))) → Laid (mem_of o) (stores_then o f) (mem_of (then o g))
laid_then (got a pc m) f g s h = h a pc m s
laid_then (stopped n m) f g s h = laid_none m s

pub lays : {A : Type 0} (r : Rule A) (pc : ℕ) (m : Mem) → Sane m → Laid m (stores r pc m) (mem_of (exec r pc m))
unfolding exec stores
lays (give a) pc m s = laid_none m s
lays (refuse why) pc m s = laid_none m s
lays (act q k) pc m s =
    let h : Laid m (act_stores q m) (mem_of (perform q pc m)) = laid_act q pc m s in
    laid_append s h (laid_then (perform q pc m) (λ v. stores (k v)) (λ v. exec (k v)) (laid_sane s h) (λ v. lays (k v)))

-- ---- a mark, and then what a rule lays

pub record Late (pc : ℕ) (m : Mem) (ss : List Store) (m' : Mem) : Type 0 where
  pub dropped : ℕ
  pub within : dropped ≤ m.older
  pub word_left : (forget dropped m).used < length (forget dropped m).journal
  pub makes : Made (lay (mark_word pc) (forget dropped m)) ss m'
  pub few : Drops m.ring (length m.journal) (taken m + suc (length ss)) (older_words m) dropped

module _ (pc : ℕ) (m : Mem) (s : Sane m) (x : Found m) where
  abbrev marked : Mem
  marked = lay (mark_word pc) (forget x.dropped m)

  marked_length : length marked.journal ≡ length m.journal
  marked_length =
      length-set (forget x.dropped m).journal (m.used - x.dropped) (mark_word pc)
      ∙ length_forget x.dropped m.journal (omega (arith, x.within, s.used, s.older))

  marked_sane : Sane marked
  marked_sane =
      record {
        used = omega (arith, length-set (forget x.dropped m).journal (m.used - x.dropped) (mark_word pc), x.word_left);
        older = omega (arith, s.older);
      }

  marked_olds : older_words marked ≡ drop x.dropped (older_words m)
  marked_olds =
      take-set-le (m.older - x.dropped) (forget x.dropped m).journal (m.used - x.dropped) (mark_word pc) (omega (arith, s.older))
      ∙ take_forget x.dropped m.older m.journal x.within (omega (arith, s.used, s.older))

  late_marked : {ss : List Store} {m' : Mem} → Laid marked ss m' → Late pc m ss m'
  late_marked {ss} {m'} h =
      let d : ℕ = x.dropped in
      let e : ℕ = h.dropped in
      let in_all : d + e ≤ m.older = omega (arith, h.within, x.within) in
      let at_first : forget e marked ≡ lay (mark_word pc) (forget (d + e) m) =
      sym (forget_lay e (mark_word pc) (forget d m) (omega (arith, in_all, s.older)) x.word_left)
      ∙ ap (lay (mark_word pc)) (forget_more d e m (omega (arith, in_all, s.used, s.older))) in
      let more : taken marked + length ss ≡ taken m + suc (length ss) = omega (arith, x.within, s.older) in
      record {
        dropped = d + e;
        within = in_all;
        word_left = omega (
          arith,
          x.word_left,
          length_forget d m.journal (omega (arith, in_all, s.used, s.older)),
          length_forget (d + e) m.journal (omega (arith, in_all, s.used, s.older)),
        );
        makes = subst (λ (y : Mem). Made y ss m') at_first h.makes;
        few = drops_then (omega arith) x.few (rw (← marked_length, ← more, ← marked_olds) h.few);
      }

pub late_rule : {A : Type 0} (pc pc₁ : ℕ) (m : Mem) (r : Rule A) → Sane m → room (spare m) ≡ true
    → Late pc m (stores r pc₁ (lay (mark_word pc) (spare m))) (mem_of (exec r pc₁ (lay (mark_word pc) (spare m))))
late_rule pc pc₁ m r s f =
    let x : Found m = find m s f in
    let n : Mem = marked pc m s x in
    subst (λ (y : Mem). Late pc m (stores r pc₁ (lay (mark_word pc) y)) (mem_of (exec r pc₁ (lay (mark_word pc) y)))) (sym x.is)
    (late_marked pc m s x (lays r pc₁ n (marked_sane pc m s x)))
