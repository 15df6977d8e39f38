-- A step beside another journal: two machines that differ in their journals alone, in which as many words can't be dropped, answer alike and make the same stores.
use mathlib.Core.Path.{◌≡◌, refl, ◌∙◌, ap, ap₂, sym}
use mathlib.Core.Bool.{Bool, true, false}
use mathlib.Core.List.{List, [], ◌∷◌, ◌++◌}
use Prim.Native.Nat.{ℕ, suc, ◌-◌, ◌%◌, ◌≤◌}
use native.Mathlib.Omega.{arith}
use lib.Dec.{ltb}
use lib.ListN.{length, length-set}
use Rattle.rules.specs.Machine.{pick, extent, writable, Mem, area, State, flagged, address, over}
use Rattle.rules.specs.Answers.{Answer, answer_for, no_room}
use Rattle.rules.specs.Journal.{mark_word, lay, Store, store_of, word_of, make, forget}
use Rattle.rules.specs.Rules.{Act, next, ask, jump, load, store, send, Rule, give, refuse, act, Out, got, stopped, room, spare, perform, act_stores, stores_then, stores}
use Rattle.rules.specs.Rules.{act_sent, sent_then, sent, sends}
use Rattle.rules.specs.Opcodes.{class_of}
use Rattle.rules.specs.Sound.{Source, tick_rule}
use Rattle.rules.specs.Tasks.{Plan, halt, go, plan_of}
use Rattle.rules.specs.Calls.{Way, instruction, tick, take_mark, attempt, begin_stores, step_stores, tick_sent}
use Rattle.rules.proofs.Forget.{length_forget, drops_plain}
use Rattle.rules.proofs.Laid.{Sane, held, room_held, Found, find}
use Rattle.rules.proofs.Kept.{Point, point, Both, on, off, Keeps, attempt_keeps, rested}

-- ---- two journals

-- what of a journal decides whether a word is left
pub record Book : Type 0 where
  pub size : ℕ
  pub used : ℕ
  pub older : ℕ
  pub ring : Bool

abbrev pub book_of : Mem → Book
book_of m = record { size = length m.journal; used = m.used; older = m.older; ring = m.ring }

abbrev pub holds : Book → ℕ
holds b = pick b.ring (b.used - b.older) b.used

pub record Level (b c : Book) : Type 0 where
  pub ring : c.ring ≡ b.ring
  pub size : c.size ≡ b.size
  pub holding : holds c ≡ holds b
  pub fits : (b.used ≤ b.size) × (c.used ≤ c.size)
  pub orderly : (b.older ≤ b.used) × (c.older ≤ c.used)

pub data Alike : Point → Point → Type 0 where
  alike : {pc : ℕ} (m n : Mem) → Level (book_of m) (book_of n) → Alike (point pc m) (point pc (over n m))

-- a word laid, where one is left: one more that can't be dropped
holds_more : (w : ℕ) (m : Mem) → Sane m → (x : Found m) → holds (book_of (lay w (forget x.dropped m))) ≡ suc (held m)
holds_more w m s x = go m.ring refl
  where
    go : (c : Bool) → m.ring ≡ c → pick c (suc (m.used - x.dropped) - (m.older - x.dropped)) (suc (m.used - x.dropped)) ≡ suc (pick c (m.used - m.older) m.used)
    go true e = omega (arith, x.within, s.older)
    go false e = omega (arith, drops_plain e x.few)

module _ (m n : Mem) (l : Level (book_of m) (book_of n)) where
  sane : Sane m
  sane = record { used = l.fits.0; older = l.orderly.0 }

  sane_over : Sane (over n m)
  sane_over = record { used = l.fits.1; older = l.orderly.1 }

  same_room : room (spare (over n m)) ≡ room (spare m)
  same_room = room_held (over n m) sane_over ∙ ap₂ ltb l.holding l.size ∙ sym (room_held m sane)

  level_lay : (w : ℕ) (x : Found m) (y : Found (over n m))
      → Level (book_of (lay w (forget x.dropped m))) (book_of (lay w (forget y.dropped (over n m))))
  level_lay w x y =
      let d : ℕ = x.dropped in
      let e : ℕ = y.dropped in
      let here : length (lay w (forget d m)).journal ≡ length (forget d m).journal = length-set (forget d m).journal (m.used - d) w in
      let there : length (lay w (forget e (over n m))).journal ≡ length (forget e (over n m)).journal = length-set (forget e (over n m)).journal (n.used - e) w in
      record {
        ring = l.ring;
        size = there ∙ length_forget e n.journal (omega (arith, y.within, l.fits.1, l.orderly.1)) ∙ l.size
            ∙ sym (here ∙ length_forget d m.journal (omega (arith, x.within, l.fits.0, l.orderly.0)));
        holding = holds_more w (over n m) sane_over y ∙ ap suc l.holding ∙ sym (holds_more w m sane x);
        fits = (omega (arith, here, x.word_left), omega (arith, there, y.word_left));
        orderly = (omega (arith, l.orderly.0), omega (arith, l.orderly.1));
      }

-- ---- every action and every mark keep it

abbrev Anyhow : Answer → Mem → Mem → Type 0
Anyhow a m n = Unit {0}

both_test : {A : Type 0} (c : Bool) {x y x₁ y₁ : Out A} → Both Alike Anyhow x x₁ → Both Alike Anyhow y y₁ → Both Alike Anyhow (pick c x y) (pick c x₁ y₁)
both_test true h k = h
both_test false h k = k

-- a word is laid beside both, or beside neither
both_lay : {A : Type 0} (m n : Mem) (l : Level (book_of m) (book_of n)) (f : Mem → Out A)
    → ((x : Found m) (y : Found (over n m)) → Both Alike Anyhow (f (forget x.dropped m)) (f (forget y.dropped (over n m))))
    → Both Alike Anyhow (pick (room (spare m)) (f (spare m)) (stopped (answer_for no_room) (spare m)))
    (pick (room (spare (over n m))) (f (spare (over n m))) (stopped (answer_for no_room) (spare (over n m))))
both_lay m n l f h = go (room (spare m)) refl (same_room m n l)
  where
    go : (c : Bool) → room (spare m) ≡ c → room (spare (over n m)) ≡ c
        → Both Alike Anyhow (pick c (f (spare m)) (stopped (answer_for no_room) (spare m)))
        (pick (room (spare (over n m))) (f (spare (over n m))) (stopped (answer_for no_room) (spare (over n m))))
    go true e k =
        let x : Found m = find m (sane m n l) e in
        let y : Found (over n m) = find (over n m) (sane_over m n l) k in
        rw (k, x.is, y.is) (h x y)
    go false e k = rw k (off tt)

acts_alike : (q : Act) (s t : Point) → Alike s t → Both Alike Anyhow (perform q s.pc s.mem) (perform q t.pc t.mem)
unfolding perform
acts_alike next s t (alike {pc} m n l) = both_test (ltb pc (length m.image)) (on (alike m n l)) (off tt)
acts_alike ask s t (alike m n l) = on (alike m n l)
acts_alike (jump a) s t (alike m n l) = on (alike m n l)
acts_alike (load k a) s t (alike {pc} m n l) = both_test (ltb a (extent (area m) k)) (on (alike m n l)) (off tt)
acts_alike (store k a b) s t (alike {pc} m n l) =
    let v : Store = store_of k a (b % 256) m in
    both_test (ltb a (extent (area m) k))
    (both_test (writable (area m) k a) (both_lay m n l (λ x. got 0 pc (make v x))
    (λ x y. on (alike _ (make v (forget y.dropped (over n m))) (level_lay m n l (word_of v) x y)))) (off tt)) (off tt)
acts_alike (send b) s t (alike m n l) = on (alike m n l)

marks_alike : (pc : ℕ) (s t : Point) → Alike s t → Both Alike Anyhow (take_mark pc s.pc s.mem) (take_mark pc t.pc t.mem)
unfolding take_mark
marks_alike pc s t (alike {pc = pc₁} m n l) = both_lay m n l (λ x. got tt pc₁ (lay (mark_word pc) x))
    (λ x y. on (alike _ (lay (mark_word pc) (forget y.dropped (over n m))) (level_lay m n l (mark_word pc) x y)))

keeps_alike : Keeps Alike Anyhow
keeps_alike = record { acts = acts_alike; marks = marks_alike; refuses = λ why s t h. tt }

pub attempt_alike : (w : Way) (s t : State) → s.pc ≡ t.pc → s.source ≡ t.source → Alike (rested s) (rested t) → Both Alike Anyhow (attempt w s) (attempt w t)
attempt_alike = attempt_keeps keeps_alike

-- ---- so the stores are the same

act_stores_lem : (q : Act) (s t : Point) → Alike s t → act_stores q s.mem ≡ act_stores q t.mem
unfolding act_stores
act_stores_lem next s t h = refl
act_stores_lem ask s t h = refl
act_stores_lem (jump a) s t h = refl
act_stores_lem (load k a) s t h = refl
act_stores_lem (store k a b) s t (alike {pc} m n l) =
    ap (λ (c : Bool). pick (ltb a (extent (area m) k)) (pick (writable (area m) k a) (pick c (store_of k a (b % 256) m ∷ []) []) []) []) (sym (same_room m n l))
act_stores_lem (send b) s t h = refl

stores_then_lem : {A : Type 0} {o p : Out A} (f g : A → ℕ → Mem → List Store) → Both Alike Anyhow o p
    → ((a : A) (s t : Point) → Alike s t → f a s.pc s.mem ≡ g a t.pc t.mem) → stores_then o f ≡ stores_then p g
stores_then_lem f g (on {a} {pc} {pc₁} {m} {m₁} h) k = k a (point pc m) (point pc₁ m₁) h
stores_then_lem f g (off h) k = refl

stores_alike : {A : Type 0} (r : Rule A) (s t : Point) → Alike s t → stores r s.pc s.mem ≡ stores r t.pc t.mem
unfolding stores
stores_alike (give a) s t h = refl
stores_alike (refuse why) s t h = refl
stores_alike (act q k) s t h =
    ap₂ (λ (x y : List Store). x ++ y) (act_stores_lem q s t h) (stores_then_lem (λ v. stores (k v)) (λ v. stores (k v)) (acts_alike q s t h) (λ v. stores_alike (k v)))

begin_stores_lem : (a : ℕ) (p : Plan) (s t : Point) → Alike s t → begin_stores a p s.pc s.mem ≡ begin_stores a p t.pc t.mem
unfolding begin_stores
begin_stores_lem a (halt why) s t h = refl
begin_stores_lem a (go r) s t h = stores_then_lem (λ _. stores r) (λ _. stores r) (marks_alike a s t h) (λ _. stores_alike r)

module _ (s t : State) (e : s.pc ≡ t.pc) (f : s.source ≡ t.source) (h : Alike (rested s) (rested t)) where
  -- by the flag, the plan and the mark are the same
  same_plan : (plan : Source → Plan) (x y : Point) → Alike x y
      → begin_stores (address s) (plan s.source) x.pc x.mem ≡ begin_stores (address t) (plan t.source) y.pc y.mem
  same_plan plan x y k =
      begin_stores_lem (address s) (plan s.source) x y k
      ∙ ap₂ (λ (pc : ℕ) (v : Source). begin_stores (flagged pc v) (plan v) y.pc y.mem) e f

  pub step_stores_lem : (w : Way) → step_stores w s ≡ step_stores w t
  unfolding step_stores
  step_stores_lem instruction =
      stores_then_lem (λ op. begin_stores (address s) (plan_of s.source (class_of op))) (λ op. begin_stores (address t) (plan_of t.source (class_of op)))
      (acts_alike next (rested s) (rested t) h) (λ op. same_plan (λ v. plan_of v (class_of op)))
  step_stores_lem (tick n) = same_plan (λ v. go (tick_rule n v)) (rested s) (rested t) h

-- ---- and so are the bytes that are sent

sent_going : {A : Type 0} {o p : Out A} (f g : A → ℕ → Mem → List ℕ) → Both Alike Anyhow o p
    → ((a : A) (s t : Point) → Alike s t → f a s.pc s.mem ≡ g a t.pc t.mem) → sent_then o f ≡ sent_then p g
sent_going f g (on {a} {pc} {pc₁} {m} {m₁} h) k = k a (point pc m) (point pc₁ m₁) h
sent_going f g (off h) k = refl

sent_alike : {A : Type 0} (r : Rule A) (s t : Point) → Alike s t → sent r s.pc s.mem ≡ sent r t.pc t.mem
unfolding sent
sent_alike (give a) s t h = refl
sent_alike (refuse why) s t h = refl
sent_alike (act q k) s t h =
    ap (λ (l : List ℕ). act_sent q ++ l) (sent_going (λ v. sent (k v)) (λ v. sent (k v)) (acts_alike q s t h) (λ v. sent_alike (k v)))

pub tick_sent_lem : (s t : State) → s.pc ≡ t.pc → s.source ≡ t.source → Alike (rested s) (rested t) → (n : ℕ) → tick_sent n s ≡ tick_sent n t
unfolding tick_sent sends
tick_sent_lem s t e f h n =
    sent_going (λ _. sent (tick_rule n s.source)) (λ _. sent (tick_rule n s.source)) (marks_alike (address s) (rested s) (rested t) h)
    (λ _. sent_alike (tick_rule n s.source))
    ∙ ap₂ (λ (pc : ℕ) (v : Source). sends (take_mark (flagged pc v) t.pc (rested t).mem) (tick_rule n v)) e f
