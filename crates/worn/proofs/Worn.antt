-- Item 13: what is not read of the image does not matter. By induction on the rule, and then on the steps of a run: two machines that differ in what was never
-- read stay so, and read the same.
use mathlib.Core.Path.{◌≡◌, refl, ◌∙◌, ap₂, sym}
use mathlib.Core.Bool.{Bool, true, false}
use mathlib.Core.List.{List, [], ◌∷◌, ◌++◌}
use Prim.Native.Nat.{ℕ, zero, suc, ◌+◌, ◌-◌, ◌%◌}
use native.Mathlib.Omega.{arith}
use lib.Dec.{ltb, eqb}
use lib.ListN.{length, get_or}
use borrow.Author.Tests.{eq-eqb}
use Rattle.rules.specs.Machine.{pick, Kind, cpu, vdp, register, grom, extent, writable, Mem, area, State, state, address, at_rest, onward}
use Rattle.rules.specs.Answers.{Answer, answer_for, no_room, read_only, outside}
use Rattle.rules.specs.Journal.{mark_word, Store, store_of, make}
use Rattle.rules.specs.Rules.{Act, next, ask, jump, load, store, send, Rule, give, refuse, act, Out, got, stopped, then, room, spare, perform, exec, after}
use Rattle.rules.specs.Opcodes.{class_of}
use Rattle.rules.specs.Sound.{Source}
use Rattle.rules.specs.Tasks.{Plan, halt, go, plan_of}
use Rattle.rules.specs.Calls.{instruction, fits, Reply, done, refused, left, take_mark, begin, attempt, taken, settle, fit_step, step, step_stores, Report, report, onto, steps}
use Rattle.rules.proofs.Tests.{false_true}
use Rattle.rules.proofs.Stores.{used_after, older_after}
use Rattle.rules.proofs.Steps.{Tried, late, tried}
use Rattle.rules.proofs.Fits.{fits_used}
use Rattle.rules.specs.Reads.{look, act_reads, reads_then, reads, begin_reads, attempt_reads, step_reads, reads_onto, run_reads}
use Rattle.worn.specs.Worn.{among, AgreeAt}
use Rattle.worn.proofs.Pairs.{agreed, journals_length, journals_blank, Worn, worn}
use Rattle.worn.proofs.Pairs.{room_worn, spare_worn, lay_worn, make_worn}

-- ---- the addresses of two lists

among_first : (a : ℕ) (k l : List ℕ) → among a k ≡ true → among a (k ++ l) ≡ true
among_first a [] l h = absurd (false_true h)
among_first a (b ∷ k) l h = go (eqb a b) (among_first a k l) h
  where
    go : (c : Bool) → (among a k ≡ true → among a (k ++ l) ≡ true) → pick c true (among a k) ≡ true → pick c true (among a (k ++ l)) ≡ true
    go true f h = refl
    go false f h = f h

among_second : (a : ℕ) (k l : List ℕ) → among a l ≡ true → among a (k ++ l) ≡ true
among_second a [] l h = h
among_second a (b ∷ k) l h = go (eqb a b) (among_second a k l h)
  where
    go : (c : Bool) → among a (k ++ l) ≡ true → pick c true (among a (k ++ l)) ≡ true
    go true f = refl
    go false f = f

module _ (i j : List ℕ) (w : ℕ) where
  abbrev Agree : List ℕ → Type 0
  Agree rs = AgreeAt rs i j

  abbrev Pair : Mem → Mem → Type 0
  Pair m n = Worn i j w m n

  agree_first : (k l : List ℕ) → Agree (k ++ l) → Agree k
  agree_first k l e a h = e a (among_first a k l h)

  agree_second : (k l : List ℕ) → Agree (k ++ l) → Agree l
  agree_second k l e a h = e a (among_second a k l h)

  -- ---- one action

  -- both went on with one value and one pc, or both were refused with one answer
  data Outs {A : Type 0} : Out A → Out A → Type 0 where
    on : {a : A} {pc : ℕ} {m n : Mem} → Pair m n → Outs (got a pc m) (got a pc n)
    off : {a : Answer} {m n : Mem} → Pair m n → Outs (stopped a m) (stopped a n)

  -- and they have read the same
  record Along {A : Type 0} (o p : Out A) (rs ss : List ℕ) : Type 0 where
    ends : Outs o p
    read : rs ≡ ss

  outs_pick : {A : Type 0} (c : Bool) {x y z t : Out A} → Outs x y → Outs z t → Outs (pick c x z) (pick c y t)
  outs_pick true h k = h
  outs_pick false h k = k

  quiet : {A : Type 0} {o p : Out A} → Outs o p → Along o p [] []
  quiet h = record { ends = h; read = refl }

  -- a byte of the image is read
  looks : (a pc : ℕ) (n : Answer) {m o : Mem} → Pair m o → Agree (look a m)
      → Along (pick (ltb a (length m.image)) (got (get_or m.image a 0) pc m) (stopped n m))
      (pick (ltb a (length o.image)) (got (get_or o.image a 0) pc o) (stopped n o)) (look a m) (look a o)
  looks a pc n {m} {o} (worn {x} {y} h t) e = rw (← h.lengths) (go (ltb a (length x)) e)
    where
      d : Pair m o
      d = worn h t

      go : (c : Bool) → Agree (pick c (a ∷ []) [])
          → Along (pick c (got (get_or x a 0) pc m) (stopped n m)) (pick c (got (get_or y a 0) pc o) (stopped n o)) (pick c (a ∷ []) []) (pick c (a ∷ []) [])
      go true e =
          let b : get_or x a 0 ≡ get_or y a 0 = agreed i j w (e a (rw (eq-eqb a a refl))) (h.bytes a) in
          rw b (record { ends = on d; read = refl })
      go false e = quiet (off d)

  stores_worn : (k : Kind) (a b pc : ℕ) {m o : Mem} → Pair m o → (c d : Bool) → ltb a (extent (area m) k) ≡ c → writable (area m) k a ≡ d
      → Outs {A = ℕ} (pick c (pick d (pick (room (spare m)) (got 0 pc (make (store_of k a b m) (spare m))) (stopped (answer_for no_room) (spare m)))
      (stopped (answer_for read_only) m)) (stopped (answer_for (outside k a)) m))
      (pick c (pick d (pick (room (spare o)) (got 0 pc (make (store_of k a b o) (spare o))) (stopped (answer_for no_room) (spare o)))
      (stopped (answer_for read_only) o)) (stopped (answer_for (outside k a)) o))
  stores_worn k a b pc {m} {o} h true true e f =
      let s : Pair (spare m) (spare o) = spare_worn i j w h in
      rw (room_worn i j w s) (outs_pick (room (spare o)) (on (make_worn i j w k a b h s e f)) (off s))
  stores_worn k a b pc h true false e f = off h
  stores_worn k a b pc h false d e f = off h

  acts_worn : (q : Act) (pc : ℕ) {m o : Mem} → Pair m o → Agree (act_reads q pc m) → Along (perform q pc m) (perform q pc o) (act_reads q pc m) (act_reads q pc o)
  unfolding perform act_reads
  acts_worn next pc h e = looks pc (onward pc) _ h e
  acts_worn ask pc h e = quiet (on h)
  acts_worn (jump a) pc h e = quiet (on h)
  acts_worn (load cpu a) pc (worn h t) e = quiet (outs_pick (ltb a 0xE0) (on (worn h t)) (off (worn h t)))
  acts_worn (load vdp a) pc (worn h t) e = quiet (outs_pick (ltb a 16384) (on (worn h t)) (off (worn h t)))
  acts_worn (load register a) pc (worn h t) e = quiet (outs_pick (ltb a 8) (on (worn h t)) (off (worn h t)))
  acts_worn (load grom a) pc h e = looks a pc _ h e
  acts_worn (store k a b) pc {m} {o} (worn h t) e = rw (← h.lengths) (quiet (stores_worn k a (b % 256) pc (worn h t) _ _ refl refl))
  acts_worn (send b) pc h e = quiet (on h)

  -- ---- a rule

  then_worn : {A B : Type 0} {o p : Out A} (f : A → ℕ → Mem → Out B) (g : A → ℕ → Mem → List ℕ) → Outs o p → Agree (reads_then o g)
      → ((a : A) (pc : ℕ) (m n : Mem) → Pair m n → Agree (g a pc m) → Along (f a pc m) (f a pc n) (g a pc m) (g a pc n))
      → Along (then o f) (then p f) (reads_then o g) (reads_then p g)
  then_worn f g (on {a} {pc} {m} {n} h) e k = k a pc m n h e
  then_worn f g (off h) e k = quiet (off h)

  -- after one action
  along : {B : Type 0} (q : Act) (pc : ℕ) {m o : Mem} (f : ℕ → ℕ → Mem → Out B) (g : ℕ → ℕ → Mem → List ℕ) → Pair m o
      → Agree (act_reads q pc m ++ reads_then (perform q pc m) g)
      → ((v pc₁ : ℕ) (m₁ o₁ : Mem) → Pair m₁ o₁ → Agree (g v pc₁ m₁) → Along (f v pc₁ m₁) (f v pc₁ o₁) (g v pc₁ m₁) (g v pc₁ o₁))
      → Along (then (perform q pc m) f) (then (perform q pc o) f) (act_reads q pc m ++ reads_then (perform q pc m) g) (act_reads q pc o ++ reads_then (perform q pc o) g)
  along q pc {m} {o} f g h e k =
      let own : Along (perform q pc m) (perform q pc o) (act_reads q pc m) (act_reads q pc o) = acts_worn q pc h (agree_first (act_reads q pc m) _ e) in
      let rest : Along (then (perform q pc m) f) (then (perform q pc o) f) (reads_then (perform q pc m) g) (reads_then (perform q pc o) g) =
      then_worn f g own.ends (agree_second (act_reads q pc m) _ e) k in
      record { ends = rest.ends; read = ap₂ (λ (x y : List ℕ). x ++ y) own.read rest.read }

  exec_worn : {A : Type 0} (r : Rule A) (pc : ℕ) (m o : Mem) → Pair m o → Agree (reads r pc m) → Along (exec r pc m) (exec r pc o) (reads r pc m) (reads r pc o)
  unfolding exec reads
  exec_worn (give a) pc m o h e = quiet (on h)
  exec_worn (refuse why) pc m o h e = quiet (off h)
  exec_worn (act q k) pc m o h e = along q pc (λ v. exec (k v)) (λ v. reads (k v)) h e (λ v. exec_worn (k v))

  -- ---- a step

  takes_worn : (a pc₁ : ℕ) {m o : Mem} → Pair m o → Outs (take_mark a pc₁ m) (take_mark a pc₁ o)
  unfolding take_mark
  takes_worn a pc₁ {m} {o} h =
      let s : Pair (spare m) (spare o) = spare_worn i j w h in
      rw (room_worn i j w s) (outs_pick (room (spare o)) (on (lay_worn i j w (mark_word a) s)) (off s))

  begin_worn : (a : ℕ) (p : Plan) (pc₁ : ℕ) (m o : Mem) → Pair m o → Agree (begin_reads a p pc₁ m)
      → Along (begin a p pc₁ m) (begin a p pc₁ o) (begin_reads a p pc₁ m) (begin_reads a p pc₁ o)
  unfolding begin begin_reads after
  begin_worn a (halt why) pc₁ m o h e = quiet (off h)
  begin_worn a (go r) pc₁ m o h e = then_worn (λ _. exec r) (λ _. reads r) (takes_worn a pc₁ h) e (λ _. exec_worn r)

  -- one pc and one flag beside the memories
  pub data States : State → State → Type 0 where
    at : {pc : ℕ} {v : Source} {m o : Mem} → Pair m o → States (state pc v m) (state pc v o)

  rest_worn : {m o : Mem} → Pair m o → Pair (at_rest m) (at_rest o)
  rest_worn (worn h t) = worn h t

  attempt_worn : {s t : State} → States s t → Agree (attempt_reads s) → Along (attempt instruction s) (attempt instruction t) (attempt_reads s) (attempt_reads t)
  unfolding attempt attempt_reads
  attempt_worn {s} (at {pc} {v} h) e =
      let a : ℕ = address s in
      along next pc (λ op. begin a (plan_of v (class_of op))) (λ op. begin_reads a (plan_of v (class_of op))) (rest_worn h) e (λ op. begin_worn a (plan_of v (class_of op)))

  -- how many stores one that was done has made: a word for each, beside the mark
  count : {a pc₁ : ℕ} {m m₁ : Mem} {ss : List Store} {v : Source} → Tried a m ss (got v pc₁ m₁) → m.older ≡ m.used → length ss ≡ taken m₁ - 1
  count (late h) r = omega (arith, used_after h.makes, older_after h.makes, h.within)

  -- both were done, with as many stores; or both were refused with one answer
  data Replies : Reply → ℕ → Reply → ℕ → Type 0 where
    both_done : {k : ℕ} {s t : State} → States s t → Replies (done s) k (done t) k
    both_refused : {a : Answer} {k l : ℕ} {s t : State} → States s t → Replies (refused a s) k (refused a t) l

  settle_worn : {s t : State} {p q : Out Source} {ss ts : List Store} → States s t → Outs p q → Tried (address s) (at_rest s.mem) ss p
      → Tried (address t) (at_rest t.mem) ts q → Replies (settle s p) (length ss) (settle t q) (length ts)
  settle_worn (at h) (on (worn f g)) a b = rw (count a refl, count b refl) (both_done (at (worn f g)))
  settle_worn (at (worn h l)) (off (worn {u = u} {o} f g)) a b = both_refused (at (worn h (journals_blank i j w (u - o) o g)))

  record Stepped (s t : State) : Type 0 where
    reply : Replies (step instruction s) (length (step_stores instruction s)) (step instruction t) (length (step_stores instruction t))
    read : step_reads s ≡ step_reads t

  pub fits_worn : {s t : State} → States s t → fits s.mem ≡ fits t.mem
  fits_worn (at (worn h t)) = rw (h.lengths, journals_length i j w t)

  step_worn : {s t : State} → States s t → Agree (step_reads s) → Stepped s t
  unfolding step fit_step step_reads
  step_worn {s} {t} h = go (fits s.mem) refl (sym (fits_worn h))
    where
      go : (c : Bool) → fits s.mem ≡ c → fits t.mem ≡ fits s.mem → Agree (step_reads s) → Stepped s t
      go true f g e =
          let x : Along (attempt instruction s) (attempt instruction t) (attempt_reads s) (attempt_reads t) = attempt_worn h (rw f at e) in
          record {
            reply = rw (g, f) (settle_worn h x.ends (tried instruction s (fits_used s.mem f)) (tried instruction t (fits_used t.mem (g ∙ f))));
            read = rw (g, f) x.read;
          }
      go false f g e = record { reply = rw (g, f) (both_refused h); read = rw (g, f) }

  -- ---- a run

  pub data Reports : Report → Report → Type 0 where
    graded : {a : Answer} {k n : ℕ} {s t : State} → States s t → Reports (report a k n s) (report a k n t)

  more_worn : (n : ℕ) {r q : Report} → Reports r q
      → Reports (report r.answer (suc r.steps) (n + r.stores) r.end) (report q.answer (suc q.steps) (n + q.stores) q.end)
  more_worn n (graded h) = graded h

  pub record Ran (n : ℕ) (s t : State) : Type 0 where
    pub report : Reports (steps n s) (steps n t)
    pub read : run_reads n s ≡ run_reads n t

  record Onto (n : ℕ) (p : Reply) (k : ℕ) (q : Reply) (l : ℕ) : Type 0 where
    report : Reports (onto p k (steps n (left p))) (onto q l (steps n (left q)))
    read : reads_onto p (run_reads n (left p)) ≡ reads_onto q (run_reads n (left q))

  onto_worn : (n : ℕ) {p q : Reply} {k l : ℕ} → Replies p k q l → Agree (reads_onto p (run_reads n (left p)))
      → ((s t : State) → States s t → Agree (run_reads n s) → Ran n s t) → Onto n p k q l
  onto_worn n (both_done {k} {s} {t} h) e f = record { report = more_worn k (f s t h e).report; read = (f s t h e).read }
  onto_worn n (both_refused h) e f = record { report = graded h; read = refl }

  pub steps_worn : (n : ℕ) (s t : State) → States s t → Agree (run_reads n s) → Ran n s t
  unfolding steps run_reads
  steps_worn zero s t h e = record { report = graded h; read = refl }
  steps_worn (suc n) s t h e =
      let one : Stepped s t = step_worn h (agree_first (step_reads s) _ e) in
      let rest : Onto n (step instruction s) (length (step_stores instruction s)) (step instruction t) (length (step_stores instruction t)) =
      onto_worn n one.reply (agree_second (step_reads s) _ e) (steps_worn n) in
      record { report = rest.report; read = ap₂ (λ (x y : List ℕ). x ++ y) one.read rest.read }
