-- What every rule keeps, said once, of two machines side by side: what each action, the mark and each refusal keep, a whole step keeps.
-- By induction on the rule. What is kept by one machine is the case of a machine beside itself.
use mathlib.Core.Path.{◌≡◌, refl, ◌∙◌, ap, ap₂, subst}
use mathlib.Core.Bool.{Bool, true, false}
use Prim.Native.Nat.{ℕ}
use Rattle.rules.specs.Machine.{pick, Mem, State, flagged, address, at_rest}
use Rattle.rules.specs.Answers.{Why, Answer, answer_for}
use Rattle.rules.specs.Rules.{Act, next, Rule, give, refuse, act, Out, got, stopped, then, perform, exec, after}
use Rattle.rules.specs.Opcodes.{class_of}
use Rattle.rules.specs.Sound.{Source, tick_rule}
use Rattle.rules.specs.Tasks.{Plan, halt, go, plan_of}
use Rattle.rules.specs.Calls.{Way, instruction, tick, take_mark, begin, attempt}

-- where a rule acts: of a state, all but the source flag, which no action sees
pub record Point : Type 0 where
  pub pc : ℕ
  pub mem : Mem

abbrev pub point : ℕ → Mem → Point
point pc m = record { pc = pc; mem = m }

-- ---- of two machines

-- both went on with one value, and Q is so of where they are; or both were refused with one answer, and F is so of it and the memories
pub data Both (Q : Point → Point → Type 0) (F : Answer → Mem → Mem → Type 0) {A : Type 0} : Out A → Out A → Type 0 where
  on : {a : A} {pc pc₁ : ℕ} {m m₁ : Mem} → Q (point pc m) (point pc₁ m₁) → Both Q F (got a pc m) (got a pc₁ m₁)
  off : {a : Answer} {m m₁ : Mem} → F a m m₁ → Both Q F (stopped a m) (stopped a m₁)

pub record Keeps (Q : Point → Point → Type 0) (F : Answer → Mem → Mem → Type 0) : Type 0 where
  pub acts : (q : Act) (s t : Point) → Q s t → Both Q F (perform q s.pc s.mem) (perform q t.pc t.mem)
  pub marks : (a : ℕ) (s t : Point) → Q s t → Both Q F (take_mark a s.pc s.mem) (take_mark a t.pc t.mem)
  pub refuses : (why : Why) (s t : Point) → Q s t → F (answer_for why) s.mem t.mem

-- a state in which no step is being made: every attempt begins so
abbrev pub rested : State → Point
rested s = point s.pc (at_rest s.mem)

-- an attempt, by the address and the flag of its mark
from : Way → ℕ → Source → State → Out Source
from instruction a v s = then (perform next s.pc (at_rest s.mem)) (λ op pc₁ m. begin a (plan_of v (class_of op)) pc₁ m)
from (tick n) a v s = begin a (go (tick_rule n v)) s.pc (at_rest s.mem)

attempt_from : (w : Way) (s : State) → from w (address s) s.source s ≡ attempt w s
unfolding from attempt
attempt_from instruction s = refl
attempt_from (tick n) s = refl

module _ {Q : Point → Point → Type 0} {F : Answer → Mem → Mem → Type 0} where
  then_keeps : {A B : Type 0} {o p : Out A} (f g : A → ℕ → Mem → Out B) → Both Q F o p
      → ((a : A) (s t : Point) → Q s t → Both Q F (f a s.pc s.mem) (g a t.pc t.mem)) → Both Q F (then o f) (then p g)
  then_keeps f g (on {a} {pc} {pc₁} {m} {m₁} h) k = k a (point pc m) (point pc₁ m₁) h
  then_keeps f g (off h) k = off h

  module _ (keeps : Keeps Q F) where
    pub exec_keeps : {A : Type 0} (r : Rule A) (s t : Point) → Q s t → Both Q F (exec r s.pc s.mem) (exec r t.pc t.mem)
    unfolding exec
    exec_keeps (give a) s t h = on h
    exec_keeps (refuse why) s t h = off (keeps.refuses why s t h)
    exec_keeps (act q k) s t h = then_keeps (λ v. exec (k v)) (λ v. exec (k v)) (keeps.acts q s t h) (λ v. exec_keeps (k v))

    begin_keeps : (a : ℕ) (p : Plan) (s t : Point) → Q s t → Both Q F (begin a p s.pc s.mem) (begin a p t.pc t.mem)
    unfolding begin after
    begin_keeps a (halt why) s t h = off (keeps.refuses why s t h)
    begin_keeps a (go r) s t h = then_keeps (λ _. exec r) (λ _. exec r) (keeps.marks a s t h) (λ _. exec_keeps r)

    from_keeps : (w : Way) (a : ℕ) (v : Source) (s t : State) → Q (rested s) (rested t) → Both Q F (from w a v s) (from w a v t)
    unfolding from
    from_keeps instruction a v s t h =
        then_keeps (λ op. begin a (plan_of v (class_of op))) (λ op. begin a (plan_of v (class_of op))) (keeps.acts next (rested s) (rested t) h)
        (λ op. begin_keeps a (plan_of v (class_of op)))
    from_keeps (tick n) a v s t h = begin_keeps a (go (tick_rule n v)) (rested s) (rested t) h

    pub attempt_keeps : (w : Way) (s t : State) → s.pc ≡ t.pc → s.source ≡ t.source → Q (rested s) (rested t) → Both Q F (attempt w s) (attempt w t)
    attempt_keeps w s t e f h =
        subst (λ (o : Out Source). Both Q F o (attempt w t)) (attempt_from w s)
        (subst (Both Q F (from w (address s) s.source s)) (ap₂ (λ (pc : ℕ) (v : Source). from w (flagged pc v) v t) e f ∙ attempt_from w t)
        (from_keeps w (address s) s.source s t h))

-- ---- of one machine

-- it went on, and P is so of where it is; or it was refused with an answer of which F is so
abbrev pub Held : (Point → Type 0) → (Answer → Type 0) → {A : Type 0} → Out A → Type 0
Held P F (got a pc m) = P (point pc m)
Held P F (stopped a m) = F a

pub by_test : (P : Point → Type 0) (F : Answer → Type 0) {A : Type 0} (c : Bool) (x y : Out A) → Held P F x → Held P F y → Held P F (pick c x y)
by_test P F true x y h k = h
by_test P F false x y h k = k

pub record Holds (P : Point → Type 0) (F : Answer → Type 0) : Type 0 where
  pub acts : (q : Act) (s : Point) → P s → Held P F (perform q s.pc s.mem)
  pub marks : (a : ℕ) (s : Point) → P s → Held P F (take_mark a s.pc s.mem)
  pub refuses : (why : Why) → F (answer_for why)

module _ {P : Point → Type 0} {F : Answer → Type 0} (holds : Holds P F) where
  abbrev Itself : Point → Point → Type 0
  Itself s t = (s ≡ t) × P s

  abbrev Same : Answer → Mem → Mem → Type 0
  Same a m m₁ = (m ≡ m₁) × F a

  beside_itself : {A : Type 0} (o : Out A) → Held P F o → Both Itself Same o o
  beside_itself (got a pc m) h = on (refl, h)
  beside_itself (stopped n m) h = off (refl, h)

  first_held : {A : Type 0} (o x : Out A) → Both Itself Same o x → Held P F o
  first_held (got a pc m) (got b pc₁ m₁) (on h) = h.1
  first_held (stopped n m) (stopped n₁ m₁) (off h) = h.1
  first_held (got a pc m) (stopped n m₁) h = elim h [ ]
  first_held (stopped n m) (got b pc m₁) h = elim h [ ]

  alone : {A : Type 0} (o : Out A) → Both Itself Same o o → Held P F o
  alone o h = first_held o o h

  keeps_itself : Keeps Itself Same
  keeps_itself =
      record {
        acts = λ q s t h. subst (λ (x : Point). Both Itself Same (perform q s.pc s.mem) (perform q x.pc x.mem)) h.0
            (beside_itself (perform q s.pc s.mem) (holds.acts q s h.1));
        marks = λ a s t h. subst (λ (x : Point). Both Itself Same (take_mark a s.pc s.mem) (take_mark a x.pc x.mem)) h.0
            (beside_itself (take_mark a s.pc s.mem) (holds.marks a s h.1));
        refuses = λ why s t h. (ap (λ (x : Point). x.mem) h.0, holds.refuses why);
      }

  pub exec_holds : {A : Type 0} (r : Rule A) (s : Point) → P s → Held P F (exec r s.pc s.mem)
  exec_holds r s h = alone (exec r s.pc s.mem) (exec_keeps keeps_itself r s s (refl, h))

  pub attempt_holds : (w : Way) (s : State) → P (rested s) → Held P F (attempt w s)
  attempt_holds w s h = alone (attempt w s) (attempt_keeps keeps_itself w s s refl refl (refl, h))
