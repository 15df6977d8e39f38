-- One rule after the other: the laws by which a function that calls others in a row follows the rule that lists them in a row.
use mathlib.Core.Path.{◌≡◌, refl, ◌∙◌, ap, sym}
use mathlib.Core.Bool.{Bool, true, false}
use Prim.Native.Nat.{ℕ, ◌%◌}
use native.Mathlib.Omega.{arith}
use Rattle.rules.specs.Machine.{Kind, Mem, pick}
use Rattle.rules.specs.Answers.{Why}
use Rattle.rules.specs.Rules.{Rule, give, refuse, act, ◌>>=◌, Out, got, stopped, then, perform, exec, after, valued, poke, need}

then_then : {A B C : Type 0} (o : Out A) (g : A → ℕ → Mem → Out B) (h : B → ℕ → Mem → Out C) (w : A → ℕ → Mem → Out C)
    → ((a : A) (pc : ℕ) (m : Mem) → w a pc m ≡ then (g a pc m) h) → then o w ≡ then (then o g) h
then_then (got a pc m) g h w e = e a pc m
then_then (stopped n m) g h w e = refl

-- a rule and then another, on the machine: by induction on the first
pub exec_then : {A B : Type 0} (r : Rule A) (f : A → Rule B) (pc : ℕ) (m : Mem)
    → exec (r >>= f) pc m ≡ then (exec r pc m) (λ a pc₁ m₁. exec (f a) pc₁ m₁)
unfolding exec ◌>>=◌
exec_then (give a) f pc m = refl
exec_then (refuse why) f pc m = refl
exec_then (act q k) f pc m =
    then_then (perform q pc m) (λ v. exec (k v)) (λ a. exec (f a)) (λ v. exec (k v >>= f)) (λ v. exec_then (k v) f)

-- ---- a call whose value is used

after_bind : {A B C : Type 0} (o : Out A) (r : Rule B) (f : B → Rule C)
    → after o (r >>= f) ≡ then (after o r) (λ a pc m. exec (f a) pc m)
unfolding after
after_bind (got a pc m) r f = exec_then r f pc m
after_bind (stopped n m) r f = refl

then_valued : {A B : Type 0} (v : A) (o : Out (Unit {0})) (f : A → Rule B) → then (valued v o) (λ a pc m. exec (f a) pc m) ≡ after o (f v)
unfolding after valued
then_valued v (got a pc m) f = refl
then_valued v (stopped n m) f = refl

pub bind : {A B C : Type 0} (o : Out A) (v : B) (o₁ : Out (Unit {0})) (o₂ : Out C) (r : Rule B) (f : B → Rule C)
    → valued v o₁ ≡ after o r → o₂ ≡ after o₁ (f v) → o₂ ≡ after o (r >>= f)
bind {B = B} o v o₁ o₂ r f e h =
    h ∙ sym (then_valued v o₁ f) ∙ ap (λ (x : Out B). then x (λ a pc m. exec (f a) pc m)) e ∙ sym (after_bind o r f)

-- ---- a value that is only made

pub gives : {A : Type 0} (o : Out (Unit {0})) (v w : A) → v ≡ w → valued v o ≡ after o (give w)
unfolding after exec valued
gives (got a pc m) v w e = rw e refl
gives (stopped n m) v w e = refl

-- ---- a test

-- one side of a rule that goes by a test
pub picked : {A : Type 0} (c : Bool) (r s : Rule A) → c ≡ true → pick c r s ≡ r
picked c r s e = rw e

pub passed_over : {A : Type 0} (c : Bool) (r s : Rule A) → c ≡ false → pick c r s ≡ s
passed_over c r s e = rw e

-- a need that is met asks nothing, and one that is not refuses
pub need_met : (c : Bool) (why : Why) → c ≡ true → need c why ≡ give tt
unfolding need
need_met c why e = rw e

pub need_unmet : (c : Bool) (why : Why) → c ≡ false → need c why ≡ refuse why
unfolding need
need_unmet c why e = rw e

-- ---- a need, and the rest

-- which may have any number that is the rule's where the test holds: where it does not, nothing more is done
pub needed : {A : Type 0} (c : Bool) (why : Why) (f : ℕ → Rule A) (a b : ℕ) → (c ≡ true → a ≡ b) → (need c why >>= (λ _. f b)) ≡ (need c why >>= (λ _. f a))
unfolding need ◌>>=◌
needed true why f a b h = ap f (sym (h refl))
needed false why f a b h = refl

-- ---- a store keeps a byte of what it is given

pub kept_byte : {A : Type 0} (o : Out A) (k : Kind) (a b c : ℕ) → c ≡ b % 256 → after o (poke k a c) ≡ after o (poke k a b)
unfolding after exec perform
kept_byte (got x pc m) k a b c e =
    let z : c % 256 ≡ b % 256 = omega arith in
    rw z
kept_byte (stopped n m) k a b c e = refl
