-- What rules read of the image: one after the other, each what it reads; one that does not look there, nothing. And the map, in which each marks its own.
use mathlib.Core.Path.{◌≡◌, refl, ◌∙◌, ap, sym}
use mathlib.Core.Bool.{Bool, true, false}
use mathlib.Core.List.{List, [], ◌∷◌, ◌++◌, append_assoc}
use Prim.Native.Nat.{ℕ}
use lib.ListN.{length, set, length-set}
use Rattle.rules.specs.Machine.{Kind, Mem}
use Rattle.rules.specs.Answers.{Why}
use Rattle.rules.specs.Rules.{Act, Rule, give, refuse, act, ◌>>=◌, Out, got, stopped, then, perform, exec, after, valued, need, poke}
use Rattle.rules.specs.Reads.{act_reads, reads_then, reads, reads_after, marked}

-- ---- one rule after the other

reads_then_then : {A B : Type 0} (o : Out A) (w x : A → ℕ → Mem → List ℕ) (g : A → ℕ → Mem → Out B) (y : B → ℕ → Mem → List ℕ)
    → ((a : A) (pc : ℕ) (m : Mem) → w a pc m ≡ x a pc m ++ reads_then (g a pc m) y) → reads_then o w ≡ reads_then o x ++ reads_then (then o g) y
reads_then_then (got a pc m) w x g y h = h a pc m
reads_then_then (stopped n m) w x g y h = refl

pub reads_then_lem : {A B : Type 0} (r : Rule A) (f : A → Rule B) (pc : ℕ) (m : Mem)
    → reads (r >>= f) pc m ≡ reads r pc m ++ reads_then (exec r pc m) (λ a pc₁ m₁. reads (f a) pc₁ m₁)
unfolding exec reads ◌>>=◌
reads_then_lem (give a) f pc m = refl
reads_then_lem (refuse why) f pc m = refl
reads_then_lem (act q k) f pc m =
    ap (λ (l : List ℕ). act_reads q pc m ++ l)
    (reads_then_then (perform q pc m) (λ v. reads (k v >>= f)) (λ v. reads (k v)) (λ v. exec (k v)) (λ a. reads (f a)) (λ v. reads_then_lem (k v) f))
    ∙ sym (append_assoc (act_reads q pc m) _ _)

reads_after_then : {A B C : Type 0} (o : Out A) (r : Rule B) (f : B → Rule C)
    → reads_after o (r >>= f) ≡ reads_after o r ++ reads_then (after o r) (λ a pc m. reads (f a) pc m)
unfolding reads_after after
reads_after_then (got a pc m) r f = reads_then_lem r f pc m
reads_after_then (stopped n m) r f = refl

reads_then_valued : {A B : Type 0} (v : A) (o : Out (Unit {0})) (f : A → Rule B) → reads_then (valued v o) (λ a pc m. reads (f a) pc m) ≡ reads_after o (f v)
unfolding reads_after valued
reads_then_valued v (got a pc m) f = refl
reads_then_valued v (stopped n m) f = refl

-- a call whose value is used, and then another
reads_bind : {A B C : Type 0} (o : Out A) (v : B) (o₁ : Out (Unit {0})) (r : Rule B) (f : B → Rule C)
    → valued v o₁ ≡ after o r → reads_after o (r >>= f) ≡ reads_after o r ++ reads_after o₁ (f v)
reads_bind {B = B} o v o₁ r f e =
    reads_after_then o r f ∙ ap (λ (x : Out B). reads_after o r ++ reads_then x (λ a pc m. reads (f a) pc m)) (sym e)
    ∙ ap (λ (l : List ℕ). reads_after o r ++ l) (reads_then_valued v o₁ f)

-- ---- the map

pub marked_append : (k l z : List ℕ) → marked (k ++ l) z ≡ marked l (marked k z)
unfolding marked
marked_append [] l z = refl
marked_append (a ∷ k) l z = marked_append k l (set z a 1)

pub marked_length : (l z : List ℕ) → length (marked l z) ≡ length z
unfolding marked
marked_length [] z = refl
marked_length (a ∷ l) z = marked_length l (set z a 1) ∙ length-set z a 1

-- what the two calls mark, the rule of both marks
pub marks_bind : {A B C : Type 0} (o : Out A) (v : B) (o₁ : Out (Unit {0})) (r : Rule B) (f : B → Rule C) (z : List ℕ) {y x : List ℕ}
    → valued v o₁ ≡ after o r → y ≡ marked (reads_after o r) z → x ≡ marked (reads_after o₁ (f v)) y → x ≡ marked (reads_after o (r >>= f)) z
marks_bind o v o₁ r f z e g h =
    h ∙ ap (marked (reads_after o₁ (f v))) g ∙ sym (marked_append (reads_after o r) (reads_after o₁ (f v)) z)
    ∙ ap (λ (l : List ℕ). marked l z) (sym (reads_bind o v o₁ r f e))

-- ---- rules that don't look at the image

pub data Blind {A : Type 0} : Rule A → Type 0 where
  gives : {a : A} → Blind (give a)
  refuses : {why : Why} → Blind (refuse why)
  acts : {q : Act} {k : ℕ → Rule A} → ((pc : ℕ) (m : Mem) → act_reads q pc m ≡ []) → ((v : ℕ) → Blind (k v)) → Blind (act q k)

nothing_then : (o : Out ℕ) (x : ℕ → ℕ → Mem → List ℕ) → ((v pc : ℕ) (m : Mem) → x v pc m ≡ []) → reads_then o x ≡ []
nothing_then (got a pc m) x h = h a pc m
nothing_then (stopped n m) x h = refl

blind_reads : {A : Type 0} {r : Rule A} → Blind r → (pc : ℕ) (m : Mem) → reads r pc m ≡ []
unfolding reads
blind_reads gives pc m = refl
blind_reads refuses pc m = refl
blind_reads (acts {q} {k} e h) pc m = rw (e pc m) (nothing_then (perform q pc m) (λ v. reads (k v)) (λ v. blind_reads (h v)))

blind_after : {A B : Type 0} (o : Out A) {r : Rule B} → Blind r → reads_after o r ≡ []
unfolding reads_after
blind_after (got a pc m) h = blind_reads h pc m
blind_after (stopped n m) h = refl

-- they leave the map
pub blind_marks : {A B : Type 0} (o : Out A) {r : Rule B} (z : List ℕ) → Blind r → z ≡ marked (reads_after o r) z
unfolding marked
blind_marks o z h = rw (blind_after o h)

pub blind_need : (c : Bool) (why : Why) → Blind (need c why)
unfolding need
blind_need true why = gives
blind_need false why = refuses

pub blind_poke : (k : Kind) (a b : ℕ) → Blind (poke k a b)
unfolding act_reads
blind_poke k a b = acts (λ pc m. refl) (λ v. gives)
