-- What rules send: one after the other, each what it sends; one without a send, nothing; a tick with more room, the same unless 26 refuses it.
use mathlib.Core.Path.{◌≡◌, refl, ◌∙◌, ap, sym}
use mathlib.Core.Bool.{Bool, true, false}
use mathlib.Core.List.{List, [], ◌++◌, append_assoc}
use Prim.Native.Nat.{ℕ, zero, suc, ◌+◌, ◌-◌, ◌≤◌}
use native.Mathlib.Nat.{not-suc-le-zero}
use native.Mathlib.Omega.{arith}
use lib.Dec.{ltb, eqb}
use borrow.Author.Tests.{lt-ltb}
use Rattle.rules.specs.Machine.{pick, Kind, cpu, vdp, grom, Mem, sub_pointer, list_cell, count_cell}
use Rattle.rules.specs.Answers.{Why, number, off_stack, output_full}
use Rattle.rules.specs.Rules.{Act, ask, load, Rule, give, refuse, act, ◌>>=◌, Out, got, stopped, then, perform, exec, after, valued}
use Rattle.rules.specs.Rules.{act_sent, sent_then, sent, sends, need, peek, peek_word, poke, emit}
use Rattle.rules.specs.Operands.{poke_word}
use Rattle.rules.specs.Instructions.{raise, push_pc, pop_pc}
use Rattle.rules.specs.Sound.{Source, further, list_byte, send_next, send_bytes, send_block, leap, block, opened, closed, due_block, count_down, tick_rule}

-- ---- the laws by which a function that calls others in a row sends what the rule that lists them does

sent_then_then : {A B : Type 0} (o : Out A) (w x : A → ℕ → Mem → List ℕ) (g : A → ℕ → Mem → Out B) (y : B → ℕ → Mem → List ℕ)
    → ((a : A) (pc : ℕ) (m : Mem) → w a pc m ≡ x a pc m ++ sent_then (g a pc m) y) → sent_then o w ≡ sent_then o x ++ sent_then (then o g) y
sent_then_then (got a pc m) w x g y h = h a pc m
sent_then_then (stopped n m) w x g y h = refl

pub sent_then_lem : {A B : Type 0} (r : Rule A) (f : A → Rule B) (pc : ℕ) (m : Mem)
    → sent (r >>= f) pc m ≡ sent r pc m ++ sent_then (exec r pc m) (λ a pc₁ m₁. sent (f a) pc₁ m₁)
unfolding exec sent ◌>>=◌
sent_then_lem (give a) f pc m = refl
sent_then_lem (refuse why) f pc m = refl
sent_then_lem (act q k) f pc m =
    ap (λ (l : List ℕ). act_sent q ++ l)
    (sent_then_then (perform q pc m) (λ v. sent (k v >>= f)) (λ v. sent (k v)) (λ v. exec (k v)) (λ a. sent (f a)) (λ v. sent_then_lem (k v) f))
    ∙ sym (append_assoc (act_sent q) _ _)

sends_then : {A B C : Type 0} (o : Out A) (r : Rule B) (f : B → Rule C)
    → sends o (r >>= f) ≡ sends o r ++ sent_then (after o r) (λ a pc m. sent (f a) pc m)
unfolding sends after
sends_then (got a pc m) r f = sent_then_lem r f pc m
sends_then (stopped n m) r f = refl

sent_then_valued : {A B : Type 0} (v : A) (o : Out (Unit {0})) (f : A → Rule B) → sent_then (valued v o) (λ a pc m. sent (f a) pc m) ≡ sends o (f v)
unfolding sends valued
sent_then_valued v (got a pc m) f = refl
sent_then_valued v (stopped n m) f = refl

-- a call whose value is used, and then another
pub sends_bind : {A B C : Type 0} (o : Out A) (v : B) (o₁ : Out (Unit {0})) (r : Rule B) (f : B → Rule C)
    → valued v o₁ ≡ after o r → sends o (r >>= f) ≡ sends o r ++ sends o₁ (f v)
sends_bind {B = B} o v o₁ r f e =
    sends_then o r f ∙ ap (λ (x : Out B). sends o r ++ sent_then x (λ a pc m. sent (f a) pc m)) (sym e) ∙ ap (λ (l : List ℕ). sends o r ++ l) (sent_then_valued v o₁ f)

-- a call, and then another
pub sends_seq : {A B C : Type 0} (o : Out A) (o₁ : Out B) (r : Rule B) (s : Rule C)
    → o₁ ≡ after o r → sends o (r >>= (λ _. s)) ≡ sends o r ++ sends o₁ s
unfolding sends
sends_seq {B = B} o o₁ r s e = sends_then o r (λ _. s) ∙ ap (λ (x : Out B). sends o r ++ sent_then x (λ a pc m. sent s pc m)) (sym e)

-- ---- rules without a send

-- it sends nothing, and 26 isn't its answer
pub data Quiet {A : Type 0} : Rule A → Type 0 where
  gives : {a : A} → Quiet (give a)
  refuses : {why : Why} → (number why ≡ number output_full → ⊥) → Quiet (refuse why)
  looks : {q : Act} {k : ℕ → Rule A} → act_sent q ≡ [] → ((v : ℕ) → Quiet (k v)) → Quiet (act q k)

nothing_then : (o : Out ℕ) (x : ℕ → ℕ → Mem → List ℕ) → ((v pc : ℕ) (m : Mem) → x v pc m ≡ []) → sent_then o x ≡ []
nothing_then (got a pc m) x h = h a pc m
nothing_then (stopped n m) x h = refl

pub quiet_sent : {A : Type 0} {r : Rule A} → Quiet r → (pc : ℕ) (m : Mem) → sent r pc m ≡ []
unfolding sent
quiet_sent gives pc m = refl
quiet_sent (refuses h) pc m = refl
quiet_sent (looks {q} {k} e h) pc m = rw e (nothing_then (perform q pc m) (λ v. sent (k v)) (λ v. quiet_sent (h v)))

pub quiet_sends : {A B : Type 0} (o : Out A) {r : Rule B} → Quiet r → sends o r ≡ []
unfolding sends
quiet_sends (got a pc m) h = quiet_sent h pc m
quiet_sends (stopped n m) h = refl

pub quiet_then : {A B : Type 0} {r : Rule A} (f : A → Rule B) → Quiet r → ((a : A) → Quiet (f a)) → Quiet (r >>= f)
unfolding ◌>>=◌
quiet_then f (gives {a}) k = k a
quiet_then f (refuses h) k = refuses h
quiet_then f (looks e h) k = looks e (λ v. quiet_then f (h v) k)

pub quiet_pick : {A : Type 0} (c : Bool) {r s : Rule A} → Quiet r → Quiet s → Quiet (pick c r s)
quiet_pick true h k = h
quiet_pick false h k = k

pub quiet_need : (c : Bool) (why : Why) → (number why ≡ number output_full → ⊥) → Quiet (need c why)
unfolding need
quiet_need true why h = gives
quiet_need false why h = refuses h

pub quiet_act : (q : Act) → act_sent q ≡ [] → Quiet (act q give)
quiet_act q e = looks e (λ v. gives)

pub quiet_peek : (k : Kind) (a : ℕ) → Quiet (peek k a)
unfolding act_sent
quiet_peek k a = quiet_act (load k a) refl

pub quiet_poke : (k : Kind) (a b : ℕ) → Quiet (poke k a b)
unfolding act_sent
quiet_poke k a b = looks refl (λ v. gives)

pub quiet_byte : (v : Source) (a : ℕ) → Quiet (list_byte v a)
unfolding list_byte
quiet_byte v a = quiet_pick v (quiet_peek vdp a) (quiet_peek grom a)

pub quiet_word : (a : ℕ) → Quiet (peek_word cpu a)
unfolding peek_word
quiet_word a = quiet_then _ (quiet_peek cpu a) (λ x. quiet_then _ (quiet_peek cpu (a + 1)) (λ y. gives))

pub quiet_poke_word : (k : Kind) (a w : ℕ) → Quiet (poke_word k a w)
unfolding poke_word
quiet_poke_word k a w = quiet_then _ (quiet_poke k a _) (λ _. quiet_poke k (a + 1) _)

pub quiet_push : Quiet push_pc
unfolding push_pc raise act_sent
quiet_push =
    quiet_then _
    (quiet_then _ (quiet_peek cpu sub_pointer)
    (λ p. quiet_then _ (quiet_need _ off_stack (λ e. omega arith)) (λ _. quiet_then _ (quiet_poke cpu sub_pointer _) (λ _. gives))))
    (λ p. quiet_then _ (quiet_act ask refl) (λ pc. quiet_poke_word cpu p pc))

pub quiet_pop : Quiet pop_pc
unfolding pop_pc act_sent
quiet_pop =
    quiet_then _ (quiet_peek cpu sub_pointer) (λ p. quiet_then _ (quiet_need _ off_stack (λ e. omega arith))
    (λ _. quiet_then _ (quiet_word p) (λ w. quiet_then _ (quiet_poke cpu sub_pointer _) (λ _. looks refl (λ _. gives)))))

pub quiet_leap : (v : Source) (a : ℕ) (to : Source) → Quiet (leap v a to)
unfolding leap
quiet_leap v a to = quiet_then _ (quiet_byte v _) (λ x. quiet_then _ (quiet_byte v _) (λ y. gives))

pub quiet_opened : (v : Source) → Quiet (opened v)
unfolding opened
quiet_opened v = quiet_pick v gives quiet_push

pub quiet_closed : (v : Source) → Quiet (closed v)
unfolding closed
quiet_closed v = quiet_pick v gives quiet_pop

-- ---- one rule does what another does, unless 26 refuses it

pub data Wider {A : Type 0} : Rule A → Rule A → Type 0 where
  alike : {r : Rule A} → Wider r r
  full : {r : Rule A} → Wider (refuse output_full) r
  acts : {q : Act} {f g : ℕ → Rule A} → ((v : ℕ) → Wider (f v) (g v)) → Wider (act q f) (act q g)

wider_same : {A B : Type 0} (r : Rule A) (f g : A → Rule B) → ((a : A) → Wider (f a) (g a)) → Wider (r >>= f) (r >>= g)
unfolding ◌>>=◌
wider_same (give a) f g h = h a
wider_same (refuse why) f g h = alike
wider_same (act q k) f g h = acts (λ v. wider_same (k v) f g h)

wider_then : {A B : Type 0} {r s : Rule A} (f g : A → Rule B) → Wider r s → ((a : A) → Wider (f a) (g a)) → Wider (r >>= f) (s >>= g)
unfolding ◌>>=◌
wider_then {r = r} f g alike k = wider_same r f g k
wider_then f g full k = full
wider_then f g (acts h) k = acts (λ v. wider_then f g (h v) k)

wider_bind : {A B : Type 0} {r s : Rule A} (f : A → Rule B) → Wider r s → Wider (r >>= f) (s >>= f)
wider_bind f h = wider_then f f h (λ a. alike)

wider_pick : {A : Type 0} (c : Bool) {r s r₂ s₂ : Rule A} → Wider r r₂ → Wider s s₂ → Wider (pick c r s) (pick c r₂ s₂)
wider_pick true h k = h
wider_pick false h k = k

wider_need : (n k : ℕ) → n ≤ k → Wider (need (ltb 0 n) output_full) (need (ltb 0 k) output_full)
unfolding need
wider_need zero k l = full
wider_need (suc n) zero l = absurd (not-suc-le-zero l)
wider_need (suc n) (suc k) l = rw (lt-ltb 0 (suc n) (omega arith), lt-ltb 0 (suc k) (omega arith)) alike

wider_next : (n k : ℕ) (v : Source) (a : ℕ) → n ≤ k → Wider (send_next n v a) (send_next k v a)
unfolding send_next
wider_next n k v a l = wider_same (list_byte v a) _ _ (λ b. wider_bind (λ _. emit b) (wider_need n k l))

wider_bytes : (n k : ℕ) (v : Source) (a c : ℕ) → n ≤ k → Wider (send_bytes n v a c) (send_bytes k v a c)
unfolding send_bytes
wider_bytes n k v a zero l = alike
wider_bytes n k v a (suc c) l = wider_then _ _ (wider_next n k v a l) (λ _. wider_bytes (n - 1) (k - 1) v (further a 1) c (omega arith))

wider_block : (n k : ℕ) (v : Source) (a c : ℕ) → n ≤ k → Wider (block n v a c) (block k v a c)
unfolding block send_block
wider_block n k v a c l = wider_pick (eqb c 0) alike (wider_pick (eqb c 0xFF) alike (wider_bind _ (wider_bytes n k v (further a 1) c l)))

wider_due : (n k : ℕ) (v : Source) → n ≤ k → Wider (due_block n v) (due_block k v)
unfolding due_block
wider_due n k v l =
    wider_same (peek_word cpu list_cell) _ _
    (λ a. wider_same (opened v) _ _ (λ _. wider_same (list_byte v a) _ _ (λ c. wider_bind _ (wider_block n k v a c l))))

pub wider_tick : (n k : ℕ) (v : Source) → n ≤ k → Wider (tick_rule n v) (tick_rule k v)
unfolding tick_rule count_down
wider_tick n k v l =
    wider_same (peek cpu count_cell) _ _
    (λ c. wider_pick (eqb c 0) alike (wider_same (poke cpu count_cell (c - 1)) _ _ (λ _. wider_pick (eqb (c - 1) 0) (wider_due n k v l) alike)))

-- so of what they do, and send
abbrev pub NotFull : {A : Type 0} → Out A → Type 0
NotFull (got a pc m) = Unit {0}
NotFull (stopped n m) = n.number ≡ number output_full → ⊥

pub agree_then : {A B : Type 0} (o : Out A) (f g : A → ℕ → Mem → Out B) (x y : A → ℕ → Mem → List ℕ) → NotFull (then o f)
    → ((a : A) (pc : ℕ) (m : Mem) → NotFull (f a pc m) → (g a pc m ≡ f a pc m) × (y a pc m ≡ x a pc m))
    → (then o g ≡ then o f) × (sent_then o y ≡ sent_then o x)
agree_then (got a pc m) f g x y h k = k a pc m h
agree_then (stopped n m) f g x y h k = (refl, refl)

pub wider_agrees : {A : Type 0} {r s : Rule A} → Wider r s → (pc : ℕ) (m : Mem) → NotFull (exec r pc m)
    → (exec s pc m ≡ exec r pc m) × (sent s pc m ≡ sent r pc m)
unfolding exec sent
wider_agrees alike pc m h = (refl, refl)
wider_agrees full pc m h = absurd (h refl)
wider_agrees (acts {q} {f} {g} k) pc m h =
    let z : _ = agree_then (perform q pc m) (λ v. exec (f v)) (λ v. exec (g v)) (λ v. sent (f v)) (λ v. sent (g v)) h (λ v. wider_agrees (k v)) in
    (z.0, ap (λ (l : List ℕ). act_sent q ++ l) z.1)
