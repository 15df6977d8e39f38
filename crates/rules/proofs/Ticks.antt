-- A tick and its output: more room changes nothing in a tick that 26 doesn't refuse, it never sends more than there is room for, and 26 is given only
-- where the output is full. By induction on what is left of the rule and of the room.
use mathlib.Core.Path.{◌≡◌, refl, ◌∙◌, ap, sym, subst}
use mathlib.Core.Bool.{Bool, true, false}
use mathlib.Core.List.{List, [], ◌∷◌}
use Prim.Native.Nat.{ℕ, zero, suc, ◌-◌, ◌≤◌}
use native.Mathlib.Omega.{arith}
use lib.Dec.{ltb, eqb}
use lib.ListN.{length}
use borrow.Author.Tests.{lt-ltb}
use Rattle.rules.specs.Machine.{pick, Kind, cpu, vdp, register, grom, extent, writable, Mem, area, State, address, at_rest, list_cell, count_cell}
use Rattle.rules.specs.Answers.{Why, answer_for, number, no_room, outside, output_full}
use Rattle.rules.specs.Rules.{Act, next, ask, jump, load, store, send, Rule, give, refuse, act, ◌>>=◌, Out, got, stopped, then, room, spare, perform, exec}
use Rattle.rules.specs.Rules.{after, act_sent, sent_then, sent, sends, need, emit}
use Rattle.rules.specs.Sound.{Source, further, other, send_next, send_bytes, send_block, block, due_block, count_down, tick_rule}
use Rattle.rules.specs.Calls.{tick, fits, Reply, answer, take_mark, begin, attempt, settle, fit_step, step, tick_sent}
use Rattle.rules.proofs.Sending.{Quiet, gives, refuses, looks, quiet_then, quiet_peek, quiet_poke, quiet_byte, quiet_word, quiet_poke_word, quiet_leap}
use Rattle.rules.proofs.Sending.{quiet_opened, quiet_closed, wider_tick, NotFull, agree_then, wider_agrees}
use Rattle.rules.proofs.Fits.{step_fit, step_unfit}

-- ---- more room

module _ (s : State) (n k : ℕ) (l : n ≤ k) where
  roomier : NotFull (attempt (tick n) s) → (attempt (tick k) s ≡ attempt (tick n) s) × (tick_sent k s ≡ tick_sent n s)
  unfolding attempt begin after tick_sent sends
  roomier h =
      agree_then (take_mark (address s) s.pc (at_rest s.mem)) (λ _. exec (tick_rule n s.source)) (λ _. exec (tick_rule k s.source))
      (λ _. sent (tick_rule n s.source)) (λ _. sent (tick_rule k s.source)) h (λ _. wider_agrees (wider_tick n k s.source l))

  not_full : (o : Out Source) → ((answer (settle s o)).number ≡ number output_full → ⊥) → NotFull o
  not_full (got a pc m) h = tt
  not_full (stopped x m) h = h

  by_fit : fits s.mem ≡ true → ((answer (step (tick n) s)).number ≡ number output_full → ⊥) → NotFull (attempt (tick n) s)
  unfolding fit_step
  by_fit f h = not_full (attempt (tick n) s) (λ e. h (ap (λ (r : Reply). (answer r).number) (step_fit (tick n) s f) ∙ e))

  -- A tick that isn't refused with 26 does the same with more room, and sends the same.
  pub more_room : ((answer (step (tick n) s)).number ≡ number output_full → ⊥) → step (tick k) s ≡ step (tick n) s
  unfolding fit_step
  more_room h = go (fits s.mem) refl
    where
      go : (c : Bool) → fits s.mem ≡ c → step (tick k) s ≡ step (tick n) s
      go true f = step_fit (tick k) s f ∙ ap (settle s) (roomier (by_fit f h)).0 ∙ sym (step_fit (tick n) s f)
      go false f = step_unfit (tick k) s f ∙ sym (step_unfit (tick n) s f)

  pub more_room_sent : fits s.mem ≡ true → ((answer (step (tick n) s)).number ≡ number output_full → ⊥) → tick_sent k s ≡ tick_sent n s
  more_room_sent f h = (roomier (by_fit f h)).1

-- ---- never more than there is room for

-- with room for n bytes it sends all but k of them, or is refused; with 26, where it has sent n
data Uses {A : Type 0} (k : ℕ) : ℕ → Rule A → Type 0 where
  uses : {a : A} → Uses k k (give a)
  stops : {n : ℕ} {why : Why} → (number why ≡ number output_full → ⊥) → Uses k n (refuse why)
  full : Uses k 0 (refuse output_full)
  acts : {n : ℕ} {q : Act} {f : ℕ → Rule A} → act_sent q ≡ [] → ((v : ℕ) → Uses k n (f v)) → Uses k n (act q f)
  emits : {n b : ℕ} {f : ℕ → Rule A} → ((v : ℕ) → Uses k n (f v)) → Uses k (suc n) (act (send b) f)

-- so many, whatever is left
data Obeys {A : Type 0} : ℕ → Rule A → Type 0 where
  quiet : {n : ℕ} {r : Rule A} → Quiet r → Obeys n r
  filled : Obeys 0 (refuse output_full)
  moves : {n : ℕ} {q : Act} {f : ℕ → Rule A} → act_sent q ≡ [] → ((v : ℕ) → Obeys n (f v)) → Obeys n (act q f)
  sending : {n b : ℕ} {f : ℕ → Rule A} → ((v : ℕ) → Obeys n (f v)) → Obeys (suc n) (act (send b) f)

quiet_uses : {A B : Type 0} (k n : ℕ) {r : Rule A} (f : A → Rule B) → Quiet r → ((a : A) → Uses k n (f a)) → Uses k n (r >>= f)
unfolding ◌>>=◌
quiet_uses k n f (gives {a}) h = h a
quiet_uses k n f (refuses g) h = stops g
quiet_uses k n f (looks e g) h = acts e (λ v. quiet_uses k n f (g v) h)

uses_then : {A B : Type 0} (j k : ℕ) {n : ℕ} {r : Rule A} (f : A → Rule B) → Uses k n r → ((a : A) → Uses j k (f a)) → Uses j n (r >>= f)
unfolding ◌>>=◌
uses_then j k f (uses {a}) h = h a
uses_then j k f (stops g) h = stops g
uses_then j k f full h = full
uses_then j k f (acts e g) h = acts e (λ v. uses_then j k f (g v) h)
uses_then j k f (emits g) h = emits (λ v. uses_then j k f (g v) h)

uses_quiet : {A B : Type 0} (k : ℕ) {n : ℕ} {r : Rule A} (f : A → Rule B) → Uses k n r → ((a : A) → Quiet (f a)) → Obeys n (r >>= f)
unfolding ◌>>=◌
uses_quiet k f (uses {a}) h = quiet (h a)
uses_quiet k f (stops g) h = quiet (refuses g)
uses_quiet k f full h = filled
uses_quiet k f (acts e g) h = moves e (λ v. uses_quiet k f (g v) h)
uses_quiet k f (emits g) h = sending (λ v. uses_quiet k f (g v) h)

obeys_quiet : {A B : Type 0} {n : ℕ} {r : Rule A} (f : A → Rule B) → Obeys n r → ((a : A) → Quiet (f a)) → Obeys n (r >>= f)
unfolding ◌>>=◌
obeys_quiet f (quiet g) h = quiet (quiet_then f g h)
obeys_quiet f filled h = filled
obeys_quiet f (moves e g) h = moves e (λ v. obeys_quiet f (g v) h)
obeys_quiet f (sending g) h = sending (λ v. obeys_quiet f (g v) h)

quiet_obeys : {A B : Type 0} (n : ℕ) {r : Rule A} (f : A → Rule B) → Quiet r → ((a : A) → Obeys n (f a)) → Obeys n (r >>= f)
unfolding ◌>>=◌
quiet_obeys n f (gives {a}) h = h a
quiet_obeys n f (refuses g) h = quiet (refuses g)
quiet_obeys n f (looks e g) h = moves e (λ v. quiet_obeys n f (g v) h)

obeys_pick : {A : Type 0} (n : ℕ) (c : Bool) {r s : Rule A} → Obeys n r → Obeys n s → Obeys n (pick c r s)
obeys_pick n true h k = h
obeys_pick n false h k = k

-- ---- the tick's rules, from the bytes up

uses_need : (n b : ℕ) → Uses (n - 1) n (need (ltb 0 n) output_full >>= (λ _. emit b))
unfolding need ◌>>=◌
uses_need zero b = full
uses_need (suc n) b =
    let z : suc n - 1 ≡ n = omega arith in
    rw (lt-ltb 0 (suc n) (omega arith), z) (emits (λ v. uses))

uses_bytes : (n : ℕ) (v : Source) (a c : ℕ) → Uses (n - c) n (send_bytes n v a c)
unfolding send_bytes send_next
uses_bytes n v a zero =
    let z : n - 0 ≡ n = omega arith in
    rw z uses
uses_bytes n v a (suc c) =
    let z : n - 1 - c ≡ n - suc c = omega arith in
    uses_then (n - suc c) (n - 1) _ (quiet_uses (n - 1) n _ (quiet_byte v a) (λ b. uses_need n b))
    (λ _. subst (λ (x : ℕ). Uses x (n - 1) (send_bytes (n - 1) v (further a 1) c)) z (uses_bytes (n - 1) v (further a 1) c))

obeys_block : (n : ℕ) (v : Source) (a c : ℕ) → Obeys n (block n v a c)
unfolding block send_block
obeys_block n v a c =
    obeys_pick n (eqb c 0) (quiet (quiet_leap v a v)) (obeys_pick n (eqb c 0xFF) (quiet (quiet_leap v a (other v)))
    (uses_quiet (n - c) _ (uses_bytes n v (further a 1) c) (λ _. quiet_then _ (quiet_byte v _) (λ k. gives))))

obeys_due : (n : ℕ) (v : Source) → Obeys n (due_block n v)
unfolding due_block
obeys_due n v =
    quiet_obeys n _ (quiet_word list_cell) (λ a. quiet_obeys n _ (quiet_opened v) (λ _. quiet_obeys n _ (quiet_byte v a)
    (λ c. obeys_quiet _ (obeys_block n v a c) (λ d. quiet_then _ (quiet_poke_word cpu list_cell _)
    (λ _. quiet_then _ (quiet_poke cpu count_cell _) (λ _. quiet_then _ (quiet_closed v) (λ _. gives)))))))

obeys_tick : (n : ℕ) (v : Source) → Obeys n (tick_rule n v)
unfolding tick_rule count_down
obeys_tick n v =
    quiet_obeys n _ (quiet_peek cpu count_cell) (λ c. obeys_pick n (eqb c 0) (quiet gives)
    (quiet_obeys n _ (quiet_poke cpu count_cell _) (λ _. obeys_pick n (eqb (c - 1) 0) (obeys_due n v) (quiet gives))))

-- ---- what that says of the bytes sent

-- no more than n, and n where 26 is the answer
abbrev pub Filled : {A : Type 0} → ℕ → List ℕ → Out A → Type 0
Filled n bs (got a pc m) = length bs ≤ n
Filled n bs (stopped x m) = (length bs ≤ n) × (x.number ≡ number output_full → length bs ≡ n)

filled_then : {A B : Type 0} (n : ℕ) (o : Out A) (x : A → ℕ → Mem → List ℕ) (f : A → ℕ → Mem → Out B) → NotFull o
    → ((a : A) (pc : ℕ) (m : Mem) → Filled n (x a pc m) (f a pc m)) → Filled n (sent_then o x) (then o f)
filled_then n (got a pc m) x f h k = k a pc m
filled_then n (stopped c m) x f h k = (omega arith, λ e. absurd (h e))

one_more : {A : Type 0} (n b : ℕ) (bs : List ℕ) (o : Out A) → Filled n bs o → Filled (suc n) (b ∷ bs) o
one_more n b bs (got a pc m) h = omega arith
one_more n b bs (stopped c m) h = (omega (arith, h.0), λ e. ap suc (h.1 e))

not_full_pick : {A : Type 0} (c : Bool) (x y : Out A) → NotFull x → NotFull y → NotFull (pick c x y)
not_full_pick true x y h k = h
not_full_pick false x y h k = k

not_outside : (k : Kind) (a : ℕ) → number (outside k a) ≡ number output_full → ⊥
not_outside cpu a e = omega arith
not_outside vdp a e = omega arith
not_outside register a e = omega arith
not_outside grom a e = omega arith

perform_not_full : (q : Act) (pc : ℕ) (m : Mem) → NotFull (perform q pc m)
unfolding perform
perform_not_full next pc m = not_full_pick (ltb pc (length m.image)) (got _ _ m) (stopped _ m) tt (λ e. omega arith)
perform_not_full ask pc m = tt
perform_not_full (jump a) pc m = tt
perform_not_full (load k a) pc m = not_full_pick (ltb a (extent (area m) k)) (got _ _ m) (stopped _ m) tt (not_outside k a)
perform_not_full (store k a b) pc m =
    not_full_pick (ltb a (extent (area m) k)) _ (stopped _ m)
    (not_full_pick (writable (area m) k a) _ (stopped _ m)
    (not_full_pick (room (spare m)) (got 0 pc _) (stopped (answer_for no_room) (spare m)) tt (λ e. omega arith)) (λ e. omega arith)) (not_outside k a)
perform_not_full (send b) pc m = tt

quiet_filled : {A : Type 0} (n : ℕ) {r : Rule A} → Quiet r → (pc : ℕ) (m : Mem) → Filled n (sent r pc m) (exec r pc m)
unfolding exec sent
quiet_filled n gives pc m = omega arith
quiet_filled n (refuses h) pc m = (omega arith, λ e. absurd (h e))
quiet_filled n (looks {q} {k} e h) pc m =
    rw e (filled_then n (perform q pc m) (λ v. sent (k v)) (λ v. exec (k v)) (perform_not_full q pc m) (λ v. quiet_filled n (h v)))

obeys_filled : {A : Type 0} {n : ℕ} {r : Rule A} → Obeys n r → (pc : ℕ) (m : Mem) → Filled n (sent r pc m) (exec r pc m)
unfolding exec sent perform act_sent
obeys_filled (quiet {n} h) pc m = quiet_filled n h pc m
obeys_filled filled pc m = (omega arith, λ e. refl)
obeys_filled (moves {n} {q} {f} e h) pc m =
    rw e (filled_then n (perform q pc m) (λ v. sent (f v)) (λ v. exec (f v)) (perform_not_full q pc m) (λ v. obeys_filled (h v)))
obeys_filled (sending {n} {b} {f} h) pc m = one_more n b (sent (f 0) pc m) (exec (f 0) pc m) (obeys_filled (h 0) pc m)

-- A tick sends no more than the output can hold, and is refused with 26 only where it has filled it.
pub tick_filled : (n : ℕ) (s : State) → Filled n (tick_sent n s) (attempt (tick n) s)
unfolding attempt begin after tick_sent sends take_mark
tick_filled n s =
    filled_then n (take_mark (address s) s.pc (at_rest s.mem)) (λ _. sent (tick_rule n s.source)) (λ _. exec (tick_rule n s.source))
    (not_full_pick (room (spare (at_rest s.mem))) (got tt _ _) (stopped _ _) tt (λ e. omega arith)) (λ _. obeys_filled (obeys_tick n s.source))
