-- What a caller counts while it goes: by demand 3 of bench, of the calls made so far and of one more.
use Rattle.std.proofs.Common.{◌≡◌, refl, ◌∙◌, ap, ap₂, sym, subst, Bool, true, false, List, [], ◌∷◌, ◌++◌, ℕ, zero, suc, ◌+◌, ◌-◌, ◌≤◌, ◌<◌, eqb, length, drop, length-drop, ne_eqb, arith}
use Rattle.std.proofs.Math.ListN.{length-replicate}
use Rattle.rules.specs.Machine.{pick, State}
use Rattle.rules.specs.Calls.{Way, instruction, tick, Reply, done, refused, step, step_back, run}
use Rattle.rules.specs.Demands.{Good, Accepted, Op, forth, aback, instructions, Past, past, tally, history, Demand3}
use Rattle.bench.specs.Numbers as numbers
use Rattle.bench.specs.Numbers.{Ticked}
use Rattle.bench.specs.Meaning.{Returned, stands_at, leaves, told, backing, reported, replied, heard, ticking, Tells}
use Rattle.bench.specs.Promised.{no_call, then_tick, then_back, then_run, count_of, forths, run_ops, past_of, Keeps}
use Rattle.bench.proofs.Replies.{accepts, refuses}
use Rattle.bench.proofs.Heard.{as_step}
use Rattle.bench.proofs.Sequence.{demand3, back_past}
use Rattle.witness.specs.declared.Kept.{Kept}
use Rattle.witness.specs.Demanded.{Led, Behind, oldest, BackAgain}

abbrev pub past_by : {s₀ s : State} → Led s₀ s → Past
past_by {s₀} a = past_of s₀ a.said

keeps : {s₀ s : State} (a : Led s₀ s) → Keeps s₀ (past_by a) (count_of a.said) s
keeps a = demand3 a.good a.empty a.called

pub held : {s₀ s : State} (a : Led s₀ s) → Demand3 s₀ (past_by a) s
held a = (keeps a).steps

abbrev pub at_first : {s₀ : State} → Good s₀ → s₀.mem.used ≡ 0 → Led s₀ s₀
at_first g z = record { good = g; empty = z; said = []; called = no_call }

-- ---- one more call

abbrev pub after_run : (n : ℕ) {s₀ s : State} {x : Returned numbers.Report} → Tells reported (run n) s x → Led s₀ s → Led s₀ (reported x).end
after_run n e a = record { good = a.good; empty = a.empty; said = _; called = then_run n a.called e }

abbrev pub after_back : {s₀ s : State} {x : Returned numbers.Reply} → Tells told backing s x → Led s₀ s → Led s₀ (leaves x)
after_back e a = record { good = a.good; empty = a.empty; said = _; called = then_back a.called e }

abbrev pub after_tick : (o : List ℕ) {o₁ : List ℕ} {s₀ s : State} {x : Returned Ticked} → Tells (heard o₁) (ticking o) s x → Led s₀ s → Led s₀ (leaves (replied x))
after_tick o e a = record { good = a.good; empty = a.empty; said = _; called = then_tick (length o) a.called (as_step o e) }

-- ---- a run taken back

-- only instructions
abbrev Only : List Way → Type 0
Only [] = Unit {0}
Only (instruction ∷ ws) = Only ws
Only (tick n ∷ ws) = ⊥

only_is : (ws : List Way) → Only ws → ws ≡ instructions (length ws)
only_is [] h = refl
only_is (instruction ∷ ws) h = ap (λ (l : List Way). instruction ∷ l) (only_is ws h)
only_is (tick n ∷ ws) h = absurd h

abbrev NoTick : List Op → Type 0
NoTick [] = Unit {0}
NoTick (forth instruction ∷ os) = NoTick os
NoTick (forth (tick n) ∷ os) = ⊥
NoTick (aback ∷ os) = ⊥

both_no_tick : (os ps : List Op) → NoTick os → NoTick ps → NoTick (os ++ ps)
both_no_tick [] ps h k = k
both_no_tick (forth instruction ∷ os) ps h k = both_no_tick os ps h k
both_no_tick (forth (tick n) ∷ os) ps h k = absurd h
both_no_tick (aback ∷ os) ps h k = absurd h

forths_no_tick : (n : ℕ) → NoTick (forths n)
forths_no_tick zero = tt
forths_no_tick (suc n) = both_no_tick (forths n) (forth instruction ∷ []) (forths_no_tick n) tt

run_no_tick : (b : Bool) (n : ℕ) → NoTick (forths n ++ pick b [] (forth instruction ∷ []))
run_no_tick true n = both_no_tick (forths n) [] (forths_no_tick n) tt
run_no_tick false n = both_no_tick (forths n) (forth instruction ∷ []) (forths_no_tick n) tt

only_history : (s₀ : State) (os : List Op) (s : State) (h : Past) → NoTick os → Only h.steps → Only (history s₀ os s h).steps
only_history s₀ [] s h n k = k
only_history s₀ (forth instruction ∷ os) s h n k = only_history s₀ os _ _ n (go (step instruction s))
  where
    go : (r : Reply) → Only (tally s₀ (forth instruction) s r h).steps
    go (done t) = k
    go (refused a t) = k
only_history s₀ (forth (tick m) ∷ os) s h n k = absurd n
only_history s₀ (aback ∷ os) s h n k = absurd n

pub ran_behind : (n : ℕ) {s₀ : State} {x : Returned numbers.Report} → Good s₀ → s₀.mem.used ≡ 0 → Tells reported (run n) s₀ x
    → Behind s₀ (instructions x.result.steps) x.result.steps (reported x).end
ran_behind n {s₀} {x} g z e =
    let a : Led _ _ = after_run n e (at_first g z) in
    let r : numbers.Report = x.result in
    let counted : length (past_by a).steps ≡ r.steps = (keeps a).counted ∙ (omega arith) in
    let only : Only (past_by a).steps = only_history s₀ (run_ops r.answer r.steps) s₀ (past [] 0) (run_no_tick (eqb r.answer 0) r.steps) tt in
    record { led = a; steps = only_is (past_by a).steps only ∙ ap instructions counted; most = omega (arith, (held a).within, counted) }

-- the oldest, one less
one_off : (n : ℕ) (ws : List Way) → drop 1 (drop n ws) ≡ drop (suc n) ws
one_off zero ws = refl
one_off (suc n) [] = refl
one_off (suc n) (w ∷ ws) = one_off n ws

oldest_off : (n : ℕ) (ws : List Way) → 0 < n → n ≤ length ws → drop 1 (oldest n ws) ≡ oldest (n - 1) ws
oldest_off n ws p q =
    let m : suc (length ws - n) ≡ length ws - (n - 1) = omega arith in
    one_off (length ws - n) ws ∙ ap (λ (k : ℕ). drop k ws) m

-- of steps ws, n are not taken back
module _ {s₀ s : State} (ws : List Way) (n : ℕ) {l : ℕ} {x : Returned numbers.Reply} (e : Tells told backing s x) (u : Behind s₀ (oldest n ws) l s) where
  h : Past
  h = past_by u.led

  fewer_kept : (r : Reply) → step_back s ≡ r → 0 < l → (tally s₀ aback s r h).kept ≤ l - 1
  unfolding h
  fewer_kept (done t) q p = omega (arith, u.most)
  fewer_kept (refused a t) q p = go h.kept refl
    where
      go : (k : ℕ) → h.kept ≡ k → h.kept ≤ l - 1
      go zero z = omega (arith, z)
      go (suc k) z = absurd (subst Accepted q ((held u.led).some_left (omega (arith, z))))

  fewer_steps : 0 < n → n ≤ length ws → (a : ℕ) → x.result.answer ≡ a → (tally s₀ aback s (step_back s) h).steps ≡ oldest (pick (eqb a 0) (n - 1) n) ws
  unfolding h
  fewer_steps p q zero z = ap (λ (r : Reply). (tally s₀ aback s r h).steps) (accepts e z) ∙ ap (drop 1) u.steps ∙ oldest_off n ws p q
  fewer_steps p q (suc a) z =
      rw (ne_eqb (suc a) 0 (λ y. omega arith)) (ap (λ (r : Reply). (tally s₀ aback s r h).steps) (refuses e (λ y. omega (arith, z, y))) ∙ u.steps)

  pub behind_on : {m k r : ℕ} → r ≡ l - 1 → length ws ≡ k → n ≤ k → 0 < l → l ≤ n → m ≡ pick (eqb x.result.answer 0) (n - 1) n
      → Behind s₀ (oldest m ws) r (leaves x)
  unfolding h
  behind_on {m} z q i p o y =
      let a : Led s₀ (leaves x) = after_back e u.led in
      let same : past_by a ≡ tally s₀ aback s (step_back s) h = back_past x.result u.led.called in
      record {
        led = a;
        steps = ap (λ (z : Past). z.steps) same ∙ fewer_steps (omega arith) (omega (arith, q)) x.result.answer refl ∙ ap (λ (i : ℕ). oldest i ws) (sym y);
        most = rw z (subst (λ (z : Past). z.kept ≤ l - 1) (sym same) (fewer_kept (step_back s) refl p));
      }

-- no more step-backs are left to make than steps are counted, and no more steps than there were
pub fewer_left : (a : ℕ) {n l m : ℕ} → m ≡ pick (eqb a 0) (n - 1) n → l ≤ n → (l - 1 ≤ m) × (m ≤ n)
fewer_left a {n} {l} {m} q p = go (eqb a 0) q
  where
    go : (b : Bool) → m ≡ pick b (n - 1) n → (l - 1 ≤ m) × (m ≤ n)
    go true e = (omega (arith, e), omega (arith, e))
    go false e = (omega (arith, e), omega (arith, e))

pub all_oldest : (ws : List Way) (n : ℕ) → length ws ≡ n → oldest n ws ≡ ws
all_oldest ws n e =
    let z : length ws - n ≡ 0 = omega (arith, e) in
    ap (λ (k : ℕ). drop k ws) z

pub count_oldest : (ws : List Way) {n k : ℕ} → length ws ≡ n → k ≤ n → length (oldest k ws) ≡ k
count_oldest ws {n} {k} e l = length-drop (length ws - k) ws ∙ (omega (arith, e))

-- none is left to take back
module _ {s₀ s : State} {ws : List Way} {l : ℕ} (u : Behind s₀ ws l s) (z : l ≡ 0) where
  pub none_kept_lem : Demand3 s₀ (past ws 0) s
  none_kept_lem =
      let k : (past_by u.led).kept ≡ 0 = omega (arith, u.most) in
      let same : past_by u.led ≡ past ws 0 = ap₂ past u.steps k in
      subst (λ (y : Past). Demand3 s₀ y s) same (held u.led)

  pub none_left : s₀.mem.ring ≡ false → length ws ≡ 0
  none_left r = omega (arith, (held u.led).all r, ap length u.steps, u.most)

-- of instructions the oldest are as many instructions
oldest_instructions : (n m k : ℕ) → m ≡ n + k → drop n (instructions m) ≡ instructions k
oldest_instructions zero m k e =
    let all : m ≡ k = omega (arith, e) in
    ap instructions all
oldest_instructions (suc n) zero k e = absurd (omega (arith, e))
oldest_instructions (suc n) (suc m) k e = oldest_instructions n m k (omega (arith, e))

pub ran_back : (n : ℕ) {s : State} {x : Returned Kept} → BackAgain (λ k. oldest k (instructions n)) s x → BackAgain instructions s x
ran_back n {s} {x} b =
    let k : ℕ = x.result.steps in
    let all : length (instructions n) ≡ n = length-replicate n instruction in
    let few : length (oldest k (instructions n)) ≡ n - (n - k) = length-drop (length (instructions n) - k) (instructions n) ∙ (omega (arith, all)) in
    let same : oldest k (instructions n) ≡ instructions k =
    ap (λ (i : ℕ). drop (i - k) (instructions n)) all ∙ oldest_instructions (n - k) n k (omega (arith, few, b.count)) in
    record { count = length-replicate k instruction; kept = subst (λ (l : List Way). Demand3 s (past l 0) (stands_at x x.result.at)) same b.kept; all = b.all }
