-- A run, step by step: what is left, run now, with the counts so far, is the whole.
use Rattle.std.proofs.Common.{◌≡◌, refl, ◌∙◌, ap, ap₂, sym, subst, Bool, true, false, List, append-nil, ℕ, zero, suc, ◌+◌, ◌-◌, ◌*◌, ◌≤◌, ◌<◌, arith, length, eq-eqb, ne_eqb}
use Rattle.rules.specs.Machine.{State}
use Rattle.rules.specs.Answers.{Answer, saying, well, answer_for, wrong_length}
use Rattle.rules.specs.Calls.{instruction, fits, Reply, left, step, step_stores, made, Report, report, steps, run}
use Rattle.rules.specs.Reads.{attempt_reads, step_reads, run_reads, marked, mapped_run, map_left}
use Rattle.rules.specs.Demands.{Good, Accepted, Demand2}
use Rattle.rules.proofs.Replies.{demand2}
use Rattle.rules.proofs.Fits.{fits_used, fits_words}
use Rattle.rules.proofs.History.{stepped, fits_after}
use Rattle.bench.specs.declared.at.At.{At}
use Rattle.bench.specs.Numbers as numbers
use Rattle.bench.specs.Meaning.{state_at, Returned, returned, leaves, told, marking, settling, stepping, reported, no_steps, Tells}
use Rattle.bench.proofs.Replies.{accepts, refuses, counts}
use Rattle.rules.proofs.Reading.{marked_append}
use Rattle.bench.proofs.Steps.{AreBytes, bytes_of, step_fits}

-- k steps with n stores, and then a run
abbrev ahead : ℕ → ℕ → Report → Report
ahead k n r = report r.answer (k + r.steps) (n + r.stores) r.end

-- reports that differ in how their counts are written
recount : (a : Answer) (s : State) {k₁ k₂ n₁ n₂ : ℕ} → k₁ ≡ k₂ → n₁ ≡ n₂ → report a k₁ n₁ s ≡ report a k₂ n₂ s
recount a s = ap₂ (λ (k n : ℕ). report a k n s)

-- a run of n steps from s₀, of which k are made, with c stores, stands at s
pub record Underway (n : ℕ) (s₀ : State) (k c : ℕ) (s : State) : Type 0 where
  pub whole : ahead k c (steps (n - k) s) ≡ steps n s₀
  pub fit : fits s.mem ≡ true
  pub good : Good s
  pub made : k ≤ n
  pub stored : c ≤ k * 1048576

pub sets_out : {n : ℕ} {i p v g : List ℕ} (j : List ℕ) {at : At} → fits (state_at i p v g j at).mem ≡ true → at.pc < 65536 → at.writable < 256 → AreBytes i → AreBytes p → AreBytes v
    → AreBytes g
    → Underway n (state_at i p v g j at) 0 0 (state_at i p v g j at)
sets_out {n} {i} {p} {v} {g} j {at} f l w d a b c =
    let r : Report = steps n (state_at i p v g j at) in
    let all : n - 0 ≡ n = omega arith in
    record {
      whole = rw all (recount r.answer r.end (omega arith) (omega arith));
      fit = f;
      good = record { address = l; bytes = bytes_of (state_at i p v g j at).mem w d a b c };
      made = omega arith;
      stored = omega arith;
    }

-- ---- one step more, which returned x

module _ {n : ℕ} {s₀ : State} {k c : ℕ} {s : State} {x : Returned numbers.Reply} (u : Underway n s₀ k c s) (e : Tells told (settling instruction) s x) where
  call : Tells told (stepping instruction) s x
  call = step_fits instruction (sym u.fit) refl e

  count : x.result.answer ≡ 0 → x.result.stores ≡ length (step_stores instruction s)
  count z = counts call ∙ ap (made instruction s) (accepts call z)

  done_it : x.result.answer ≡ 0 → Accepted (step instruction s)
  done_it z = subst Accepted (sym (accepts call z)) tt

  -- a journal has room for its stores
  pub few : x.result.answer ≡ 0 → x.result.stores ≤ 1048576
  few z =
      let d : Demand2 instruction s (leaves x) (length (step_stores instruction s)) = demand2 instruction s (leaves x) (accepts call z) in
      let f : fits (leaves x).mem ≡ true = subst (λ (q : Reply). fits (left q).mem ≡ true) (accepts call z) (fits_after instruction s u.good (done_it z)) in
      omega (arith, d.used, count z, fits_used (leaves x).mem f, fits_words (leaves x).mem f)

  -- it was done: the rest of the run starts where it ended
  pub goes_on : k < n → x.result.answer ≡ 0 → Underway n s₀ (k + 1) (c + x.result.stores) (leaves x)
  unfolding steps
  goes_on l z =
      let after : Report = steps (n - (k + 1)) (leaves x) in
      let more : n - k ≡ suc (n - (k + 1)) = omega arith in
      record {
        whole = recount after.answer after.end (omega arith) (omega (arith, count z)) ∙ (rw (more, accepts call z) at u.whole);
        fit = subst (λ (q : Reply). fits (left q).mem ≡ true) (accepts call z) (fits_after instruction s u.good (done_it z));
        good = subst (λ (q : Reply). Good (left q)) (accepts call z) (stepped instruction s u.good (done_it z)).good;
        made = omega arith;
        stored = omega (arith, few z, u.stored);
      }

  -- it was refused: the run is over
  pub breaks_off : k < n → (x.result.answer ≡ 0 → ⊥) → report (saying x.result.answer x.result.address) k c (leaves x) ≡ steps n s₀
  unfolding steps
  breaks_off l h =
      let more : n - k ≡ suc (n - (k + 1)) = omega arith in
      recount (saying x.result.answer x.result.address) (leaves x) (omega arith) (omega arith) ∙ (rw (more, refuses call h) at u.whole)

-- ---- what a run reads, of which the map that was z₀ has become z

module _ {n : ℕ} {s₀ : State} {k c : ℕ} {s : State} {x : Returned numbers.Reply} (z : List ℕ) {y : List ℕ} (u : Underway n s₀ k c s)
    (e : Tells told (settling instruction) s x) (r : y ≡ marking attempt_reads z s) where
  -- the step was done: what it read is marked, and the rest is left
  pub marks_on : k < n → x.result.answer ≡ 0 → marking (run_reads (n - (k + 1))) y (leaves x) ≡ marking (run_reads (n - k)) z s
  unfolding run_reads step_reads
  marks_on l h =
      let more : n - k ≡ suc (n - (k + 1)) = omega arith in
      rw (more, u.fit, accepts (call u e) h)
      (ap (marked (run_reads (n - (k + 1)) (leaves x))) r ∙ sym (marked_append (attempt_reads s) (run_reads (n - (k + 1)) (leaves x)) z))

  -- it was refused: its own reads are the last
  pub marks_last : k < n → (x.result.answer ≡ 0 → ⊥) → y ≡ marking (run_reads (n - k)) z s
  unfolding run_reads step_reads
  marks_last l h =
      let more : n - k ≡ suc (n - (k + 1)) = omega arith in
      rw (more, u.fit, refuses (call u e) h, append-nil (attempt_reads s)) r

-- none is made yet
pub marks_start : (n : ℕ) (s : State) (z : List ℕ) → marking (run_reads (n - 0)) z s ≡ marking (run_reads n) z s
marks_start n s z =
    let all : n - 0 ≡ n = omega arith in
    rw all

-- none is left
pub marks_end : (n k : ℕ) (s : State) (z : List ℕ) → n ≤ k → z ≡ marking (run_reads (n - k)) z s
unfolding run_reads marked
marks_end n k s z l =
    let none : n - k ≡ 0 = omega arith in
    rw none

-- none is made: so where test 11 fails
pub marks_none : (n : ℕ) (s : State) (z : List ℕ) → fits s.mem ≡ false → z ≡ marking (run_reads n) z s
unfolding run_reads step_reads step marked
marks_none zero s z h = refl
marks_none (suc n) s z h = rw h

-- ---- how it ends

pub stops : {n : ℕ} {s₀ : State} {k c : ℕ} {s : State} {i p v g j : List ℕ} {r : numbers.Reply} → Underway n s₀ k c s
    → Tells told (settling instruction) s (returned i p v g j r) → k < n → (r.answer ≡ 0 → ⊥)
    → Tells reported (steps n) s₀ (returned i p v g j (record { answer = r.answer; address = r.address; steps = k; stores = c; at = r.at }))
stops u e l h = record { is = breaks_off u e l h }

pub ends : {n : ℕ} {s₀ : State} {k m c : ℕ} {i p v g j : List ℕ} {at : At} → Underway n s₀ k c (state_at i p v g j at) → n ≤ k → m ≡ n
    → Tells reported (steps n) s₀ (returned i p v g j (record { answer = 0; address = 0; steps = m; stores = c; at = at }))
unfolding steps
ends {n} {k = k} {i = i} {p = p} {v = v} {g = g} {j = j} {at = at} u l e =
    let none : n - k ≡ 0 = omega arith in
    record { is = recount well (state_at i p v g j at) (omega (arith, u.made, e)) (omega arith) ∙ (rw none at u.whole) }

-- ---- the call

pub run_unfit : (n : ℕ) {i p v g j : List ℕ} {at : At} {t : Bool} → t ≡ fits (state_at i p v g j at).mem → t ≡ false
    → Tells reported (run n) (state_at i p v g j at) (returned i p v g j (no_steps (answer_for wrong_length) at))
unfolding run
run_unfit n e h = record { is = rw (sym e ∙ h) }

pub run_fits : (n : ℕ) {s : State} {x : Returned numbers.Report} {t : Bool} → t ≡ fits s.mem → t ≡ true → Tells reported (steps n) s x → Tells reported (run n) s x
unfolding run
run_fits n e h k = record { is = rw (sym e ∙ h) k.is }

-- ---- the call with a map

module _ (n : ℕ) (i p v g j : List ℕ) (at : At) (z : List ℕ) where
  pub map_unfit : (length z ≡ length i → ⊥) → Tells reported (mapped_run n z) (state_at i p v g j at) (returned i p v g j (no_steps (answer_for wrong_length) at))
  unfolding mapped_run
  map_unfit h = record { is = rw (ne_eqb (length z) (length i) h) }

  pub map_kept : (length z ≡ length i → ⊥) → z ≡ map_left n z (state_at i p v g j at)
  unfolding map_left
  map_kept h = rw (ne_eqb (length z) (length i) h)

  pub map_fits_lem : {x : Returned numbers.Report} → length z ≡ length i → Tells reported (run n) (state_at i p v g j at) x → Tells reported (mapped_run n z) (state_at i p v g j at) x
  unfolding mapped_run
  map_fits_lem h k = record { is = rw (eq-eqb (length z) (length i) h) k.is }

  pub map_left_lem : {y : List ℕ} → length z ≡ length i → y ≡ marking (run_reads n) z (state_at i p v g j at) → y ≡ map_left n z (state_at i p v g j at)
  unfolding map_left
  map_left_lem h e = rw (eq-eqb (length z) (length i) h) e
