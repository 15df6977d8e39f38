-- A tick in the code's words: as a step, and what it leaves of the output, done and refused.
use Rattle.std.proofs.Common.{◌≡◌, refl, ◌∙◌, ap, ap₂, sym, subst, Result, Ok, Err, Bool, true, false, List, ◌++◌, ℕ, ◌+◌, ◌-◌, ◌≤◌, arith, length, drop, replicate}
use Rattle.std.proofs.Math.Seq.{drop-append_seam}
use Rattle.rules.specs.Machine.{Mem, State}
use Rattle.rules.specs.Answers.{Answer, answer_for, wrong_length}
use Rattle.rules.specs.Rules.{got, stopped}
use Rattle.rules.specs.Sound.{Source}
use Rattle.rules.specs.Calls.{tick, fits, attempt, fit_step, step, tick_sent, tick_output}
use Rattle.machine.specs.declared.answers.Why.{Why}
use Rattle.machine.specs.declared.state.Machine.{Machine}
use Rattle.machine.specs.Meaning.{ending, state, left}
use Rattle.machine.proofs.Laws.{out_of}
use Rattle.sound.specs.Meaning.{Written, laid, writing}
use Rattle.sound.proofs.Laws.{laid_first}
use Rattle.sound.specs.declared.list.Output.{Output}
use Rattle.bench.specs.declared.at.At.{At}
use Rattle.bench.specs.declared.ticks.Ticked as ticks
use Rattle.bench.specs.Numbers as numbers
use Rattle.bench.specs.Numbers.{Ticked}
use Rattle.bench.specs.Meaning.{state_at, Returned, returned, Outcome, told, refusal, settling, stepping}
use Rattle.bench.specs.Making.{Stands, trying_tick, sends_from, Adds, state_in}
use Rattle.bench.specs.Meaning.{Heard, replied, heard, heard_as, fit_ticking, ticking, Tells}
use Rattle.bench.proofs.Beginning.{said, tick_map, as_tick, sent_is}
use Rattle.bench.proofs.Refusals.{ticks_in, same_ticked}
use Rattle.bench.proofs.Replies.{same_told}
use Rattle.bench.proofs.Steps.{step_unfit, step_fits}

abbrev hearing : Outcome → ℕ → List ℕ → Heard
hearing a n o = record { outcome = a; sent = n; output = o }

same_heard : {a b : Outcome} {m n : ℕ} {o p : List ℕ} → a ≡ b → m ≡ n → o ≡ p → hearing a m o ≡ hearing b n p
same_heard e f g = rw (e, f, g)

-- a step's reply, and what was sent
abbrev with_sent : Returned numbers.Reply → ℕ → Returned Ticked
with_sent x n = returned x.image x.pad x.vram x.regs x.journal (heard_as x.result n)

-- ---- what was sent

-- l bytes, which stand first in the output
abbrev Sent : List ℕ → ℕ → List ℕ → List ℕ → Type 0
Sent bs l o p = (l ≡ length bs) × (l ≤ length o) × (p ≡ bs ++ drop (length bs) o)

-- so is what was added to an output of which no byte was in use
pub as_sent : (bs : List ℕ) {o p : Output} → o.sent ≡ 0 → Adds bs o p → Sent bs p.sent o.bytes.now p.bytes.now
unfolding writing
as_sent bs {o} {p} z h =
    let sent : p.sent ≡ o.sent + length bs = ap (λ (w : Written). w.used) h.0 in
    let within : p.sent ≤ length o.bytes.now = omega (arith, h.1.long, h.1.fits (omega (arith, z))) in
    let whole : p.bytes.now ≡ laid 0 bs o.bytes.now = rw z at (ap (λ (w : Written). w.bytes) h.0) in
    (omega (arith, sent, z), within, whole ∙ laid_first bs o.bytes.now (omega (arith, sent, within)))

-- ---- done, or refused

module _ (o : List ℕ) (s : State) {x : Returned numbers.Reply} (e : Tells told (settling (tick (length o))) s x) where
  pub tick_done : {v : Source} {pc n : ℕ} {m : Mem} {q : List ℕ} → attempt (tick (length o)) s ≡ got v pc m → Sent (tick_sent (length o) s) n o q
      → Tells (heard q) (fit_ticking o) s (with_sent x n)
  unfolding fit_step
  tick_done z k = record { is = same_heard e.is (rw z k.0) (rw z k.2) }

  pub tick_refused : {a : Answer} {m : Mem} {n : ℕ} {q t : List ℕ} → attempt (tick (length o)) s ≡ stopped a m → Sent (tick_sent (length o) s) n o q
      → t ≡ replicate n 0 ++ drop n q → Tells (heard t) (fit_ticking o) s (with_sent x 0)
  unfolding fit_step
  tick_refused {n = n} {q = q} {t = t} z k w =
      let bs : List ℕ = tick_sent (length o) s in
      let behind : drop n q ≡ drop (length bs) o = ap₂ (λ (m : ℕ) (l : List ℕ). drop m l) k.0 k.2 ∙ drop-append_seam bs (drop (length bs) o) in
      let whole : t ≡ replicate (length bs) 0 ++ drop (length bs) o = w ∙ ap₂ (λ (m : ℕ) (l : List ℕ). replicate m 0 ++ l) k.0 behind in
      record { is = same_heard e.is (rw z refl) (rw z whole) }

-- the same of a machine at `at`, by what was tried on it
module _ {at : At} {m : Machine} (b : Stands at m) (t : Result Bool Why) (n : Machine) (o p : Output) (z : o.sent ≡ 0)
    (e : trying_tick (length o.bytes.now - o.sent) at.source (state m) ≡ left t (state n)) where
  abbrev way : ℕ
  way = length o.bytes.now

  pub tick_ends : ending (attempt (tick way) (state_in m at)) (tick_map b way) ≡ left t (state n)
  tick_ends = as_tick b way (omega (arith, z)) e

  module _ (h : Adds (sends_from (length o.bytes.now - o.sent) at.source (state m)) o p) {x : Returned numbers.Reply} (k : Tells told (settling (tick way)) (state_in m at) x) where
    heard_sent : Sent (tick_sent way (state_in m at)) p.sent o.bytes.now p.bytes.now
    heard_sent = subst (λ (bs : List ℕ). Sent bs p.sent o.bytes.now p.bytes.now) (sent_is b way (omega (arith, z))) (as_sent _ z h)

    opens : {u : Result Bool Why} → t ≡ u → attempt (tick way) (state_in m at) ≡ out_of (left u (state n))
    opens q = sym (said (attempt (tick way) (state_in m at)) (tick_map b way)) ∙ ap out_of tick_ends ∙ ap (λ (t : Result Bool Why). out_of (left t (state n))) q

    pub machine_done : {v : Source} → t ≡ Ok v → Tells (heard p.bytes.now) (fit_ticking o.bytes.now) (state_in m at) (with_sent x p.sent)
    machine_done q = tick_done o.bytes.now (state_in m at) k (opens q) heard_sent

    pub machine_refused : {why : Why} {q : List ℕ} → t ≡ Err why → q ≡ replicate p.sent 0 ++ drop p.sent p.bytes.now
        → Tells (heard q) (fit_ticking o.bytes.now) (state_in m at) (with_sent x 0)
    machine_refused q w = tick_refused o.bytes.now (state_in m at) k (opens q) heard_sent w

-- ---- the call

pub tick_unfit : (o : List ℕ) {i p v g j : List ℕ} {at : At} {t : Bool} → t ≡ fits (state_at i p v g j at).mem → t ≡ false
    → Tells (heard o) (ticking o) (state_at i p v g j at) (returned i p v g j (heard_as (refusal (answer_for wrong_length) at) 0))
unfolding step tick_output
tick_unfit o {i} {p} {v} {g} {j} {at} e h =
    record { is = same_heard (step_unfit (tick (length o)) {i = i} {p = p} {v = v} {g = g} {j = j} {at = at} e h).is (rw (sym e ∙ h)) (rw (sym e ∙ h)) }

pub tick_fits : (o : List ℕ) {q : List ℕ} {s : State} {x : Returned Ticked} {t : Bool} → t ≡ fits s.mem → t ≡ true → Tells (heard q) (fit_ticking o) s x
    → Tells (heard q) (ticking o) s x
unfolding step tick_output
tick_fits o {q} {s} {x} e h k =
    record {
      is = same_heard (step_fits (tick (length o)) e h (as_step_told k)).is (ap (λ (y : Heard). y.sent) k.is ∙ rw (sym e ∙ h)) (ap (λ (y : Heard). y.output) k.is ∙ rw (sym e ∙ h));
    }
  where
    as_step_told : Tells (heard q) (fit_ticking o) s x → Tells told (settling (tick (length o))) s (replied x)
    as_step_told k = record { is = ap (λ (y : Heard). y.outcome) k.is }

-- ---- what it promises

module _ (o : List ℕ) {s : State} {q : List ℕ} {x : Returned Ticked} (e : Tells (heard q) (ticking o) s x) where
  -- a tick is a step: demands 1 and 2 are those of its reply
  pub as_step : Tells told (stepping (tick (length o))) s (replied x)
  as_step = record { is = ap (λ (y : Heard). y.outcome) e.is }

-- The contract determines what it speaks of: the result, every lent byte, and the output.
pub tick_determined : (o : List ℕ) {s : State} {q r : List ℕ} {x y : Returned ticks.Ticked} → Tells (heard q) (ticking o) s (ticks_in x) → Tells (heard r) (ticking o) s (ticks_in y)
    → (x ≡ y) × (q ≡ r)
tick_determined o {s} {q} {r} {x} {y} e k =
    let same : heard q (ticks_in x) ≡ heard r (ticks_in y) = e.is ∙ sym k.is in
    let replies_same : replied (ticks_in x) ≡ replied (ticks_in y) = same_told (ap (λ (h : Heard). h.outcome) same) in
    (same_ticked x y (ap₂ with_sent replies_same (ap (λ (h : Heard). h.sent) same)), ap (λ (h : Heard). h.output) same)
