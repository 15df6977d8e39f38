-- The numbers that come out, as what the rules say.
use Rattle.std.proofs.Common.{◌≡◌, refl, ◌∙◌, ap, sym, Bool, true, false, not, List, [], ◌∷◌, ℕ, zero, suc, ◌+◌, arith, eqb, length, ne_eqb}
use Rattle.rules.specs.Machine.{pick, State}
use Rattle.rules.specs.Answers.{saying, well, answer_for, wrong_length}
use Rattle.rules.specs.Calls.{instruction, tick, fits, Reply, done, refused, answer, left, step, step_stores, made, Report, report, onto, steps, run}
use Rattle.rules.proofs.Fits.{step_unfit}
use Rattle.bench.specs.Numbers as numbers
use Rattle.bench.specs.Numbers.{Ticked}
use Rattle.bench.specs.Meaning as bench
use Rattle.bench.specs.Meaning.{state_at, Returned, returned, Outcome, replies, told, stepping, reported, Heard, ticking, Tells}
use Rattle.export.specs.Meaning.{Numbers, heard, Flagged, tallied, counted, one_step}
use Rattle.export.specs.Ticks.{sounded, one_tick}

-- ---- the report of a run, and the reply of a step back

tally : (a d n : ℕ) (s : State) → report (saying a d) (pick (eqb a 0) 1 0) n s ≡ tallied (replies (saying a d) s) d n
unfolding replies
tally zero d n s = refl
tally (suc a) d n s = rw (ne_eqb (suc a) 0 (λ e. omega arith))

-- the source flag as a number, read again
flag_read : (b : Bool) → not (eqb (pick b 1 0) 0) ≡ b
flag_read true = refl
flag_read false = refl

-- it is 0 or 1
pub flag_told : {out : List ℕ} {pc u k n d a : ℕ} (b : Bool) → out ≡ pc ∷ u ∷ k ∷ n ∷ d ∷ a ∷ pick b 1 0 ∷ [] → Flagged out
flag_told true e = rw e (omega arith)
flag_told false e = rw e (omega arith)

module _ {i p v g j out : List ℕ} {s : State} (ring : ℕ) {w : ℕ} where
  pub heard_report : {f : State → Report} (r : numbers.Report) {a d : ℕ} → a ≡ r.answer → d ≡ r.address → ◌≡◌ {A = ℕ × Bool} (r.at.writable, r.at.ring) (w, not (eqb ring 0))
      → out ≡ r.at.pc ∷ r.at.used ∷ r.steps ∷ r.stores ∷ d ∷ r.at.place ∷ pick r.at.source 1 0 ∷ []
      → Tells reported f s (returned i p v g j r) → Tells (heard ring w) f s (returned i p v g j (record { answer = a; out = out }))
  unfolding heard
  heard_report r b l q e h =
      record { is = rw (e, b, l, sym (ap (λ (c : ℕ × Bool). c.0) q), sym (ap (λ (c : ℕ × Bool). c.1) q), flag_read r.at.source) h.is }

  pub heard_reply : {f : State → Outcome} (r : numbers.Reply) {a d k : ℕ} → a ≡ r.answer → d ≡ r.address → ◌≡◌ {A = ℕ × Bool} (r.at.writable, r.at.ring) (w, not (eqb ring 0))
      → out ≡ r.at.pc ∷ r.at.used ∷ k ∷ r.stores ∷ d ∷ r.at.place ∷ pick r.at.source 1 0 ∷ []
      → k ≡ pick (eqb a 0) 1 0 → Tells told f s (returned i p v g j r)
      → Tells (heard ring w) (λ (t : State). counted (f t)) s (returned i p v g j (record { answer = a; out = out }))
  unfolding heard counted
  heard_reply r b l y e q h =
      record {
        is = rw (e, q, b, l, sym (ap (λ (c : ℕ × Bool). c.0) y), sym (ap (λ (c : ℕ × Bool). c.1) y), flag_read r.at.source)
            (tally r.answer r.address r.stores (state_at i p v g j r.at) ∙ ap counted h.is);
      }

-- ---- a run of one step is a step

module _ (s : State) where
  once : (q : Reply) → onto q (length (step_stores instruction s)) (report well 0 0 (left q)) ≡ tallied q (answer q).address (made instruction s q)
  once (done t) =
      let n : ℕ = length (step_stores instruction s) in
      let e : n + 0 ≡ n = omega arith in
      ap (λ (x : ℕ). report well 1 x t) e
  once (refused a t) = refl

  run_once : run 1 s ≡ counted (stepping instruction s)
  unfolding run steps counted
  run_once = go (fits s.mem) refl
    where
      go : (c : Bool) → fits s.mem ≡ c → pick c (steps 1 s) (report (answer_for wrong_length) 0 0 s) ≡ tallied (step instruction s) (answer (step instruction
          s)).address (made instruction s (step instruction s))
      go true e = once (step instruction s)
      go false e = rw (step_unfit instruction s e)

pub heard_once : (ring w : ℕ) {s : State} {x : Returned Numbers} → Tells (heard ring w) (run 1) s x → Tells (heard ring w) one_step s x
heard_once ring w {s} h = record { is = h.is ∙ run_once s }

-- ---- a tick

pub heard_tick : (o₀ : List ℕ) (ring w : ℕ) {o : List ℕ} {n : ℕ} {s : State} {x : Returned Numbers} {y : Returned Ticked} → n ≡ y.result.sent
    → Tells (heard ring w) (λ (t : State). counted (stepping (tick (length o₀)) t)) s x → Tells (bench.heard o) (ticking o₀) s y
    → Tells (sounded ring w n o) (one_tick o₀) s x
heard_tick o₀ ring w q h e =
    record { is = rw (h.is, q ∙ ap (λ (y : Heard). y.sent) e.is, ap (λ (y : Heard). y.output) e.is) }
