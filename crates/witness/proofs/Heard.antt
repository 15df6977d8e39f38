-- What a host in C hears is what bench's call tells: the report that its numbers make, read as a reply.
use Rattle.std.proofs.Common.{◌≡◌, refl, ◌∙◌, ap, List, ℕ, arith, length, ne_eqb}
use Rattle.rules.specs.Machine.{State}
use Rattle.rules.specs.Answers.{Answer}
use Rattle.rules.specs.Calls.{Way, instruction, tick, Reply, done, refused, answer, step, made, step_back, Report, run}
use Rattle.rules.specs.Demands.{Good}
use Rattle.rules.proofs.Named.{NamedReply, named_step, named_back}
use Rattle.rules.proofs.Opcodes.{never_done}
use Rattle.bench.specs.Meaning.{Returned, Outcome, outcome, replies, told, stepping, backing, reported, Tells}
use Rattle.bench.specs.Promised.{Said, Called, no_call, then_step, then_tick, then_back, then_run, count_of, past_of, Keeps}
use Rattle.bench.proofs.Sequence.{demand3}
use Rattle.export.specs.Meaning.{Numbers, heard, tallied, counted, one_step, one_back}
use Rattle.export.specs.Ticks.{Sounded, sounded, one_tick}
use Rattle.witness.specs.Demanded as demanded
use Rattle.witness.specs.Hosted as hosted
use Rattle.witness.specs.Hosted.{as_reply, as_report, HostCalled}
use Rattle.witness.proofs.Borne.{step_bears, tick_bears, back_bears, run_bears}

-- a report read as a reply, and that this undoes the counting
replied : Report → Outcome
replied r = record { reply = replies r.answer r.end; address = r.answer.address; stores = r.stores }

uncounted : (q : Reply) (n : ℕ) → NamedReply q → replied (tallied q (answer q).address n) ≡ outcome q n
unfolding replied replies
uncounted (done t) n h = refl
uncounted (refused a t) n h =
    let ne : a.number ≡ 0 → ⊥ = λ z. omega (arith, never_done h.why, ap (λ (b : Answer). b.number) h.is) in
    rw (ne_eqb a.number 0 ne)

heard_reply : (ring w : ℕ) (q : Reply) (n : ℕ) (x : Returned Numbers) → NamedReply q → heard ring w x ≡ counted (outcome q n) → told (as_reply ring w x) ≡ outcome q n
unfolding heard counted replied
heard_reply ring w q n x h e = ap replied e ∙ uncounted q n h

-- ---- each call

module _ (ring w : ℕ) {s : State} {x : Returned Numbers} where
  step_told : Tells (heard ring w) one_step s x → Tells told (stepping instruction) s (as_reply ring w x)
  step_told e = record { is = heard_reply ring w (step instruction s) (made instruction s (step instruction s)) x (named_step instruction s) e.is }

  tick_told : (o : List ℕ) {o₁ : List ℕ} {n : ℕ} → Tells (sounded ring w n o₁) (one_tick o) s x → Tells told (stepping (tick (length o))) s (as_reply ring w x)
  tick_told o e =
      let t : Way = tick (length o) in
      record { is = heard_reply ring w (step t s) (made t s (step t s)) x (named_step t s) (ap (λ (y : Sounded). y.report) e.is) }

  back_told : Tells (heard ring w) one_back s x → Tells told backing s (as_reply ring w x)
  back_told e = record { is = heard_reply ring w (step_back s) 0 x (named_back s) e.is }

  pub run_told : (n : ℕ) → Tells (heard ring w) (run n) s x → Tells reported (run n) s (as_report ring w x)
  unfolding heard
  run_told n e = record { is = e.is }

  pub step_heard : Tells (heard ring w) one_step s x → demanded.Step instruction s (as_reply ring w x)
  step_heard e = step_bears instruction (step_told e)

  pub tick_heard : {o o₁ : List ℕ} {n : ℕ} → Tells (sounded ring w n o₁) (one_tick o) s x → demanded.Tick o o₁ n s (as_reply ring w x)
  tick_heard {o} e = tick_bears (tick_told o e) (ap (λ (y : Sounded). y.sent) e.is) (ap (λ (y : Sounded). y.output) e.is)

  pub back_heard : Tells (heard ring w) one_back s x → demanded.Back s (as_reply ring w x)
  back_heard e = back_bears (back_told e)

  pub run_heard : (n : ℕ) → Tells (heard ring w) (run n) s x → demanded.Run n s (as_report ring w x)
  run_heard n e = run_bears n (run_told n e)

-- ---- any sequence of them

as_called : {ring w : ℕ} {s₀ s : State} {l : List Said} → HostCalled ring w s₀ l s → Called s₀ l s
as_called hosted.no_call = no_call
as_called {ring} {w} (hosted.then_step h e) = then_step (as_called h) (step_told ring w e)
as_called {ring} {w} (hosted.then_tick o o₁ n h e) = then_tick (length o) (as_called h) (tick_told ring w o e)
as_called {ring} {w} (hosted.then_back h e) = then_back (as_called h) (back_told ring w e)
as_called {ring} {w} (hosted.then_run n h e) = then_run n (as_called h) (run_told ring w n e)

-- Demand 3, of the calls for C.
pub demand3_heard : {ring w : ℕ} {s₀ s : State} {l : List Said} → Good s₀ → s₀.mem.used ≡ 0 → HostCalled ring w s₀ l s → Keeps s₀ (past_of s₀ l) (count_of l) s
demand3_heard g z h = demand3 g z (as_called h)
