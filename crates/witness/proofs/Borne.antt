-- Each contract of bench bears its demand: by the theorems of bench, of what the call returned.
use Rattle.std.proofs.Common.{◌≡◌, refl, ◌∙◌, ap, sym, subst, Bool, true, false, List, [], ◌++◌, ℕ, zero, suc, ◌<◌, arith, length, drop, replicate}
use Rattle.rules.specs.Machine.{pick, State, cells}
use Rattle.rules.specs.Answers as answers
use Rattle.rules.specs.Calls.{Way, instruction, tick, fits, Reply, done, refused, left, step, tick_sent, written, tick_output, sent_by, step_back, run}
use Rattle.rules.specs.Demands.{Good, Accepted}
use Rattle.rules.proofs.Forget.{drops_plain}
use Rattle.rules.proofs.Fits.{step_fit, accepted_fits}
use Rattle.rules.proofs.History.{stepped, back_undoes, fits_after}
use Rattle.bench.specs.declared.at.At.{At}
use Rattle.bench.specs.Numbers as numbers
use Rattle.bench.specs.Numbers.{Ticked}
use Rattle.bench.specs.Meaning.{state_at, Returned, leaves, told, stepping, backing, reported, Heard, replied, heard, ticking, Tells}
use Rattle.bench.proofs.Steps.{AreBytes, bytes_of}
use Rattle.bench.proofs.Replies.{accepts, refuses, leads}
use Rattle.bench.proofs.Heard.{as_step}
use Rattle.bench.proofs.Promises.{demand1, demand2, run_unfit, run_ends, step_back_refused}
use Rattle.witness.specs.Demanded as demanded
use Rattle.witness.specs.Demanded.{begun_bytes, Sends, sends, withholds, Tick, Home}

-- bytes are bytes, an address has 16 bits and the groups eight: what the types give
pub good_of : {i p v g : List ℕ} (j : List ℕ) {at : At} → at.pc < 65536 → at.writable < 256 → AreBytes i → AreBytes p → AreBytes v → AreBytes g → Good (state_at i p v g j at)
good_of {i} {p} {v} {g} j {at} l w d a b c = record { address = l; bytes = bytes_of (state_at i p v g j at).mem w d a b c }

-- an answer is 0, or not
data Answer (n : ℕ) : Type 0 where
  is_0 : n ≡ 0 → Answer n
  not_0 : (n ≡ 0 → ⊥) → Answer n

answer : (n : ℕ) → Answer n
answer zero = is_0 refl
answer (suc n) = not_0 (λ e. omega arith)

module _ {s : State} {x : Returned numbers.Reply} where
  pub step_bears : (w : Way) → Tells told (stepping w) s x → demanded.Step w s x
  step_bears w e = go (answer x.result.answer)
    where
      go : Answer x.result.answer → demanded.Step w s x
      go (is_0 z) = demanded.accepted z (demand2 w e z)
      go (not_0 h) = demanded.refused h (demand1 w e h).0 (demand1 w e h).1

  pub back_bears : Tells told backing s x → demanded.Back s x
  back_bears e = go (answer x.result.answer)
    where
      go : Answer x.result.answer → demanded.Back s x
      go (is_0 z) = demanded.accepted z (accepts e z)
      go (not_0 h) = demanded.refused h (step_back_refused e h).0 (step_back_refused e h).1

  -- a refused step has changed neither address nor memories
  pub home_refused : Tells told (stepping instruction) s x → (x.result.answer ≡ 0 → ⊥) → Home s (leaves x)
  home_refused e h =
      let d = (demand1 instruction e h).0 in
      record { address = d.address; source = d.source; memories = d.memories; used = λ r. omega (arith, d.used, drops_plain r d.drops) }

-- ---- a tick

module _ (o : List ℕ) (s : State) where
  -- what it leaves of an output, by its reply
  output_left : (r : Reply) → step (tick (length o)) s ≡ r → (c : Bool) → fits s.mem ≡ c → tick_output o s ≡ written r (pick c (tick_sent (length o) s) []) o
  unfolding tick_output
  output_left r q true f = rw f (ap (λ (y : Reply). written y (tick_sent (length o) s) o) (sym (step_fit (tick (length o)) s f) ∙ q))
  output_left (done t) q false f = rw f
  output_left (refused a t) q false f = rw f

  sends_all : {o₁ : List ℕ} {n : ℕ} {t : State} → step (tick (length o)) s ≡ done t → n ≡ sent_by (length o) s (step (tick (length o)) s) → o₁ ≡ tick_output o s
      → Sends o s o₁ 0 n
  sends_all {t = t} q e h =
      let f : fits s.mem ≡ true = accepted_fits (tick (length o)) s (subst Accepted (sym q) tt) in
      rw (e ∙ ap (sent_by (length o) s) q) (sends (h ∙ output_left (done t) q true f))

  sends_none : {o₁ : List ℕ} {n b : ℕ} {a : answers.Answer} {t : State} → (b ≡ 0 → ⊥) → step (tick (length o)) s ≡ refused a t
      → n ≡ sent_by (length o) s (step (tick (length o)) s) → o₁ ≡ tick_output o s → Sends o s o₁ b n
  sends_none {o₁} {n} {b} {a} {t} ne q e h = rw (e ∙ ap (sent_by (length o) s) q) (withholds ne (go (fits s.mem) refl))
    where
      go : (c : Bool) → fits s.mem ≡ c → o₁ ≡ replicate (begun_bytes o s) 0 ++ drop (begun_bytes o s) o
      go true f = rw f (h ∙ output_left (refused a t) q true f)
      go false f = rw f (h ∙ output_left (refused a t) q false f)

pub tick_bears : {o o₁ : List ℕ} {n : ℕ} {s : State} {x : Returned numbers.Reply} → Tells told (stepping (tick (length o))) s x
    → n ≡ sent_by (length o) s (step (tick (length o)) s) → o₁ ≡ tick_output o s → Tick o o₁ n s x
tick_bears {o} {o₁} {n} {s} {x} e q h = record { step = step_bears (tick (length o)) e; output = go (answer x.result.answer) }
  where
    go : Answer x.result.answer → Sends o s o₁ x.result.answer n
    go (is_0 z) = rw z (sends_all o s (accepts e z) q h)
    go (not_0 ne) = sends_none o s ne (refuses e ne) q h

pub ticked_bears : (o : List ℕ) {o₁ : List ℕ} {s : State} {x : Returned Ticked} → Tells (heard o₁) (ticking o) s x → Tick o o₁ x.result.sent s (replied x)
ticked_bears o e = tick_bears (as_step o e) (ap (λ (h : Heard). h.sent) e.is) (ap (λ (h : Heard). h.output) e.is)

pub run_bears : (n : ℕ) {s : State} {x : Returned numbers.Report} → Tells reported (run n) s x → demanded.Run n s x
run_bears n {s} {x} e = go (fits s.mem) refl
  where
    go : (c : Bool) → fits s.mem ≡ c → demanded.Run n s x
    go true f = demanded.fit f (run_ends n e f)
    go false f = demanded.unfit f (run_unfit n e f)

-- an accepted step, and the step back from where it led
pub home_back : {s : State} {x y : Returned numbers.Reply} → Good s → Tells told (stepping instruction) s x → x.result.answer ≡ 0 → Tells told backing (leaves x) y
    → Home s (leaves y)
home_back {s} {x} {y} g e z k =
    let w : Way = instruction in
    let there : step w s ≡ done (leaves x) = accepts e z in
    let a : Accepted (step w s) = subst Accepted (sym there) tt in
    let back : step_back (leaves x) ≡ _ = ap (λ (r : Reply). step_back (left r)) (sym there) ∙ back_undoes w s g a (fits_after w s g a) in
    let same : leaves y ≡ _ = leads k ∙ ap left back in
    record {
      address = ap (λ (t : State). t.pc) same;
      source = ap (λ (t : State). t.source) same;
      memories = λ m. ap (λ (t : State). cells m t.mem) same;
      used = λ r. ap (λ (t : State). t.mem.used) same ∙ (omega (arith, drops_plain r (stepped w s g a).late.few));
    }
