-- A run: its steps and stores are those of its completed steps, and it stops at the first answer other than 0.
use mathlib.Core.Path.{◌≡◌, refl, ◌∙◌, ap, sym, subst}
use mathlib.Core.Bool.{true, false}
use Prim.Native.Nat.{ℕ, zero, suc, ◌+◌, suc-le-suc}
use native.Mathlib.Nat.{zero-lt-suc}
use native.Mathlib.Omega.{arith}
use lib.ListN.{length}
use Rattle.rules.specs.Machine.{State}
use Rattle.rules.specs.Answers.{answer_for, wrong_length}
use Rattle.rules.specs.Calls.{instruction, fits, Reply, done, refused, left, step, step_stores, Report, report, onto, steps, run}
use Rattle.rules.specs.Demands.{Accepted, AllAccepted, forward, total, instructions, Ends, full, cut}

-- ---- the first step comes first

forward_first : (n : ℕ) (s : State) → forward (instructions (suc n)) s ≡ forward (instructions n) (left (step instruction s))
forward_first zero s = refl
forward_first (suc n) s = ap (λ (x : State). left (step instruction x)) (forward_first n s)

total_first : (n : ℕ) (s : State) → total (instructions (suc n)) s ≡ length (step_stores instruction s) + total (instructions n) (left (step instruction s))
total_first zero s = omega arith
total_first (suc n) s = omega (arith, total_first n s, ap (λ (x : State). length (step_stores instruction x)) (forward_first n s))

accepted_first : (n : ℕ) (s : State) → Accepted (step instruction s) → AllAccepted (instructions n) (left (step instruction s)) → AllAccepted (instructions (suc n)) s
accepted_first zero s a h = (tt, a)
accepted_first (suc n) s a h = (accepted_first n s a h.0, subst (λ (x : State). Accepted (step instruction x)) (sym (forward_first n s)) h.1)

-- ---- by induction on the number of steps

ends_before : (n : ℕ) (s : State) (r : Report) → Accepted (step instruction s) → Ends n (left (step instruction s)) r
    → Ends (suc n) s (report r.answer (suc r.steps) (length (step_stores instruction s) + r.stores) r.end)
ends_before n s r a (full h) = rw (← total_first n s, ← forward_first n s) (full (accepted_first n s a h))
ends_before n s r a (cut {k} l h e) =
    rw (← total_first k s) (cut (suc-le-suc l) (accepted_first k s a h) (ap (step instruction) (forward_first k s) ∙ e))

ends_onto : (n : ℕ) (s : State) (p : Reply) (r : Report) → step instruction s ≡ p → Ends n (left p) r → Ends (suc n) s (onto p (length (step_stores instruction s)) r)
ends_onto n s (done t) r e h =
    ends_before n s r (subst Accepted (sym e) tt) (subst (λ (x : Reply). Ends n (left x) r) (sym e) h)
ends_onto n s (refused a t) r e h = cut (zero-lt-suc n) tt e

pub steps_end : (n : ℕ) (s : State) → Ends n s (steps n s)
unfolding steps
steps_end zero s = full tt
steps_end (suc n) s = ends_onto n s (step instruction s) (steps n (left (step instruction s))) refl (steps_end n (left (step instruction s)))

-- A run whose parts fit ends as its steps do; any other answers 11 and touches nothing.
pub run_ends : (n : ℕ) (s : State) → fits s.mem ≡ true → Ends n s (run n s)
unfolding run
run_ends n s h = rw h (steps_end n s)

pub run_unfit : (n : ℕ) (s : State) → fits s.mem ≡ false → run n s ≡ report (answer_for wrong_length) 0 0 s
unfolding run
run_unfit n s h = rw h
