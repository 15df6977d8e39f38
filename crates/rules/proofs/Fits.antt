-- Test 11 of a step and of a step back: what a call is where it passes, and what a machine must keep to pass it again.
use mathlib.Core.Path.{◌≡◌, refl}
use mathlib.Core.Bool.{Bool, true, false}
use Prim.Native.Nat.{ℕ, zero, suc, ◌+◌, ◌%◌, ◌≤◌}
use native.Mathlib.Nat.{mod-lt}
use native.Mathlib.Omega.{arith}
use lib.Dec.{eqb, ltb}
use lib.ListN.{length}
use borrow.Author.Tests.{le-leb, leb-true, lt-ltb}
use Rattle.rules.specs.Machine.{pick, Kind, cpu, vdp, register, grom, size, Mem, State, cells}
use Rattle.rules.specs.Answers.{answer_for, wrong_length}
use Rattle.rules.specs.Journal.{place_on}
use Rattle.rules.specs.Calls.{Way, parts_fit, place_fits, fits, Reply, refused, fit_step, step, step_stores, fit_back, step_back}
use Rattle.rules.specs.Demands.{Good, Accepted}
use Rattle.rules.proofs.Tests.{both, together}
use Rattle.rules.proofs.Steps.{Settled, settled}

-- ---- used count and place alone can change

pub fits_used : (m : Mem) → fits m ≡ true → m.used ≤ length m.journal
unfolding parts_fit
fits_used m h = leb-true m.used (length m.journal) (both (both (both (both (both (both h).1).0).1).1).1).1

pub fits_words : (m : Mem) → fits m ≡ true → length m.journal ≤ 1048576
unfolding parts_fit
fits_words m h = leb-true (length m.journal) 1048576 (both (both (both (both (both (both h).1).0).1).1).1).0

pub fits_place : (m : Mem) → fits m ≡ true → place_fits m.ring m.place (length m.journal) ≡ true
fits_place m h = (both (both h).1).1

module _ (p v r j u : ℕ) where
  parts_other : (w : ℕ) → w ≤ j → parts_fit p v r j u ≡ true → parts_fit p v r j w ≡ true
  unfolding parts_fit
  parts_other w l h =
      let pads : (eqb p (size cpu) ≡ true) × _ = both h in
      let vrams : (eqb v (size vdp) ≡ true) × _ = both pads.1 in
      let regs : (eqb r (size register) ≡ true) × _ = both vrams.1 in
      together pads.0 (together vrams.0 (together regs.0 (together (both regs.1).0 (le-leb w j l))))

-- a machine with as many cells and words as one that fits
pub record Like (m m' : Mem) : Type 0 where
  pub cells : (k : Kind) → length (cells k m') ≡ length (cells k m)
  pub words : length m'.journal ≡ length m.journal
  pub mode : m'.ring ≡ m.ring
  pub used : m'.used ≤ length m.journal
  pub place : place_fits m.ring m'.place (length m.journal) ≡ true

pub fits_like : {m m' : Mem} → Like m m' → fits m ≡ true → fits m' ≡ true
fits_like {m} {m'} h f =
    rw (h.cells grom, h.cells cpu, h.cells vdp, h.cells register, h.words, h.mode)
    (together (both f).0 (together (parts_other _ _ _ _ m.used m'.used h.used (both (both f).1).0) h.place))

-- a place that fits, some words on
pub place_fits_lem : (ring : Bool) (d a c : ℕ) → d ≤ c → place_fits ring a c ≡ true → place_fits ring (place_on d c a) c ≡ true
unfolding place_fits
place_fits_lem ring zero a c l h = h
place_fits_lem ring (suc d) a c l h = place_fits_lem ring d ((a + 1) % c) c (omega arith) (go ring (eqb ((a + 1) % c) 0))
  where
    go : (r z : Bool) → pick r (pick z true (ltb ((a + 1) % c) c)) true ≡ true
    go true true = refl
    go true false = lt-ltb ((a + 1) % c) c (mod-lt (a + 1) (omega arith))
    go false z = refl

-- ---- the calls

module _ (w : Way) (s : State) where
  pub step_fit : fits s.mem ≡ true → step w s ≡ fit_step w s
  unfolding step
  step_fit h = rw h

  pub step_unfit : fits s.mem ≡ false → step w s ≡ refused (answer_for wrong_length) s
  unfolding step
  step_unfit h = rw h

  -- what is known of every step, by what is known of one whose parts fit and of one whose parts don't
  pub step_cases : (P : Reply → Type 0) → (fits s.mem ≡ true → P (fit_step w s)) → (fits s.mem ≡ false → P (refused (answer_for wrong_length) s)) → P (step w s)
  unfolding step
  step_cases P f g = go (fits s.mem) refl
    where
      go : (c : Bool) → fits s.mem ≡ c → P (pick c (fit_step w s) (refused (answer_for wrong_length) s))
      go true e = f e
      go false e = g e

  pub accepted_fits : Accepted (step w s) → fits s.mem ≡ true
  accepted_fits = step_cases (λ r. Accepted r → fits s.mem ≡ true) (λ e a. e) (λ e a. absurd a)

  pub step_settled : Good s → Settled s (step_stores w s) (step w s)
  step_settled g = step_cases (Settled s (step_stores w s)) (λ e. settled w s g (fits_used s.mem e)) (λ e. tt)

pub back_fit : (s : State) → fits s.mem ≡ true → step_back s ≡ fit_back s
unfolding step_back
back_fit s h = rw h
