-- 02, item 5: "In this mode answer 10 is given only when one step alone needs more than the whole journal."
use mathlib.Core.Path.{◌≡◌, refl, ◌∙◌, ap, sym}
use mathlib.Core.Bool.{true, false}
use Prim.Native.Nat.{◌≤◌}
use native.Mathlib.Omega.{arith}
use lib.ListN.{length}
use borrow.Author.Tests.{ltb-false}
use Rattle.rules.specs.Machine.{Mem, State, state, beside}
use Rattle.rules.specs.Rules.{Out, room, spare}
use Rattle.rules.specs.Sound.{Source}
use Rattle.rules.specs.Calls.{Way, fits, answer, taken, settle, fit_step, step}
use Rattle.rules.proofs.Tests.{false_true}
use Rattle.rules.proofs.Laid.{Sane, room_held}
use Rattle.rules.proofs.Kept.{Both, on, off}
use Rattle.rules.proofs.Alike.{Alike, attempt_alike}
use Rattle.rules.proofs.Fits.{fits_place, fits_like, step_fit}
use Rattle.rules.proofs.History.{Shares, alike_rest}

-- no word is found only where the step's own are all there are
pub own_words : (m : Mem) → Sane m → m.ring ≡ true → room (spare m) ≡ false → length m.journal ≤ taken m
own_words m s r e = ltb-false (taken m) (length m.journal) (rw r at (sym (room_held m s) ∙ e))

-- the same machine, and no word used
abbrev pub alone : State → State
alone s = state s.pc s.source (beside s.mem.journal 0 s.mem)

same_answer : (t s : State) {o p : Out Source} → Both Alike (λ a m n. Unit {0}) o p → answer (settle t o) ≡ answer (settle s p)
same_answer t s (on h) = refl
same_answer t s (off h) = refl

-- so whatever the journal holds, a step answers as it does alone
pub answers_alone : (w : Way) (s : State) → fits s.mem ≡ true → s.mem.ring ≡ true → answer (step w s) ≡ answer (step w (alone s))
unfolding fit_step
answers_alone w s f r =
    let shared : Shares (alone s) s = record { pc = refl; source = refl; cells = refl } in
    let k : fits (alone s).mem ≡ true =
    fits_like {m = s.mem} {m' = (alone s).mem} (record { cells = λ k. refl; words = refl; mode = refl; used = omega arith; place = fits_place s.mem f }) f in
    ap answer (step_fit w s f)
    ∙ sym (same_answer (alone s) s (attempt_alike w (alone s) s refl refl (alike_rest (alone s) s shared k f refl refl (λ e. absurd (false_true (sym e ∙ r))))))
    ∙ ap answer (sym (step_fit w (alone s) k))
