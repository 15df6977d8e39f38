-- Test 11 before a step.
use Rattle.std.proofs.Common.{◌≡◌, ◌∙◌, refl, sym, Bool, true, false, List, ℕ, ◌<◌, length, get_or, w8, Fits}
use Rattle.rules.specs.Machine.{◌also◌, Kind, cpu, vdp, register, grom, Mem, cells, State}
use Rattle.rules.specs.Answers.{answer_for, wrong_length}
use Rattle.rules.specs.Rules.{Out, got, stopped}
use Rattle.rules.specs.Sound.{Source}
use Rattle.rules.specs.Calls.{Way, image_fits, parts_fit, place_fits, fits, attempt, settle, fit_step, step, step_stores, made}
use Rattle.rules.specs.Demands.{Bytes}
use Rattle.ring.proofs.Turned.{length_turned}
use Rattle.bench.specs.declared.at.At.{At}
use Rattle.bench.specs.Numbers as numbers
use Rattle.bench.specs.Meaning.{state_at, Returned, returned, outcome, replies, told, refusal, settled, settling, stepping, Tells}

-- bytes are bytes
abbrev pub AreBytes : List ℕ → Type 0
AreBytes l = (n : ℕ) → Fits w8 (get_or l n 0)

pub bytes_of : (m : Mem) → m.groups < 256 → AreBytes m.image → AreBytes m.pad → AreBytes m.vram → AreBytes m.regs → Bytes m
bytes_of m w d a b c = (cell, w)
  where
    cell : (k : Kind) (n : ℕ) → get_or (cells k m) n 0 < 256
    cell cpu n = (a n).fits
    cell vdp n = (b n).fits
    cell register n = (c n).fits
    cell grom n = (d n).fits

-- ---- the call

as_step : (w : Way) (s : State) (o : Out Source) → settled s o (step_stores w s) ≡ outcome (settle s o) (made w s (settle s o))
as_step w s (got f pc m) = refl
as_step w s (stopped n m) = refl

-- what test 11 is told
pub tested : (i p v g j : List ℕ) (at : At) {t : Bool}
    → t ≡ (image_fits (length i) also parts_fit (length p) (length v) (length g) (length j) at.used also place_fits at.ring at.place (length j))
    → t ≡ fits (state_at i p v g j at).mem
tested i p v g j at e = rw (length_turned at.ring at.place j) e

pub step_unfit : (w : Way) {i p v g j : List ℕ} {at : At} {t : Bool} → t ≡ fits (state_at i p v g j at).mem → t ≡ false
    → Tells told (stepping w) (state_at i p v g j at) (returned i p v g j (refusal (answer_for wrong_length) at))
unfolding step replies
step_unfit w e h = record { is = rw (sym e ∙ h) }

pub step_fits : (w : Way) {s : State} {x : Returned numbers.Reply} {t : Bool} → t ≡ fits s.mem → t ≡ true → Tells told (settling w) s x → Tells told (stepping w) s x
unfolding step fit_step
step_fits w {s} e h k = record { is = rw (sym e ∙ h) (k.is ∙ as_step w s (attempt w s)) }
