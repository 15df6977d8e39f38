-- The call: by what test 11 says; and what it answers can be read off the rules' answer, so its contract determines it.
use Rattle.std.proofs.Common.{◌≡◌, refl, ◌∙◌, ap, sym, subst, Bool, true, false, List, ℕ, ◌≤◌, length}
use Rattle.std.specs.Prelude.{Some, None, Ok, Err, eqb}
use Rattle.rules.specs.Machine.{pick, ◌also◌, Kind}
use Rattle.rules.specs.Answers.{answer_for, wrong_length}
use Rattle.rules.specs.Calls.{image_fits, parts_fit, place_fits}
use Rattle.rules.proofs.Fits.{fits_used}
use Rattle.ring.proofs.Turned.{length_turned}
use Rattle.bench.specs.declared.at.At.{At}
use Rattle.bench.specs.Meaning.{state_at}
use Rattle.bench.proofs.Steps.{tested}
use Rattle.culprit.specs.Culprit as culprit
use Rattle.culprit.specs.Culprit.{refusal, none_kept, wrote, fit_who, who_wrote}
use Rattle.culprit.specs.Meaning.{Saying, wrote_of}
use Rattle.culprit.specs.declared.trail.Refusal.TheVariants.{WrongLength, NoRecord}
use Rattle.culprit.proofs.Trails.{who_fit, who_unfit}

module _ (i p v g j : List ℕ) (at : At) {t : Bool}
    (e : t ≡ (image_fits (length i) also parts_fit (length p) (length v) (length g) (length j) at.used also place_fits at.ring at.place (length j))) where
  pub told_unfit : (k : Kind) (a : ℕ) {x : culprit.Wrote} → t ≡ false → x ≡ refusal (answer_for wrong_length) → x ≡ who_wrote k a (state_at i p v g j at).mem
  told_unfit k a h q = q ∙ sym (who_unfit k a (state_at i p v g j at).mem (sym (tested i p v g j at e) ∙ h))

  pub told_fit : (k : Kind) (a : ℕ) {x : culprit.Wrote} → t ≡ true → x ≡ fit_who k a (state_at i p v g j at).mem → x ≡ who_wrote k a (state_at i p v g j at).mem
  told_fit k a h q = q ∙ sym (who_fit k a (state_at i p v g j at).mem (sym (tested i p v g j at e) ∙ h))

  pub used_fit : t ≡ true → at.used ≤ length j
  used_fit h =
      subst (λ (n : ℕ). at.used ≤ n) (length_turned at.ring at.place j) (fits_used (state_at i p v g j at).mem (sym (tested i p v g j at e) ∙ h))

read : culprit.Wrote → Saying
read (refusal a) = Err (pick (eqb a.number 11) WrongLength NoRecord)
read none_kept = Ok None
read (wrote n pc b c) = Ok (Some (record { after = n; pc = pc; before = b; left = c }))

read_wrote : (w : Saying) → read (wrote_of w) ≡ w
unfolding read
read_wrote (Ok (Some c)) = refl
read_wrote (Ok None) = refl
read_wrote (Err WrongLength) = refl
read_wrote (Err NoRecord) = refl

-- two answers that say the same are one
pub wrote_determined : {x : culprit.Wrote} {v w : Saying} → wrote_of v ≡ x → wrote_of w ≡ x → v ≡ w
wrote_determined {v = v} {w = w} e h = sym (read_wrote v) ∙ ap read (e ∙ sym h) ∙ read_wrote w
