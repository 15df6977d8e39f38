-- Who wrote a cell, by the memory's number: the rules' answer of its kind, or where it has no cell what that leaves.
use Rattle.std.proofs.Common.{◌≡◌, refl, ◌∙◌, ap, Bool, true, false, ℕ}
use Rattle.rules.specs.Machine.{Kind, cpu, vdp, register, grom, Mem}
use Rattle.rules.specs.Journal.{kind_number}
use Rattle.culprit.specs.Culprit.{Wrote, who_wrote}
use Rattle.export.specs.Who.{kind_in, has_cells, unfound, asked}

module _ (n a : ℕ) (m : Mem) {k : Kind} {b : Bool} {w : Wrote} (e : k ≡ kind_in n) (f : b ≡ has_cells n) (h : w ≡ who_wrote k a m) where
  said : w ≡ who_wrote (kind_in n) a m
  said = h ∙ ap (λ (x : Kind). who_wrote x a m) e

  pub asked_there : b ≡ true → w ≡ asked n a m
  unfolding asked
  asked_there t = rw (← f, t) said

  pub asked_nowhere : {v : Wrote} → b ≡ false → v ≡ unfound w → v ≡ asked n a m
  unfolding asked
  asked_nowhere t q = rw (← f, t) (q ∙ ap unfound said)

-- a kind's number is of that kind
pub asked_kind : (k : Kind) (a : ℕ) (m : Mem) → asked (kind_number k) a m ≡ who_wrote k a m
unfolding asked has_cells kind_in
asked_kind cpu a m = refl
asked_kind vdp a m = refl
asked_kind register a m = refl
asked_kind grom a m = refl
