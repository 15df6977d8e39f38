-- Laws of flags.
-- Assumes nothing.
use Rattle.std.proofs.Common.{◌≡◌, refl, ◌&&◌, List, ℕ, ◌+◌, ◌-◌, ◌≤◌, eqb, length, take, drop, replicate, length-take, length-drop, arith}
use Rattle.std.proofs.lemmas.List.{length-replicate}
use borrow.Rule.Slice.PartMut.{put_mid}
use Rattle.std.specs.List.{list_all}
use Rattle.std.proofs.lemmas.List.Recursion.{same_from_clauses}
use Rattle.lines.proofs.Numerals.{unless}
use Rattle.lines.proofs.Overlay.{laid_mid}
use Rattle.intelhex.specs.Dump.{idle, named}

-- what `all` says of the flags
pub idle_all : (fs : List ℕ) → list_all (λ f. eqb f 0) fs ≡ idle fs
unfolding idle
idle_all fs = same_from_clauses (list_all (λ f. eqb f 0)) idle (λ f b. eqb f 0 && b) refl (λ f gs. refl) (λ f gs. unless (eqb f 0) (idle gs)) fs

-- those of a record set
pub named_mid : (fs : List ℕ) (at k : ℕ) (ones : List ℕ) → at + k ≤ length fs → ones ≡ replicate (length (take (at + k - at) (drop at fs))) 1
    → put_mid at (at + k - at) fs ones ≡ named fs at k
named_mid fs at k ones h e =
    let many : length (take (at + k - at) (drop at fs)) ≡ k = omega (arith, length-take (at + k - at) (drop at fs), length-drop at fs) in
    let long : length (replicate {A = ℕ} k 1) ≡ k = length-replicate k 1 in
    let place : at + length (replicate {A = ℕ} k 1) - at ≡ at + k - at = omega (arith, long) in
    rw (e, many, ← place) (laid_mid fs at (replicate k 1) (omega (arith, long)))
