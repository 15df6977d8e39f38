-- The order of data records does not matter: any two neighbours of a sound text may change places.
-- Assumes nothing.
use Rattle.std.proofs.Common.{◌≡◌, refl, sym, ap, ◌∙◌, Bool, true, false, cond, List, [], ◌∷◌, ◌⊎◌, inl, inr, ⊎_elim, ℕ, zero, suc, ◌+◌}
use Rattle.std.proofs.Common.{◌-◌, ◌≤◌, ◌<◌, arith, eqb, leb, length, get_or, set, take, drop, replicate, length-set, length-drop}
use Rattle.std.proofs.Common.{get_or-set_same, get_or-set_other, get_or-take, get_or-drop, length-take-le, eq-eqb, ne_eqb, le-leb, eqb-true}
use Rattle.std.proofs.Common.{leb-true}
use Rattle.std.proofs.Math.ListN.{length-replicate}
use Rattle.std.proofs.Math.Seq.{set_comm}
use Rattle.lines.specs.Digits.{laid}
use Rattle.lines.proofs.Overlay.{laid_set}
use Rattle.lines.proofs.Widths.{either}
use Rattle.intelhex.specs.Records.{Record, holds, end, bad}
use Rattle.intelhex.specs.Dump.{Read, told, idle, trial, judged, filled}
use Rattle.intelhex.proofs.Back.{length_laid}
use Rattle.intelhex.proofs.Saying.{both}

-- ---- bytes laid at places apart

-- a store before what is laid over
laid_set_before : (xs : List ℕ) (at : ℕ) (bs : List ℕ) (j c : ℕ) → j < at → laid (set xs j c) at bs ≡ set (laid xs at bs) j c
unfolding laid
laid_set_before xs at [] j c h = refl
laid_set_before xs at (b ∷ bs) j c h = rw (set_comm xs j at c b (λ e. omega arith)) (laid_set_before (set xs at b) (suc at) bs j c (omega arith))

before : (xs : List ℕ) (i : ℕ) (os : List ℕ) (j : ℕ) (bs : List ℕ) → i + length os ≤ j → laid (laid xs i os) j bs ≡ laid (laid xs j bs) i os
unfolding laid
before xs i os j [] h = refl
before xs i os j (b ∷ bs) h = ap (λ (l : List ℕ). laid l (suc j) bs) (sym (laid_set xs i os j b h)) ∙ before (set xs j b) i os (suc j) bs (omega arith)

apart : (xs : List ℕ) (i : ℕ) (os : List ℕ) (j : ℕ) (bs : List ℕ) → (i + length os ≤ j) ⊎ (j + length bs ≤ i)
    → laid (laid xs i os) j bs ≡ laid (laid xs j bs) i os
apart xs i os j bs h = ⊎_elim (λ l. before xs i os j bs l) (λ l. sym (before xs j bs i os l)) h

-- ---- what was laid, and what was not

pub other : (xs : List ℕ) (at : ℕ) (bs : List ℕ) (j : ℕ) → (j < at) ⊎ (at + length bs ≤ j) → get_or (laid xs at bs) j 0 ≡ get_or xs j 0
unfolding laid
other xs at [] j h = refl
other xs at (b ∷ bs) j h =
    other (set xs at b) (suc at) bs j (⊎_elim (λ l. inl (omega arith)) (λ l. inr (omega arith)) h)
    ∙ get_or-set_other xs at j b 0 (λ e. ⊎_elim (λ l. omega arith) (λ l. omega arith) h)

-- a flag that was set
pub flagged : (xs : List ℕ) (at k j : ℕ) → at ≤ j → j < at + k → j < length xs → get_or (laid xs at (replicate k 1)) j 0 ≡ 1
unfolding laid
flagged xs at zero j h l m = absurd (omega arith)
flagged xs at (suc k) j h l m =
    ⊎_elim (λ q. flagged (set xs at 1) (suc at) k j q (omega arith) (omega (arith, length-set xs at 1)))
    (λ q. let same : j ≡ at = omega arith in
    other (set xs at 1) (suc at) (replicate k 1) j (inl (omega arith)) ∙ rw same (get_or-set_same xs at 1 0 (omega arith)))
    (either at j)

-- ---- a row of flags that are 0

idle_at : (fs : List ℕ) → idle fs ≡ true → (j : ℕ) → j < length fs → get_or fs j 0 ≡ 0
unfolding idle
idle_at [] e j h = refl
idle_at (f ∷ fs) e zero h = eqb-true f 0 (both (eqb f 0) (idle fs) e).0
idle_at (f ∷ fs) e (suc j) h = idle_at fs (both (eqb f 0) (idle fs) e).1 j (omega arith)

at_idle : (fs : List ℕ) → ((j : ℕ) → j < length fs → get_or fs j 0 ≡ 0) → idle fs ≡ true
unfolding idle
at_idle [] h = refl
at_idle (f ∷ fs) h = rw (eq-eqb f 0 (h zero (omega arith))) (at_idle fs (λ j l. h (suc j) (omega arith)))

-- ---- a record that may be named

-- within the image, and no flag set
abbrev pub Free : List ℕ → ℕ → ℕ → Type 0
Free flags at k = (at + k ≤ length flags) × ((j : ℕ) → at ≤ j → j < at + k → get_or flags j 0 ≡ 0)

passes : (a b : Bool) → ◌≡◌ {A = ℕ} (cond a (cond b 0 21) 20) 0 → (a ≡ true) × (b ≡ true)
passes true true e = (refl, refl)
passes true false e = absurd (omega arith)
passes false b e = absurd (omega arith)

pub free : (flags : List ℕ) (at k : ℕ) → (k ≡ 0 → ⊥) → trial flags at k ≡ 0 → Free flags at k
unfolding trial
free flags at k z e =
    let both = passes (leb (at + k) (length flags)) (idle (take k (drop at flags))) (rw (ne_eqb k 0 z) at e) in
    let fits : at + k ≤ length flags = leb-true (at + k) (length flags) both.0 in
    let long : length (take k (drop at flags)) ≡ k = length-take-le k (drop at flags) (omega (arith, length-drop at flags)) in (
      fits,
      λ j h l.
          let place : at + (j - at) ≡ j = omega arith in
          ap (λ (x : ℕ). get_or flags x 0) (sym place) ∙ sym (get_or-drop at flags (j - at) 0) ∙ sym (get_or-take k (drop at flags) (j - at) 0 (omega arith))
          ∙ idle_at (take k (drop at flags)) both.1 (j - at) (omega arith),
    )

tried : (flags : List ℕ) (at k : ℕ) → (k ≡ 0 → ⊥) → Free flags at k → trial flags at k ≡ 0
unfolding trial
tried flags at k z f =
    let long : length (take k (drop at flags)) ≡ k = length-take-le k (drop at flags) (omega (arith, length-drop at flags, f.0)) in
    let none : idle (take k (drop at flags)) ≡ true = at_idle (take k (drop at flags)) (λ j l.
    get_or-take k (drop at flags) j 0 (omega arith) ∙ get_or-drop at flags j 0 ∙ f.1 (at + j) (omega arith) (omega arith)) in
    rw (ne_eqb k 0 z, le-leb (at + k) (length flags) f.0, none)

nothing : (flags : List ℕ) (at : ℕ) → trial flags at 0 ≡ 0
unfolding trial
nothing flags at = refl

abbrev ones : ℕ → List ℕ
ones k = replicate k 1

module _ (flags : List ℕ) (i k j m : ℕ) (a : k ≡ 0 → ⊥) (b : m ≡ 0 → ⊥) (f : Free flags i k) (g : Free (laid flags i (ones k)) j m) where
  same : length (laid flags i (ones k)) ≡ length flags
  same = length_laid flags i (ones k)

  clash : (p : ℕ) → i ≤ p → p < i + k → j ≤ p → p < j + m → ⊥
  clash p h l q r = omega (arith, flagged flags i k p h l (omega (arith, f.0)), g.1 p q r)

  parted : (i + k ≤ j) ⊎ (j + m ≤ i)
  parted =
      ⊎_elim (λ l. ⊎_elim (λ q. absurd (⊎_elim (λ o. clash i (omega arith) (omega arith) (omega arith) q) (λ o. clash j o l (omega arith) (omega arith))
      (either j i))) (λ q. inr q) (either i (j + m)))
      (λ l. inl l) (either j (i + k))

  second_first : Free flags j m
  second_first = (
    omega (arith, g.0, same),
    λ x h l. sym (other flags i (ones k) x
        (⊎_elim (λ o. inr (omega (arith, length-replicate {A = ℕ} k 1))) (λ o. inl (omega arith)) parted)) ∙ g.1 x h l,
  )

  first_second : Free (laid flags j (ones m)) i k
  first_second = (
    omega (arith, f.0, length_laid flags j (ones m)),
    λ x h l. other flags j (ones m) x
        (⊎_elim (λ o. inl (omega arith)) (λ o. inr (omega (arith, length-replicate {A = ℕ} m 1))) parted) ∙ f.1 x h l,
  )

-- two records that can be named one after the other can be named the other way round, and leave the same bytes
abbrev Swap : List ℕ → ℕ → List ℕ → ℕ → List ℕ → Type 0
Swap flags i s j t =
    (trial flags j (length t) ≡ 0) × (trial (laid flags j (ones (length t))) i (length s) ≡ 0)
    × ((img : List ℕ) → laid (laid img i s) j t ≡ laid (laid img j t) i s)
    × (laid (laid flags i (ones (length s))) j (ones (length t)) ≡ laid (laid flags j (ones (length t))) i (ones (length s)))

swap : (flags : List ℕ) (i : ℕ) (s : List ℕ) (j : ℕ) (t : List ℕ) → trial flags i (length s) ≡ 0
    → trial (laid flags i (ones (length s))) j (length t) ≡ 0 → Swap flags i s j t
unfolding laid
swap flags i [] j t e f = (f, nothing (laid flags j (ones (length t))) i, λ img. refl, refl)
swap flags i (x ∷ s) j [] e f = (nothing flags j, e, λ img. refl, refl)
swap flags i (x ∷ s) j (y ∷ t) e f =
    let k = suc (length s) in
    let m = suc (length t) in
    let p = free flags i (suc (length s)) (λ z. omega arith) e in
    let q = free (laid flags i (ones (suc (length s)))) j (suc (length t)) (λ z. omega arith) f in
    let o = parted flags i (suc (length s)) j (suc (length t)) (λ z. omega arith) (λ z. omega arith) p q in (
      tried flags j (suc (length t)) (λ z. omega arith) (second_first flags i (suc (length s)) j (suc (length t)) (λ z. omega arith) (λ z. omega arith) p q),
      tried (laid flags j (ones (suc (length t)))) i (suc (length s)) (λ z. omega arith)
          (first_second flags i (suc (length s)) j (suc (length t)) (λ z. omega arith) (λ z. omega arith) p q),
      λ img. apart img i (x ∷ s) j (y ∷ t) o,
      apart flags i (ones (suc (length s))) j (ones (suc (length t))) (⊎_elim (λ l. inl (omega (
        arith,
        length-replicate {A =
            ℕ} (suc (length s)) 1,
      ))) (λ l. inr (omega (arith, length-replicate {A = ℕ} (suc (length t)) 1))) o),
    )

-- ---- records in another order

-- two neighbours change places
pub data Swapped : List Record → List Record → Type 0 where
  here : {i j : ℕ} {s t : List ℕ} {rs : List Record} → Swapped (holds i s ∷ holds j t ∷ rs) (holds j t ∷ holds i s ∷ rs)
  later : {r : Record} {rs ss : List Record} → Swapped rs ss → Swapped (r ∷ rs) (r ∷ ss)

zero_told : (b : Bool) (t n : ℕ) (r : Read) → eqb t 0 ≡ b → cond b r (told t n) ≡ told 0 0 → (t ≡ 0) × (r ≡ told 0 0)
zero_told true t n r h e = (eqb-true t 0 h, e)
zero_told false t n r h e =
    let z : t ≡ 0 = ap (λ (x : Read). x.answer) e in let wrong : true ≡ false = sym (eq-eqb t 0 z) ∙ h in let no : ◌≡◌ {A = ℕ} 0 1 = cc in absurd
    (omega arith)

pub onward : (flags : List ℕ) (n i : ℕ) (s : List ℕ) (rs : List Record) → judged flags n (holds i s ∷ rs) ≡ told 0 0
    → (trial flags i (length s) ≡ 0) × (judged (laid flags i (ones (length s))) (suc n) rs ≡ told 0 0)
unfolding judged
onward flags n i s rs e = zero_told (eqb (trial flags i (length s)) 0) (trial flags i (length s)) n _ refl e

back : (flags : List ℕ) (n i : ℕ) (s : List ℕ) (rs : List Record) → trial flags i (length s) ≡ 0
    → judged flags n (holds i s ∷ rs) ≡ judged (laid flags i (ones (length s))) (suc n) rs
unfolding judged
back flags n i s rs e = rw (eq-eqb (trial flags i (length s)) 0 e)

pub no_more : (r : Record) (rs : List Record) (flags : List ℕ) (n : ℕ) → judged flags n (end ∷ r ∷ rs) ≡ told 0 0 → ⊥
unfolding judged
no_more r rs flags n e = let z : ◌≡◌ {A = ℕ} 20 0 = ap (λ (x : Read). x.answer) e in omega arith

pub not_bad : (rs : List Record) (flags : List ℕ) (n : ℕ) → judged flags n (bad ∷ rs) ≡ told 0 0 → ⊥
unfolding judged
not_bad rs flags n e = let z : ◌≡◌ {A = ℕ} 20 0 = ap (λ (x : Read). x.answer) e in omega arith

pub order : {rs ss : List Record} → Swapped rs ss → (flags : List ℕ) (n : ℕ) → judged flags n rs ≡ told 0 0
    → (judged flags n ss ≡ told 0 0) × ((img : List ℕ) → filled img ss ≡ filled img rs)
unfolding filled
order (here {i} {j} {s} {t} {rs}) flags n e =
    let one = onward flags n i s (holds j t ∷ rs) e in
    let two = onward (laid flags i (ones (length s))) (suc n) j t rs one.1 in
    let w = swap flags i s j t one.0 two.0 in (
      back flags n j t (holds i s ∷ rs) w.0 ∙ back (laid flags j (ones (length t))) (suc n) i s rs w.1
          ∙ ap (λ (l : List ℕ). judged l (suc (suc n)) rs) (sym w.3) ∙ two.1,
      λ img. ap (λ (l : List ℕ). filled l rs) (sym (w.2 img)),
    )
order (later {r = holds i s} {rs} {ss} p) flags n e =
    let one = onward flags n i s rs e in
    let more = order p (laid flags i (ones (length s))) (suc n) one.1 in
    (back flags n i s ss one.0 ∙ more.0, λ img. more.1 (laid img i s))
order (later {r = end} here) flags n e = absurd (no_more _ _ flags n e)
order (later {r = end} (later p)) flags n e = absurd (no_more _ _ flags n e)
order (later {r = bad} p) flags n e = absurd (not_bad _ flags n e)

-- ---- any other order

pub data Reordered : List Record → List Record → Type 0 where
  as_it_is : {rs : List Record} → Reordered rs rs
  swapped : {rs ss ts : List Record} → Reordered rs ss → Swapped ss ts → Reordered rs ts

-- a sound text is sound in any other order of its data records, and gives the same image
pub any_order : {rs ss : List Record} → Reordered rs ss → (flags : List ℕ) (n : ℕ) → judged flags n rs ≡ told 0 0
    → (judged flags n ss ≡ told 0 0) × ((img : List ℕ) → filled img ss ≡ filled img rs)
any_order as_it_is flags n e = (e, λ img. refl)
any_order (swapped {rs} {ss} p q) flags n e =
    let first = any_order p flags n e in
    let then = order q flags n first.0 in
    (then.0, λ img. then.1 img ∙ first.1 img)
