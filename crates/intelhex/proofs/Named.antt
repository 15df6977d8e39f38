-- A text that is read gives every byte that its records name, and 0 elsewhere.
-- Assumes nothing.
use Rattle.std.proofs.Common.{◌≡◌, refl, sym, ◌∙◌, List, [], ◌∷◌, ◌⊎◌, inl, inr, ⊎_elim, ℕ, zero, suc, ◌+◌, ◌≤◌, ◌<◌, add-zero, add-suc}
use Rattle.std.proofs.Common.{suc-add, arith, length, get_or, set, replicate, length-set, get_or-set_same}
use Rattle.std.proofs.Math.ListN.{length-replicate}
use Rattle.lines.specs.Digits.{laid}
use Rattle.lines.proofs.Widths.{either}
use Rattle.intelhex.specs.Records.{Record, holds, end, bad}
use Rattle.intelhex.specs.Dump.{told, judged, filled, named}
use Rattle.intelhex.proofs.Back.{length_laid}
use Rattle.intelhex.proofs.Order.{other, flagged, Free, free, onward, no_more, not_bad}

-- a record says a byte at an address
pub data Says : List Record → ℕ → ℕ → Type 0 where
  here : {at : ℕ} {bs : List ℕ} {rs : List Record} (i : ℕ) → i < length bs → Says (holds at bs ∷ rs) (at + i) (get_or bs i 0)
  later : {r : Record} {rs : List Record} {a b : ℕ} → Says rs a b → Says (r ∷ rs) a b

-- no record names an address
pub data Silent : List Record → ℕ → Type 0 where
  none : {a : ℕ} → Silent [] a
  apart : {at a : ℕ} {bs : List ℕ} {rs : List Record} → (a < at) ⊎ (at + length bs ≤ a) → Silent rs a → Silent (holds at bs ∷ rs) a
  ended : {a : ℕ} {rs : List Record} → Silent rs a → Silent (end ∷ rs) a

-- "Bytes that no record names are 0"
pub unnamed : (img : List ℕ) {rs : List Record} {a : ℕ} → Silent rs a → get_or (filled img rs) a 0 ≡ get_or img a 0
unfolding filled
unnamed img none = refl
unnamed img (apart {at} {a} {bs} o s) = unnamed (laid img at bs) s ∙ other img at bs a o
unnamed img (ended s) = unnamed img s

-- what is laid is there
laid_at : (xs : List ℕ) (at : ℕ) (bs : List ℕ) (i : ℕ) → i < length bs → at + length bs ≤ length xs → get_or (laid xs at bs) (at + i) 0 ≡ get_or bs i 0
unfolding laid
laid_at xs at [] i h l = absurd (omega arith)
laid_at xs at (b ∷ bs) zero h l = rw add-zero (other (set xs at b) (suc at) bs at (inl (omega arith)) ∙ get_or-set_same xs at b 0 (omega arith))
laid_at xs at (b ∷ bs) (suc i) h l = rw (add-suc, ← suc-add) (laid_at (set xs at b) (suc at) bs i (omega arith) (omega (arith, length-set xs at b)))

-- past what a record names, or before it, where one of its addresses is named already
beside : (flags : List ℕ) (at k a : ℕ) → Free flags at k → get_or flags a 0 ≡ 1 → (a < at) ⊎ (at + k ≤ a)
beside flags at k a f e =
    ⊎_elim (λ l. inl l) (λ l. ⊎_elim (λ q. absurd (omega (arith, e, f.1 a l q))) (λ q. inr q) (either a (at + k))) (either a at)

-- an address that was named is left alone by what follows
kept : (rs : List Record) (flags img : List ℕ) (n a : ℕ) → judged flags n rs ≡ told 0 0 → get_or flags a 0 ≡ 1 → get_or (filled img rs) a 0 ≡ get_or img a 0
unfolding filled laid
kept [] flags img n a e f = refl
kept (end ∷ []) flags img n a e f = refl
kept (end ∷ r ∷ rs) flags img n a e f = absurd (no_more r rs flags n e)
kept (bad ∷ rs) flags img n a e f = absurd (not_bad rs flags n e)
kept (holds at [] ∷ rs) flags img n a e f = kept rs flags img (suc n) a (onward flags n at [] rs e).1 f
kept (holds at (b ∷ bs) ∷ rs) flags img n a e f =
    let one = onward flags n at (b ∷ bs) rs e in
    let o = beside flags at (suc (length bs)) a (free flags at (suc (length bs)) (λ z. omega arith) one.0) f in
    let still : get_or (named flags at (suc (length bs))) a 0 ≡ 1 =
    other flags at (replicate (suc (length bs)) 1) a (⊎_elim (λ l. inl l) (λ l. inr (omega (arith, length-replicate {A = ℕ} (suc (length bs)) 1))) o) ∙ f in
    kept rs (named flags at (suc (length bs))) (laid img at (b ∷ bs)) (suc n) a one.1 still ∙ other img at (b ∷ bs) a o

-- every byte that a record of a sound text names
pub said_there : {rs : List Record} {a b : ℕ} → Says rs a b → (flags img : List ℕ) (n : ℕ) → length flags ≡ length img → judged flags n rs ≡ told 0 0
    → get_or (filled img rs) a 0 ≡ b
unfolding filled
said_there (here {at} {bs} {rs} i l) flags img n q e =
    let one = onward flags n at bs rs e in
    let f = free flags at (length bs) (λ z. omega arith) one.0 in
    kept rs (named flags at (length bs)) (laid img at bs) (suc n) (at + i) one.1
    (flagged flags at (length bs) (at + i) (omega arith) (omega arith) (omega (arith, f.0)))
    ∙ laid_at img at bs i l (omega (arith, f.0))
said_there (later {r = holds at bs} {rs} s) flags img n q e =
    said_there s (named flags at (length bs)) (laid img at bs) (suc n)
    (length_laid flags at (replicate (length bs) 1) ∙ q ∙ sym (length_laid img at bs)) (onward flags n at bs rs e).1
said_there (later {r = end} (here i l)) flags img n q e = absurd (no_more _ _ flags n e)
said_there (later {r = end} (later s)) flags img n q e = absurd (no_more _ _ flags n e)
said_there (later {r = bad} s) flags img n q e = absurd (not_bad _ flags n e)
