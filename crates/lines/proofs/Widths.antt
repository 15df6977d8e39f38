-- Laws of widths: a decimal has one digit below 10, one more than a tenth's above, and at most 20 for 64 bits; and what bounds a part's addresses.
-- Assumes nothing.
use Rattle.std.proofs.Common.{◌≡◌, refl, ap, cond, ◌⊎◌, inl, inr, ⊎_elim, ℕ, zero, suc, ◌+◌, ◌*◌, ◌/◌, ◌^◌, ◌≤◌, ◌<◌, pow-suc}
use Rattle.std.proofs.Common.{div-lt_iff_lt-mul, arith, ltb, lt-ltb, le-ltb}
use Rattle.std.proofs.Math.Nat.{pow-succ'}
use Rattle.lines.specs.Digits.{width, width_in}
use Rattle.lines.specs.Lines.{Part, grom, pad, vdp, reg, places, size}

-- more turns change nothing
enough : (f g n : ℕ) → n ≤ f → n ≤ g → width_in f n ≡ width_in g n
unfolding width_in
enough zero zero n h k = refl
enough zero (suc g) n h k = rw (lt-ltb n 10 (omega arith))
enough (suc f) zero n h k = rw (lt-ltb n 10 (omega arith))
enough (suc f) (suc g) n h k = ap (λ (x : ℕ). cond (ltb n 10) 1 (suc x)) (enough f g (n / 10) (omega arith) (omega arith))

pub width_one : (n : ℕ) → n < 10 → width n ≡ 1
unfolding width width_in
width_one zero h = refl
width_one (suc n) h = rw (lt-ltb (suc n) 10 h)

pub width_more : (n : ℕ) → 10 ≤ n → width n ≡ suc (width (n / 10))
unfolding width width_in
width_more zero h = absurd (omega arith)
width_more (suc n) h = rw (le-ltb (suc n) 10 h) (ap suc (enough n (suc n / 10) (suc n / 10) (omega arith) (omega arith)))

pub either : (n m : ℕ) → (n < m) ⊎ (m ≤ n)
either n zero = inr (omega arith)
either zero (suc m) = inl (omega arith)
either (suc n) (suc m) = ⊎_elim (λ l. inl (omega arith)) (λ l. inr (omega arith)) (either n m)

pow-pos : (k : ℕ) → 1 ≤ 10 ^ k
pow-pos zero = omega arith
pow-pos (suc k) = omega (arith, pow-pos k, pow-succ' 10 k)

-- as many as the power of ten that it reaches
pub width_is : (k n : ℕ) → 10 ^ k ≤ n → n < 10 * 10 ^ k → width n ≡ k + 1
width_is zero n l h = omega (arith, width_one n (omega arith))
width_is (suc k) n l h =
    let least : 10 * 10 ^ k ≤ n = rw pow-succ' at l in
    let most : n < 10 * (10 * 10 ^ k) = rw pow-succ' at h in
    omega (arith, width_more n (omega (arith, pow-pos k)), width_is k (n / 10) (omega arith) (omega arith))

-- fewer digits than a power of ten has
pub width_to : (w n : ℕ) → n < 10 ^ suc w → width n ≤ suc w
width_to zero n h = omega (arith, width_one n (omega arith))
width_to (suc w) n h =
    let tenth : n / 10 < 10 ^ suc w = (div-lt_iff_lt-mul {k = 10} (omega arith)).1 (rw pow-suc at h) in
    ⊎_elim (λ l. omega (arith, width_one n l)) (λ l. omega (arith, width_more n l, width_to w (n / 10) tenth)) (either n 10)

-- and no number needs more digits than its width
holds_in : (f n : ℕ) → n ≤ f → n < 10 ^ width_in f n
unfolding width_in
holds_in zero n h = omega arith
holds_in (suc f) n h =
    let times = div-lt_iff_lt-mul {k = 10} {x = n} {y = 10 ^ width_in f (n / 10)} (omega arith) in
    ⊎_elim (λ l. rw (lt-ltb n 10 l) (omega arith)) (λ l. rw (le-ltb n 10 l, pow-suc) (times.0 (holds_in f (n / 10) (omega arith)))) (either n 10)

pub width_holds : (n : ℕ) → n < 10 ^ width n
unfolding width
width_holds n = holds_in n n (omega arith)

pub width_some : (n : ℕ) → 1 ≤ width n
width_some n = ⊎_elim (λ l. omega (arith, width_one n l)) (λ l. omega (arith, width_more n l)) (either n 10)

-- ---- a part

-- an address has one to four digits, which are enough for the part, and no part is longer than the image
pub bounds : (p : Part) → (1 ≤ places p) × (places p ≤ 4) × (size p ≤ 16 ^ places p) × (size p ≤ 32768)
bounds grom = (omega arith, omega arith, omega arith, omega arith)
bounds pad = (omega arith, omega arith, omega arith, omega arith)
bounds vdp = (omega arith, omega arith, omega arith, omega arith)
bounds reg = (omega arith, omega arith, omega arith, omega arith)
