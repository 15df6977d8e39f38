-- Signed words: what 16 bits hold, that COINC's numbers are small enough for them, and which sums lie inside.
use Rattle.std.proofs.Common.{◌≡◌, ℕ, suc, ◌+◌, ◌-◌, ◌%◌, ◌<◌, ◌≤◌, Bool, true, false, cond, T, ltb, leb, ℤ, pos, negsuc, ◌+ℤ◌, nat_abs, sym, refl, ap, ◌∙◌, ap₂, mod-lt, arith, lit<, w8, w16, Fits, SFits, to_z, of_z, lt-ltb, leb-false, leb-true}
use Rattle.std.proofs.Math.IntN.{sub_ℕ}
use lib.Signed.{mag, shr_z, non_neg, mag_shr}
use mir.ValLaws.{to_z-of_z}
use Rattle.rules.specs.Machine.{pick, ◌also◌}
use Rattle.rules.specs.Coincidence.{signed, difference, inside}
use Rattle.rules.proofs.Tests.{false_true, both}

-- ---- what 16 bits hold

pub held : {z : ℤ} → SFits w16 z → to_z w16 (of_z w16 z) ≡ z
held f = to_z-of_z w16 _ f

pub held_byte : (n : ℕ) → n < 256 → to_z w16 n ≡ pos n
held_byte n h = held {z = pos n} (record { sfits = omega arith })

-- ---- how large a number is

pub mag_sub : (a b : ℕ) → mag (sub_ℕ a b) ≤ a + b
mag_sub a b = go (ltb a b)
  where
    go : (t : Bool) → mag (cond t (negsuc (b - suc a)) (pos (a - b))) ≤ a + b
    go true = omega arith
    go false = omega arith

mag_add : (z : ℤ) (n : ℕ) → mag (z +ℤ pos n) ≤ mag z + n + 1
mag_add (pos a) n = omega arith
mag_add (negsuc a) n = omega (arith, mag_sub n (suc a))

mag_signed : (b : ℕ) → b < 256 → mag (signed b) < 128
mag_signed b h = go (leb 128 b) refl
  where
    go : (t : Bool) → leb 128 b ≡ t → mag (pick t (sub_ℕ b 256) (pos b)) < 128
    go true e = rw (lt-ltb b 256 h) (omega (arith, leb-true 128 b e))
    go false e = leb-false 128 b e

mag_difference : (s d : ℕ) → mag (difference s d) < 128
unfolding difference
mag_difference s d = mag_signed ((s + 256 - d) % 256) (mod-lt (s + 256 - d) {m = 256} (lit< tt))

-- ---- a difference shifted down, and a size added, as the code has it

module _ {z : ℤ} {size : ℕ} (n s d : ℕ) (is : z ≡ difference s d) (byte : size < 256) where
  small : mag z < 128
  small = rw is (mag_difference s d)

  summed : to_z w16 (of_z w16 (shr_z (to_z w16 (of_z w16 z)) n)) +ℤ to_z w16 size ≡ shr_z z n +ℤ pos size
  summed =
      ap₂ ◌+ℤ◌ (ap (λ (y : ℤ). to_z w16 (of_z w16 (shr_z y n))) (held {z = z} (record { sfits = omega (arith, small) }))
      ∙ held {z = shr_z z n} (record { sfits = omega (arith, small, mag_shr z n) })) (held_byte size byte)

  pub sum_fits : SFits w16 (to_z w16 (of_z w16 (shr_z (to_z w16 (of_z w16 z)) n)) +ℤ to_z w16 size)
  sum_fits = rw summed (record { sfits = omega (arith, mag_add (shr_z z n) size, mag_shr z n, small) })

  pub sum_is : to_z w16 (of_z w16 (to_z w16 (of_z w16 (shr_z (to_z w16 (of_z w16 z)) n)) +ℤ to_z w16 size)) ≡ shr_z (difference s d) n +ℤ pos size
  sum_is = held sum_fits ∙ summed ∙ ap (λ (y : ℤ). shr_z y n +ℤ pos size) is

-- ---- inside

-- what the code's test says of the sum itself
pub told : {z : ℤ} {r t : Bool} (n : ℕ) → SFits w16 z → r ≡ inside (to_z w16 (of_z w16 z)) n → r ≡ t → inside z n ≡ t
told n f e k = ap (λ (y : ℤ). inside y n) (sym (held f)) ∙ sym e ∙ k

inside_byte : (z : ℤ) (n : ℕ) → n < 256 → inside z n ≡ true → T (non_neg z) × Fits w8 (nat_abs z)
unfolding inside ◌also◌
inside_byte (pos a) n l e = (tt, record { fits = omega (arith, leb-true a n (both {b = leb 0 a} e).1) })
inside_byte (negsuc a) n l e = absurd (false_true e)

-- a sum inside is a byte
pub byte_cast : {z : ℤ} (n : ℕ) → SFits w16 z → n < 256 → inside z n ≡ true → T (non_neg (to_z w16 (of_z w16 z))) × Fits w8 (nat_abs (to_z w16 (of_z w16 z)))
byte_cast {z} n f l e = rw (held f) (inside_byte z n l e)
