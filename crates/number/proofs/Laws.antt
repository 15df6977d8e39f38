-- Laws of the numbers, each once: over the width, over a divisor, or over the places of a shift.
-- Assumes nothing.
use Rattle.std.proofs.Common.{◌≡◌, ℕ, ◌+◌, ◌-◌, ◌*◌, ◌/◌, ◌%◌, ◌^◌, ◌<◌, ◌≤◌, Bool, true, false, not, eqb, ltb, refl, ◌∙◌, subst, mul-le-mul_right, mod-lt, arith, pow_pos, pow-add, shr_lt}
use Rattle.std.proofs.Math.Nat.{mul-mod_left}
use Rattle.std.proofs.Math.Pow.{shl-shr, mod-pow-add, mod-mod-pow}
use Rattle.rules.specs.Arithmetic.{half, span, above, flag, status_byte, compared}
use Rattle.rules.specs.Machine.{pick}

-- ---- over the width

-- a number of the narrow width is a byte
pub byte_of : {w : Bool} {x : ℕ} → w ≡ false → x < span (half w) → x < 256
byte_of e h = rw e at h

-- a test the other way
pub other : (b : Bool) → not b ≡ pick b false true
other true = refl
other false = refl

-- ---- over the tests of a status

flag_to : (c : Bool) (n : ℕ) → flag c n ≤ n
flag_to true n = omega arith
flag_to false n = omega arith

status_to : (hi gt cond cy ov : Bool) → status_byte hi gt cond cy ov ≤ 0xF8
unfolding status_byte
status_to hi gt cond cy ov = omega (arith, flag_to hi 0x80, flag_to gt 0x40, flag_to cond 0x20, flag_to cy 0x10, flag_to ov 0x08)

-- the five bits leave the last three free
pub compared_to : (h a b : ℕ) (cy ov : Bool) → compared h a b cy ov ≤ 0xF8
unfolding compared
compared_to h a b cy ov = status_to (ltb b a) (above h a b) (eqb a b) cy ov

-- ---- over the places of a shift

-- what leaves x on the right, n places, comes in from the left, before j places
turned : (x n j : ℕ) → x * 2 ^ j % 2 ^ (n + j) ≡ x % 2 ^ n * 2 ^ j
turned x n j = rw (mod-pow-add, shl-shr, mul-mod_left) (omega arith)

turn_below : (x n j : ℕ) → x < 2 ^ (j + n) → x / 2 ^ n + x % 2 ^ n * 2 ^ j < 2 ^ (j + n)
turn_below x n j h =
    omega (arith, shr_lt j n h, mul-le-mul_right (2 ^ j) (mod-lt x (pow_pos n)), pow-add 2 j n)

-- the same in 16 places, as the code has it
pub turned_in : (x n : ℕ) → n ≤ 16 → x * 2 ^ (16 - n) % 4294967296 % 65536 ≡ x % 2 ^ n * 2 ^ (16 - n)
turned_in x n l =
    let e : n + (16 - n) ≡ 16 = omega arith in
    mod-mod-pow (x * 2 ^ (16 - n)) 16 16 ∙ subst (λ (k : ℕ). x * 2 ^ (16 - n) % 2 ^ k ≡ x % 2 ^ n * 2 ^ (16 - n)) e (turned x n (16 - n))

pub turned_below : (x n : ℕ) → n ≤ 16 → x < 65536 → x / 2 ^ n + x * 2 ^ (16 - n) % 4294967296 % 65536 < 65536
turned_below x n l h =
    let e : 16 - n + n ≡ 16 = omega arith in
    rw (turned_in x n l) (subst (λ (k : ℕ). x < 2 ^ k → x / 2 ^ n + x % 2 ^ n * 2 ^ (16 - n) < 2 ^ k) e (turn_below x n (16 - n)) h)
