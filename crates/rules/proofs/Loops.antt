-- A rule that repeats another, in the words of a loop: with the turns left counted down, or the turns made counted up.
use mathlib.Core.Path.{◌≡◌, ◌∙◌, ap}
use Prim.Native.Nat.{ℕ, suc, ◌+◌, ◌-◌, ◌<◌}
use native.Mathlib.Omega.{arith}
use Rattle.rules.specs.Rules.{Deed, give, ◌>>=◌}

-- f, of how many turns are left and of a number that goes up with each, is r as often
pub record Repeats (f : ℕ → ℕ → Deed) (r : ℕ → Deed) : Type 0 where
  pub none : (a : ℕ) → f 0 a ≡ give tt
  pub more : (n a : ℕ) → f (suc n) a ≡ (r a >>= (λ _. f n (suc a)))

module _ {f : ℕ → ℕ → Deed} {r : ℕ → Deed} (t : Repeats f r) where
  -- a turn, n being left
  pub down : {n : ℕ} (a : ℕ) → 0 < n → f n a ≡ (r a >>= (λ _. f (n - 1) (a + 1)))
  down {n = n} a h =
      let x : n ≡ suc (n - 1) = omega arith in
      let y : a + 1 ≡ suc a = omega arith in
      rw y (ap (λ (k : ℕ). f k a) x ∙ t.more (n - 1) a)

  -- a turn, k of n having been made
  pub up : {n k a b : ℕ} → b ≡ a + 1 → k < n → f (n - k) a ≡ (r a >>= (λ _. f (n - (k + 1)) b))
  up {n = n} {k = k} {a = a} e h =
      let x : n - k ≡ suc (n - (k + 1)) = omega arith in
      let y : a + 1 ≡ suc a = omega arith in
      rw (e, y) (ap (λ (l : ℕ). f l a) x ∙ t.more (n - (k + 1)) a)

  -- none left
  pub none_left : {n : ℕ} (a : ℕ) → n ≡ 0 → f n a ≡ give tt
  none_left a h = ap (λ (k : ℕ). f k a) h ∙ t.none a

  -- none made yet
  pub none_made : (n a : ℕ) → f (n - 0) (a + 0) ≡ f n a
  none_made n a =
      let x : n - 0 ≡ n = omega arith in
      let y : a + 0 ≡ a = omega arith in
      rw (x, y)
