-- Laws of what a line says, by the tests that the code makes, one after the other.
-- Assumes nothing.
use Rattle.std.proofs.Common.{◌≡◌, refl, ◌∙◌, Bool, true, false, cond, List, [], ◌∷◌, ⊎_elim, Option, Some, None, ℕ, suc, ◌+◌, ◌-◌, ◌*◌}
use Rattle.std.proofs.Common.{◌/◌, ◌%◌, ◌≤◌, ◌<◌, arith, add-one, eqb, leb, length, get_or, take, drop, length-drop, take_all, le-leb}
use Rattle.std.proofs.Common.{leb-true, eq-eqb, ne_eqb, eqb-true}
use Rattle.std.proofs.Math.ListN.{get_or-eq_default}
use Rattle.std.specs.Cmp.Lexicographic.{pointwise}
use borrow.Author.Tests.{lt-leb}
use Rattle.lines.specs.Digits.{numeral, up_to, all_hex, byte_count, bytes, begins}
use Rattle.lines.specs.Lines.{Part, Line, sets, bad, pc_opening, run_opening, places, size}
use Rattle.lines.specs.Lines.{placed, set_line, jumping, pc_line, running, run_line, led, go_line}
use Rattle.lines.proofs.Numerals.{unless}
use Rattle.lines.proofs.Widths.{either, bounds}

-- ---- numbers and bytes

kept : (b : Bool) (limit v n : ℕ) → leb v limit ≡ b → Some n ≡ cond b (Some v) None → n ≤ limit
kept true limit v n h e = let same : n ≡ v = cc in omega (arith, leb-true v limit h)
kept false limit v n h e = let wrong : ◌≡◌ {A = ℕ} 0 1 = cc in absurd (omega arith)

-- a number that was found is within its limit
pub within_limit : (limit n : ℕ) (y : Option ℕ) → Some n ≡ up_to limit y → n ≤ limit
unfolding up_to
within_limit limit n None e = let wrong : ◌≡◌ {A = ℕ} 0 1 = cc in absurd (omega arith)
within_limit limit n (Some v) e = kept (leb v limit) limit v n refl e

even_of : (b : Bool) (n : ℕ) → eqb (n % 2) 0 ≡ b → (cond b (n / 2) 0 ≡ 0 → ⊥) → 2 * cond b (n / 2) 0 ≡ n
even_of true n e h = omega (arith, eqb-true (n % 2) 0 e)
even_of false n e h = absurd (h refl)

all_of : (a : Bool) (n : ℕ) → (cond a (cond (eqb (n % 2) 0) (n / 2) 0) 0 ≡ 0 → ⊥) → 2 * cond a (cond (eqb (n % 2) 0) (n / 2) 0) 0 ≡ n
all_of true n h = even_of (eqb (n % 2) 0) n refl h
all_of false n h = absurd (h refl)

-- two digits for each byte
pub two_each : (s : List ℕ) (k : ℕ) → k ≡ byte_count s → (k ≡ 0 → ⊥) → 2 * k ≡ length s
unfolding byte_count
two_each s k e h = rw e (all_of (all_hex s) (length s) (λ z. h (e ∙ z)))

-- a text from a place on, as the code has it
pub whole : (s : List ℕ) (from : ℕ) → take (length s - from) (drop from s) ≡ drop from s
whole s from = take_all (length s - from) (drop from s) (omega (arith, length-drop from s))

-- ---- a line of bytes

same_bad : (b : Bool) → cond b bad bad ≡ bad
same_bad true = refl
same_bad false = refl

-- an address past 16 bits is past every part
limited : (p : Part) (y : Option ℕ) (s : List ℕ) → placed p y s ≡ placed p (up_to 65535 y) s
unfolding placed up_to
limited p None s = refl
limited p (Some v) s =
    ⊎_elim (λ l. rw (lt-leb v 65535 l, lt-leb (v + byte_count s) (size p) (omega (arith, (bounds p).3))) (same_bad (eqb (byte_count s) 0)))
    (λ l. rw (le-leb v 65535 l)) (either 65535 v)

module _ (p : Part) (s : List ℕ) (d : ℕ) (e : d ≡ places p) where
  pub set_short : length s ≤ d → bad ≡ set_line p s
  unfolding set_line
  set_short h =
      let none : get_or s d 0 ≡ 0 = get_or-eq_default s 0 h in
      rw (← e, none)

  pub set_tabless : (get_or s d 0 ≡ 9 → ⊥) → bad ≡ set_line p s
  unfolding set_line
  set_tabless h = rw (← e, ne_eqb (get_or s d 0) 9 h)

  -- up to the bytes, by the number that the address says
  pub set_read : (x : Option ℕ) → get_or s d 0 ≡ 9 → x ≡ up_to 65535 (numeral 16 (take d s)) → set_line p s ≡ placed p x (drop (d + 1) s)
  unfolding set_line
  set_read x t q = rw (← e, eq-eqb (get_or s d 0) 9 t, q, add-one) (limited p (numeral 16 (take d s)) (drop (suc d) s))

module _ (p : Part) (n : ℕ) (s : List ℕ) (k : ℕ) (e : k ≡ byte_count s) where
  pub placed_none : k ≡ 0 → bad ≡ placed p (Some n) s
  unfolding placed
  placed_none h = rw (← e, eq-eqb k 0 h)

  pub placed_past : 1 ≤ k → size p < n + k → bad ≡ placed p (Some n) s
  unfolding placed
  placed_past h l = rw (← e, ne_eqb k 0 (λ z. omega arith), lt-leb (n + k) (size p) l)

  pub placed_in : 1 ≤ k → n + k ≤ size p → sets p n (bytes s) ≡ placed p (Some n) s
  unfolding placed
  placed_in h l = rw (← e, ne_eqb k 0 (λ z. omega arith), le-leb (n + k) (size p) l)

-- ---- pc and run

pub pc_other : (s : List ℕ) → (length s ≡ 4 → ⊥) → bad ≡ pc_line s
unfolding pc_line
pc_other s h = rw (ne_eqb (length s) 4 h)

pub pc_read : (s : List ℕ) (x : Option ℕ) → length s ≡ 4 → x ≡ up_to 65535 (numeral 16 s) → jumping x ≡ pc_line s
unfolding pc_line
pc_read s x h e = rw (eq-eqb (length s) 4 h, e)

pub run_read : (s : List ℕ) (x : Option ℕ) → x ≡ up_to 4294967295 (numeral 10 s) → running x ≡ run_line s
unfolding run_line
run_read s x e = rw e

-- ---- by the opening

-- what `strip_prefix` tests
pub begun : (word s : List ℕ) → begins word s ≡ pointwise eqb (take (length word) s) word
unfolding begins
begun [] s = refl
begun (c ∷ cs) [] = refl
begun (c ∷ cs) (d ∷ ds) = rw (begun cs ds) (unless (eqb d c) (pointwise eqb (take (length cs) ds) cs))

module _ (word s : List ℕ) (f : List ℕ → Line) (other : Line) where
  pub led_on : pointwise eqb (take (length word) s) word ≡ true → led word s f other ≡ f (drop (length word) s)
  led_on e = rw (begun word s, e)

  pub led_past : pointwise eqb (take (length word) s) word ≡ false → led word s f other ≡ other
  led_past e = rw (begun word s, e)

-- `pc`, or else `run`, or neither
module _ (s rest : List ℕ) where
  pub by_pc : pointwise eqb (take 3 s) pc_opening ≡ true → rest ≡ drop 3 s → go_line s ≡ pc_line rest
  unfolding go_line
  by_pc c e = rw (led_on pc_opening s pc_line (led run_opening s run_line bad) c, e)

  module _ (c : pointwise eqb (take 3 s) pc_opening ≡ false) where
    pub by_run : pointwise eqb (take 4 s) run_opening ≡ true → rest ≡ drop 4 s → go_line s ≡ run_line rest
    unfolding go_line
    by_run r e = rw (led_past pc_opening s pc_line (led run_opening s run_line bad) c, led_on run_opening s run_line bad r, e)

    pub by_none : pointwise eqb (take 4 s) run_opening ≡ false → bad ≡ go_line s
    unfolding go_line
    by_none r = rw (led_past pc_opening s pc_line (led run_opening s run_line bad) c, led_past run_opening s run_line bad r)
