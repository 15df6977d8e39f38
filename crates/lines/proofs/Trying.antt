-- A line, by the openings of the parts, tried one after the other.
-- Assumes nothing.
use Rattle.std.proofs.Common.{◌≡◌, refl, true, false, List, [], ◌∷◌, ℕ, ◌+◌, ◌≤◌, ◌<◌, eqb, length, get_or, take, drop, drop-cons, add-one}
use Rattle.std.proofs.Common.{drop_of_length-le}
use Rattle.std.specs.Cmp.Lexicographic.{pointwise}
use Rattle.lines.specs.Lines.{Line, opening, set_line, led, go_line, line_of}
use Rattle.lines.specs.Meaning.{part_of}
use Rattle.lines.specs.declared.parts.Part.{Part}
use Rattle.lines.specs.declared.parts.Part.TheVariants.{Grom, Pad, Vdp, Reg}
use Rattle.lines.proofs.Reading.{led_on, led_past}

abbrev pub parts : List Part
parts = Grom ∷ Pad ∷ Vdp ∷ Reg ∷ []

-- by those that are left, and then by the other lines
unfoldable pub tried : List Part → List ℕ → Line
tried [] s = go_line s
tried (p ∷ ps) s = led (opening (part_of p)) s (set_line (part_of p)) (tried ps s)

pub tried_all : (s : List ℕ) → line_of s ≡ tried parts s
unfolding line_of tried
tried_all s = refl

module _ (s : List ℕ) (i : ℕ) (d : Part) (l : i < 4) where
  one : tried (drop i parts) s ≡ led (opening (part_of (get_or parts i d))) s (set_line (part_of (get_or parts i d))) (tried (drop (i + 1) parts) s)
  unfolding tried
  one = rw (drop-cons parts i d l, add-one)

  pub tried_on : (word rest : List ℕ) → word ≡ opening (part_of (get_or parts i d)) → pointwise eqb (take (length word) s) word ≡ true → rest ≡ drop (length word) s
      → tried (drop i parts) s ≡ set_line (part_of (get_or parts i d)) rest
  tried_on word rest w c e = rw (one, ← w, led_on word s (set_line (part_of (get_or parts i d))) (tried (drop (i + 1) parts) s) c, e)

  pub tried_past : (word : List ℕ) → word ≡ opening (part_of (get_or parts i d)) → pointwise eqb (take (length word) s) word ≡ false
      → tried (drop i parts) s ≡ tried (drop (i + 1) parts) s
  tried_past word w c = rw (one, ← w, led_past word s (set_line (part_of (get_or parts i d))) (tried (drop (i + 1) parts) s) c)

pub tried_none : (s : List ℕ) (i : ℕ) → 4 ≤ i → tried (drop i parts) s ≡ go_line s
unfolding tried
tried_none s i h = rw (drop_of_length-le parts h)
