-- The lines of a text: "lines ended by LF (read with CR LF too)".
use Rattle.std.specs.Prelude.{Bool, false, cond, List, [], ◌∷◌, ℕ, eqb}

abbrev pub lf : ℕ
lf = 0x0A

abbrev pub cr : ℕ
cr = 0x0D

-- whether a text begins with a line feed
unfoldable pub feeds : List ℕ → Bool
feeds [] = false
feeds (c ∷ cs) = eqb lf c

-- a character before the first line
unfoldable pub onto : ℕ → List (List ℕ) → List (List ℕ)
onto c [] = (c ∷ []) ∷ []
onto c (l ∷ ls) = (c ∷ l) ∷ ls

-- whether a character is a CR just before an LF, so that it belongs to the line's end
abbrev pub returns : ℕ → List ℕ → Bool
returns c cs = cond (eqb cr c) (feeds cs) false

-- the last line may lack its LF
unfoldable pub lines_of : List ℕ → List (List ℕ)
lines_of [] = []
lines_of (c ∷ cs) = cond (eqb lf c) ([] ∷ lines_of cs) (cond (returns c cs) (lines_of cs) (onto c (lines_of cs)))
