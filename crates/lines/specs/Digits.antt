-- Digits, the numbers and bytes that they say, and numbers as digits: "The answer line and `run` are decimal, the rest hex capitals".
use Rattle.std.specs.Prelude.{Option, Some, None, Bool, true, false, cond, List, [], ◌∷◌, ◌++◌, ℕ, zero, suc, ◌+◌, ◌*◌, ◌/◌, ◌%◌, leb, ltb, eqb, length, get_or, set}
use Rattle.lines.specs.Ascii.{ascii}

-- "hex capitals"
abbrev pub capitals : List ℕ
capitals = ascii "0123456789ABCDEF"

-- how many stand before a character in a row: all of them where it is not there
unfoldable pub before : ℕ → List ℕ → ℕ
before c [] = 0
before c (d ∷ ds) = cond (eqb c d) 0 (suc (before c ds))

-- what a digit says, and 16 where the character is no digit
unfoldable pub digit : ℕ → ℕ
digit c = before c capitals

-- the digit that says a number
unfoldable pub glyph : ℕ → ℕ
glyph n = get_or capitals n 0

-- ---- numbers

-- the number that digits say after others that said v, and `None` where one is no digit of the base
unfoldable pub numeral_from : ℕ → ℕ → List ℕ → Option ℕ
numeral_from base v [] = Some v
numeral_from base v (c ∷ cs) = cond (ltb (digit c) base) (numeral_from base (v * base + digit c) cs) None

-- one digit or more
unfoldable pub numeral : ℕ → List ℕ → Option ℕ
numeral base [] = None
numeral base (c ∷ cs) = numeral_from base 0 (c ∷ cs)

-- a number no greater than a limit
unfoldable pub up_to : ℕ → Option ℕ → Option ℕ
up_to limit None = None
up_to limit (Some v) = cond (leb v limit) (Some v) None

-- the last digits of a number, so many
unfoldable pub digits_of : ℕ → ℕ → ℕ → List ℕ
digits_of base zero n = []
digits_of base (suc w) n = digits_of base w (n / base) ++ (glyph (n % base) ∷ [])

-- how many digits a decimal has: none in front that it can do without; `turns` of n are more than enough
unfoldable pub width_in : ℕ → ℕ → ℕ
width_in zero n = 1
width_in (suc turns) n = cond (ltb n 10) 1 (suc (width_in turns (n / 10)))

unfoldable pub width : ℕ → ℕ
width n = width_in n n

unfoldable pub show_decimal : ℕ → List ℕ
show_decimal n = digits_of 10 (width n) n

unfoldable pub show_hex : ℕ → ℕ → List ℕ
show_hex places n = digits_of 16 places n

-- ---- bytes: "two digits for .. bytes"

unfoldable pub byte_of : ℕ → ℕ → ℕ
byte_of high low = (digit high * 16 + digit low) % 256

-- the bytes that digits say, two by two
unfoldable pub bytes : List ℕ → List ℕ
bytes [] = []
bytes (high ∷ []) = []
bytes (high ∷ low ∷ ds) = byte_of high low ∷ bytes ds

unfoldable pub all_hex : List ℕ → Bool
all_hex [] = true
all_hex (c ∷ cs) = cond (ltb (digit c) 16) (all_hex cs) false

-- how many bytes: 0 where a character is no digit, or one digit is left over
unfoldable pub byte_count : List ℕ → ℕ
byte_count s = cond (all_hex s) (cond (eqb (length s % 2) 0) (length s / 2) 0) 0

-- ---- places

-- whether a text begins with a word
unfoldable pub begins : List ℕ → List ℕ → Bool
begins [] s = true
begins (c ∷ cs) [] = false
begins (c ∷ cs) (d ∷ ds) = cond (eqb d c) (begins cs ds) false

-- a list with others laid over it from a place on
unfoldable pub laid : List ℕ → ℕ → List ℕ → List ℕ
laid xs at [] = xs
laid xs at (b ∷ bs) = laid (set xs at b) (suc at) bs
