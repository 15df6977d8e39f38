-- Records: "data and end records (types 00 and 01) .., checking count, hex digits and the record sum".
use Rattle.std.specs.Prelude.{Bool, true, false, cond, List, [], ◌∷◌, map, ℕ, ◌+◌, ◌*◌, ◌-◌, ◌%◌, ltb, eqb, length, get_or, take, drop}
use Rattle.lines.specs.Digits as lines
use Rattle.intelhex.specs.Lines.{lines_of}

-- bytes for the image from an address on; the end; or a bad record
pub data Record : Type 0 where
  holds : ℕ → List ℕ → Record
  end : Record
  bad : Record

-- ---- digits

-- a small letter from a to f is read as its capital
abbrev pub capital : ℕ → ℕ
capital c = cond (ltb c 97) c (cond (ltb c 103) (c - 32) c)

-- what a digit says, and 16 where the character is none
unfoldable pub value : ℕ → ℕ
value c = lines.digit (capital c)

unfoldable pub all_digits : List ℕ → Bool
all_digits [] = true
all_digits (c ∷ cs) = cond (ltb (value c) 16) (all_digits cs) false

unfoldable pub pair : ℕ → ℕ → ℕ
pair high low = (value high * 16 + value low) % 256

-- the bytes that digits say, two by two
unfoldable pub pairs : List ℕ → List ℕ
pairs [] = []
pairs (high ∷ []) = []
pairs (high ∷ low ∷ ds) = pair high low ∷ pairs ds

-- ---- a record

abbrev pub colon : ℕ
colon = 0x3A

-- form: a colon, then pairs of hex digits, and nothing else
unfoldable pub formed : List ℕ → Bool
formed s = cond (eqb (get_or s 0 0) colon) (cond (eqb (length (drop 1 s) % 2) 0) (all_digits (drop 1 s)) false) false

-- what the digits of a line say: count, address (two bytes), type, as many bytes as the count says, sum
unfoldable pub fields : List ℕ → List ℕ
fields s = pairs (drop 1 s)

abbrev pub count : List ℕ → ℕ
count bs = get_or bs 0 0

abbrev pub address : List ℕ → ℕ
address bs = get_or bs 1 0 * 256 + get_or bs 2 0

abbrev pub kind : List ℕ → ℕ
kind bs = get_or bs 3 0

abbrev pub body : List ℕ → List ℕ
body bs = take (count bs) (drop 4 bs)

unfoldable pub total : List ℕ → ℕ
total [] = 0
total (b ∷ bs) = b + total bs

-- "checking count .. and the record sum": all bytes, the sum too, add up to 0
unfoldable pub checked : List ℕ → Bool
checked bs = cond (eqb (length bs) (count bs + 5)) (eqb (total bs % 256) 0) false

-- the end record has no bytes, and its address is 0
unfoldable pub ends : ℕ → ℕ → ℕ → Bool
ends kind count address = cond (eqb kind 1) (cond (eqb count 0) (eqb address 0) false) false

-- "data and end records (types 00 and 01)"; "another type" is bad
unfoldable pub typed : List ℕ → Record
typed bs = cond (eqb (kind bs) 0) (holds (address bs) (body bs)) (cond (ends (kind bs) (count bs) (address bs)) end bad)

-- a line
unfoldable pub record_of : List ℕ → Record
record_of s = cond (formed s) (cond (checked (fields s)) (typed (fields s)) bad) bad

unfoldable pub records : List ℕ → List Record
records text = map record_of (lines_of text)
