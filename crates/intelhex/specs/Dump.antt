-- What a text of records gives, answer, line and image; and the text of an image.
use Rattle.std.specs.Prelude.{Bool, true, false, cond, List, [], ◌∷◌, ◌++◌, ℕ, zero, suc, ◌+◌, ◌*◌, ◌-◌, ◌/◌, ◌%◌, leb, ltb, eqb, length, take, drop, replicate}
use Rattle.lines.specs.Ascii.{ascii}
use Rattle.lines.specs.Digits.{laid, show_hex}
use Rattle.intelhex.specs.Records.{Record, holds, end, bad, total, records}

-- an image has 1 to 8 groups; any other is answered by 11
unfoldable pub groups : ℕ → Bool
groups n = cond (ltb n 8192) false (cond (ltb 65536 n) false (eqb (n % 8192) 0))

abbrev pub zeros : ℕ → List ℕ
zeros n = replicate n 0

-- ---- reading

-- an answer, and the line at fault: 0 where there is none
pub record Read : Type 0 where
  pub answer : ℕ
  pub line : ℕ

abbrev pub told : ℕ → ℕ → Read
told a n = record { answer = a; line = n }

-- whether none of some addresses was named: a flag is 0 until its address is
unfoldable pub idle : List ℕ → Bool
idle [] = true
idle (f ∷ fs) = cond (eqb f 0) (idle fs) false

-- k bytes from an address on: 20 for "an address beyond the image", then 21 for an "address named twice"
unfoldable pub trial : List ℕ → ℕ → ℕ → ℕ
trial flags at k = cond (eqb k 0) 0 (cond (leb (at + k) (length flags)) (cond (idle (take k (drop at flags))) 0 21) 20)

-- they are named now
abbrev pub named : List ℕ → ℕ → ℕ → List ℕ
named flags at k = laid flags at (replicate k 1)

-- the answer and its line, of the records from the n-th line on: "line by line", "anything after the end record" is 20,
-- "22 when the text ends without an end record"
unfoldable pub judged : List ℕ → ℕ → List Record → Read
judged flags n [] = told 22 n
judged flags n (bad ∷ rs) = told 20 n
judged flags n (end ∷ []) = told 0 0
judged flags n (end ∷ r ∷ rs) = told 20 (suc n)
judged flags n (holds at bs ∷ rs) =
    cond (eqb (trial flags at (length bs)) 0) (judged (named flags at (length bs)) (suc n) rs) (told (trial flags at (length bs)) n)

-- the bytes of each record laid over an image
unfoldable pub filled : List ℕ → List Record → List ℕ
filled image [] = image
filled image (holds at bs ∷ rs) = filled (laid image at bs) rs
filled image (end ∷ rs) = filled image rs
filled image (bad ∷ rs) = filled image rs

-- of an image of n bytes and a text
unfoldable pub read_answer : ℕ → List ℕ → Read
read_answer n text = cond (groups n) (judged (zeros n) 1 (records text)) (told 11 0)

-- "Bytes that no record names are 0"; refused, "the image is then all zero"
unfoldable pub image_of : ℕ → List ℕ → List ℕ
image_of n text = cond (eqb (read_answer n text).answer 0) (filled (zeros n) (records text)) (zeros n)

-- 11 touches nothing
unfoldable pub read_image : List ℕ → List ℕ → List ℕ
read_image image text = cond (groups (length image)) (image_of (length image) text) image

-- ---- writing

unfoldable pub show_bytes : List ℕ → List ℕ
show_bytes [] = []
show_bytes (b ∷ bs) = show_hex 2 b ++ show_bytes bs

-- what makes a sum 0 modulo 256
unfoldable pub check : ℕ → ℕ
check n = (256 - n % 256) % 256

-- "records of 16 bytes .. in capitals, lines ended by LF"
unfoldable pub row : ℕ → List ℕ → List ℕ
row at bs = ascii ":10" ++ show_hex 4 at ++ ascii "00" ++ show_bytes bs ++ show_hex 2 (check (16 + at / 256 + at % 256 + total bs)) ++ ascii "\n"

-- "ascending": k of them, from an address on
unfoldable pub rows : ℕ → ℕ → List ℕ → List ℕ
rows zero at bs = []
rows (suc k) at bs = row at (take 16 bs) ++ rows k (at + 16) (drop 16 bs)

-- "then the end record"
unfoldable pub text_of : List ℕ → List ℕ
text_of image = rows (length image / 16) 0 image ++ ascii ":00000001FF\n"

-- as long as the text of an image of n bytes
abbrev pub needs : ℕ → ℕ
needs n = n / 16 * 44 + 12

-- an answer, and how many bytes of the output are the text
pub record Written : Type 0 where
  pub answer : ℕ
  pub count : ℕ

abbrev pub wrote : ℕ → ℕ → Written
wrote a n = record { answer = a; count = n }

-- of an image of n bytes and an output: "31 output too short, nothing written"
unfoldable pub write_answer : ℕ → ℕ → Written
write_answer n room = cond (groups n) (cond (leb (needs n) room) (wrote 0 (needs n)) (wrote 31 0)) (wrote 11 0)

-- an output that is longer keeps its other bytes
unfoldable pub write_out : List ℕ → List ℕ → List ℕ
write_out image out = cond (eqb (write_answer (length image) (length out)).answer 0) (laid out 0 (text_of image)) out
