-- What is shown of a dump, and the dump of a bench file. The image is the bench's: "Its image is 32,768 zeros".
use Rattle.std.specs.Prelude.{cond, List, [], ◌∷◌, ◌++◌, ℕ, zero, suc, ◌+◌, eqb, take, drop}
use Rattle.lines.specs.Ascii.{ascii}
use Rattle.lines.specs.Digits.{laid, show_decimal, show_hex}
use Rattle.lines.specs.Lines.{Line, sets, jumps, runs, bad, grom, pad, vdp, reg, size, tab, opening}
use Rattle.lines.specs.Shown.{feed, bad_line}
use Rattle.intelhex.specs.Dump.{idle, zeros, read_answer, image_of, show_bytes, text_of}
use Rattle.desk.specs.Desk.{cut, heard, says}

-- ---- a dump, shown

-- 16 bytes as a line for the bench
unfoldable pub grom_line : ℕ → List ℕ → List ℕ
grom_line at bs = opening grom ++ show_hex 4 at ++ (tab ∷ []) ++ show_bytes bs ++ feed

-- so many lines from an address on; "all not set is 0", so a row of zeros needs none
unfoldable pub grom_lines : ℕ → ℕ → List ℕ → List ℕ
grom_lines zero at bs = []
grom_lines (suc k) at bs = cond (idle (take 16 bs)) [] (grom_line at (take 16 bs)) ++ grom_lines k (at + 16) (drop 16 bs)

-- 20 "bad record (form, sum, another type, an address beyond the image, anything after the end record)", 21 "address named twice",
-- 22 "when the text ends without an end record"
unfoldable pub meaning : ℕ → List ℕ
meaning answer =
    cond (eqb answer 20) (ascii "bad record: form, sum, type, an address above >7FFF, or text after the end record")
    (cond (eqb answer 21) (ascii "address named twice") (ascii "no end record"))

-- "the rig's operator is told the line at fault"
unfoldable pub refusal : ℕ → ℕ → List ℕ
refusal answer line = ascii "answer\t" ++ show_decimal answer ++ ascii "\tline\t" ++ show_decimal line ++ (tab ∷ []) ++ meaning answer ++ feed

unfoldable pub shown : List ℕ → List ℕ
shown text =
    cond (eqb (read_answer (size grom) text).answer 0) (grom_lines 2048 0 (image_of (size grom) text))
    (refusal (read_answer (size grom) text).answer (read_answer (size grom) text).line)

-- ---- a bench file, dumped

-- the image after a line: only a `grom` line changes it
abbrev pub placed : Line → List ℕ → List ℕ
placed (sets grom at bs) image = laid image at bs
placed (sets pad at bs) image = image
placed (sets vdp at bs) image = image
placed (sets reg at bs) image = image
placed (jumps n) image = image
placed (runs n) image = image
placed bad image = image

unfoldable pub gathered : List ℕ → List (List ℕ) → List ℕ
gathered image [] = image
gathered image (l ∷ ls) = gathered (placed (heard l) image) ls

-- "A line not so, or past its part: `bad`, its number from 1": of the lines from the k-th on, 0 where all say something
unfoldable pub first_bad : ℕ → List (List ℕ) → ℕ
first_bad k [] = 0
first_bad k (l ∷ ls) = cond (says (heard l)) (first_bad (suc k) ls) k

unfoldable pub dumped : List ℕ → List ℕ
dumped text =
    cond (eqb (first_bad 1 (cut text)) 0) (text_of (gathered (zeros (size grom)) (cut text))) (bad_line (first_bad 1 (cut text)))
