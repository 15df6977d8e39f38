-- Texts and what they give, by computing: records of each form, and each refusal.
-- Assumes nothing.
use Rattle.std.proofs.Common.{◌≡◌, refl, List, [], ◌∷◌, ◌++◌, map, ℕ, take, drop}
use Rattle.lines.specs.Ascii.{ascii}
use Rattle.lines.specs.Digits as lines
use Rattle.intelhex.specs.Lines.{feeds, onto, lines_of}
use Rattle.intelhex.specs.Records.{holds, end, bad, value, all_digits, pair, pairs, formed, fields, total, checked, ends, typed, record_of, records}
use Rattle.intelhex.specs.Dump.{told, idle, trial, judged, filled, zeros, groups, read_answer, show_bytes, check, row, rows, text_of}

-- a record in capitals and in small letters, CR LF, and the end record without its line feed
pub sample_read : records (ascii ":03001000010203E7\r\n:0200000aff00f5\n:00000001FF") ≡ holds 0x10 (1 ∷ 2 ∷ 3 ∷ []) ∷ bad ∷ end ∷ []
unfolding lines.before lines.digit lines.laid feeds onto lines_of value all_digits pair pairs formed fields total checked ends typed record_of records idle trial judged filled
sample_read = refl

-- sound records; small letters
pub sample_sound : map record_of (ascii ":03001000010203E7" ∷ ascii ":02000000abcd86" ∷ ascii ":00FFFF0002" ∷ ascii ":00000001FF" ∷ [])
    ≡ holds 0x10 (1 ∷ 2 ∷ 3 ∷ []) ∷ holds 0 (0xAB ∷ 0xCD ∷ []) ∷ holds 0xFFFF [] ∷ end ∷ []
unfolding lines.before lines.digit lines.laid feeds onto lines_of value all_digits pair pairs formed fields total checked ends typed record_of records idle trial judged filled
sample_sound = refl

-- no line, no colon, a space, a missing digit, one too many, no digit, a wrong count, a wrong sum, another type, an end record with an address, a CR
pub sample_bad : map record_of (ascii "" ∷ ascii "03001000010203E7" ∷ ascii ": 3001000010203E7" ∷ ascii ":03001000010203E" ∷ ascii ":03001000010203E70" ∷ ascii ":0300100001020GE7"
    ∷ ascii ":04001000010203E6" ∷ ascii ":03001000010203E8" ∷ ascii ":020000040000FA" ∷ ascii ":00000101FE" ∷ ascii ":00000001FF\r" ∷ [])
    ≡ bad ∷ bad ∷ bad ∷ bad ∷ bad ∷ bad ∷ bad ∷ bad ∷ bad ∷ bad ∷ bad ∷ []
unfolding lines.before lines.digit lines.laid feeds onto lines_of value all_digits pair pairs formed fields total checked ends typed record_of records idle trial judged filled
sample_bad = refl

-- in an image of 32 bytes: sound; an address twice; beyond the image, at its end, and a record of no bytes there; no end record; no text; more after the end record
pub sample_told : map (λ (t : List ℕ). judged (zeros 32) 1 (records t)) (ascii ":0100050000FA\n:00000001FF\n" ∷ ascii ":0100050000FA\n:0100050000FA\n" ∷ ascii
    ":0100200000DF\n" ∷ ascii ":01001F0000E0\n:00000001FF\n"
    ∷ ascii ":00FFFF0002\n:00000001FF\n" ∷ ascii ":0100050000FA\n" ∷ ascii "" ∷ ascii ":00000001FF\n\n" ∷ ascii ":00000001FF\n:00000001FF" ∷ [])
    ≡ told 0 0 ∷ told 21 2 ∷ told 20 1 ∷ told 0 0 ∷ told 0 0 ∷ told 22 2 ∷ told 22 1 ∷ told 20 2 ∷ told 20 2 ∷ []
unfolding lines.before lines.digit lines.laid feeds onto lines_of value all_digits pair pairs formed fields total checked ends typed record_of records idle trial judged filled
sample_told = refl

-- the bytes that are named, and 0 elsewhere
pub sample_filled : filled (zeros 32) (records (ascii ":03001000010203E7\n:00000001FF\n")) ≡ zeros 16 ++ (1 ∷ 2 ∷ 3 ∷ []) ++ zeros 13
unfolding lines.before lines.digit lines.laid feeds onto lines_of value all_digits pair pairs formed fields total checked ends typed record_of records idle trial judged filled
sample_filled = refl

-- one group: "`:0120000000DF` 20, `:011FFF0000E1` sound"
pub sample_group : read_answer 8192 (ascii ":0120000000DF\n") ≡ told 20 1
unfolding lines.before lines.digit lines.laid feeds onto lines_of value all_digits pair pairs formed fields total checked ends typed record_of records idle trial judged filled read_answer groups
sample_group = refl

pub sample_last : read_answer 8192 (ascii ":011FFF0000E1\n:00000001FF\n") ≡ told 0 0
unfolding lines.before lines.digit lines.laid feeds onto lines_of value all_digits pair pairs formed fields total checked ends typed record_of records idle trial judged filled read_answer groups
sample_last = refl

-- the first line of a written image that begins with >0A, else 0, and the length of the whole
pub sample_row : take 44 (text_of (0x0A ∷ zeros 31)) ≡ ascii ":100000000A000000000000000000000000000000E6\n"
unfolding lines.glyph lines.digits_of lines.show_hex total show_bytes check row rows text_of
sample_row = refl

pub sample_text : drop 44 (text_of (0x0A ∷ zeros 31)) ≡ ascii ":1000100000000000000000000000000000000000E0\n:00000001FF\n"
unfolding lines.glyph lines.digits_of lines.show_hex total show_bytes check row rows text_of
sample_text = refl
