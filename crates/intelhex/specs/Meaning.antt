-- What the code's values say in the words of the format, and what its contracts say.
use Rattle.std.specs.Prelude.{◌≡◌, true, false, Option, Some, None, Result, Ok, Err, cond, List, [], ◌∷◌, ℕ, zero, suc, ◌+◌, ◌-◌, ◌*◌, ◌/◌, ◌≤◌, ◌<◌}
use Rattle.std.specs.Prelude.{eqb, length, get_or, take, drop}
use Rattle.std.specs.Borrow.{Bor}
use Rattle.lines.specs.Shown.{Lent, SeenLent}
use Rattle.intelhex.specs.Dump.{Read, told, Written, wrote, trial, named, read_answer, read_image, write_answer, write_out}
use Rattle.intelhex.specs.Lines.{cr, lines_of}
use Rattle.intelhex.specs.Records as format
use Rattle.intelhex.specs.Records.{pairs, formed, records}
use Rattle.intelhex.specs.declared.line.Record.{Record}
use Rattle.intelhex.specs.declared.line.Record.TheVariants.{Holds, End}
use Rattle.intelhex.specs.declared.reader.Reader.{Reader}
use Rattle.intelhex.specs.declared.flags.Clash.{Clash}
use Rattle.intelhex.specs.declared.flags.Clash.TheVariants.{Beyond, Twice}
use Rattle.intelhex.specs.declared.dump.ReadError.{ReadError}
use Rattle.intelhex.specs.declared.dump.ReadError.TheVariants as fault
use Rattle.intelhex.specs.declared.dump.WriteError.{WriteError}
use Rattle.intelhex.specs.declared.dump.WriteError.TheVariants as unwritten

-- ---- lines and records

-- how long a line is whose line feed stands after n characters
unfoldable pub stop_of : List ℕ → ℕ → ℕ
stop_of s zero = zero
stop_of s (suc m) = cond (eqb cr (get_or s m 0)) m (suc m)

-- a line is formed, and its digits follow the colon; or it isn't
abbrev pub Forms : List ℕ → Option (Bor (List ℕ)) → Type 0
Forms s None = formed s ≡ false
Forms s (Some digits) = (formed s ≡ true) × (digits.now ≡ drop 1 s)

-- a record's bytes are those that its digits say; a line that says none is bad
abbrev pub said : Option Record → format.Record
said None = format.bad
said (Some (Holds b)) = format.holds b.address (pairs b.digits.now)
said (Some End) = format.end

-- the digits of a record's bytes are the tenth character of its text and those after it: two for each byte, of which there are at most 255
pub record Within (text digits : List ℕ) : Type 0 where
  pub place : take (length digits) (drop 9 text) ≡ digits
  pub inside : 9 + length digits ≤ length text
  pub each : 2 * (length digits / 2) ≡ length digits
  pub most : length digits / 2 < 256

-- its digits stand within the text, which begins with its line; the address has 16 bits
abbrev pub Reaches : List ℕ → Option Record → Type 0
Reaches text None = Unit {0}
Reaches text (Some (Holds b)) = Within text b.digits.now × (b.address < 65536)
Reaches text (Some End) = Unit {0}

-- a line says the record of a text
pub record Says (line : List ℕ) (r : Option Record) : Type 0 where
  pub means : said r ≡ format.record_of line
  pub within : Reaches line r

-- a text's first line, with which it begins, and what is left, with which it ends
pub record Cuts (text line left : List ℕ) : Type 0 where
  pub lines : lines_of text ≡ line ∷ lines_of left
  pub start : take (length line) text ≡ line
  pub end : drop (length text - length left) text ≡ left
  pub apart : length line + length left ≤ length text
  pub on : length left < length text

-- the first of the records of a text, and what is left after its line: the end of the text
pub record Turn (text : List ℕ) (r : Option Record) (left : List ℕ) : Type 0 where
  pub means : records text ≡ said r ∷ records left
  pub within : Reaches text r
  pub end : drop (length text - length left) text ≡ left
  pub on : length left < length text

-- one call of a reader: nothing where nothing is left
abbrev pub Turns : Reader → Option (Option Record) → Reader → Type 0
Turns s None t = (length s.left.now ≡ 0) × (t ≡ s)
Turns s (Some r) t = Turn s.left.now r t.left.now

-- ---- answers

abbrev pub clash_of : Clash → ℕ
clash_of Beyond = 20
clash_of Twice = 21

-- 0 where the addresses were named
abbrev pub mark_of : {A : Type 0} → Result A Clash → ℕ
mark_of (Ok done) = 0
mark_of (Err e) = clash_of e

abbrev pub fault_of : ReadError → Read
fault_of fault.WrongLength = told 11 0
fault_of (fault.BadRecord line) = told 20 line
fault_of (fault.NamedTwice line) = told 21 line
fault_of (fault.NoEnd line) = told 22 line

abbrev pub read_of : {A : Type 0} → Result A ReadError → Read
read_of (Ok done) = told 0 0
read_of (Err e) = fault_of e

abbrev pub unwritten_of : WriteError → ℕ
unwritten_of unwritten.WrongLength = 11
unwritten_of unwritten.TooShort = 31

abbrev pub write_of : Result ℕ WriteError → Written
write_of (Ok count) = wrote 0 count
write_of (Err e) = wrote (unwritten_of e) 0

-- ---- the calls

-- the addresses of a record, tried and named: the flags before and after
pub record Marks (was : List ℕ) (at k answer : ℕ) (is : List ℕ) : Type 0 where
  pub says : answer ≡ trial was at k
  pub leaves : is ≡ cond (eqb answer 0) (named was at k) was

-- a text read into an image
pub record Reads (text : SeenLent) (image : Lent) (r : Read) : Type 0 where
  pub says : r ≡ read_answer (length image.entry.now) text.entry.now
  pub leaves : image.exit.now ≡ read_image image.entry.now text.entry.now

-- an image written to an output
pub record Writes (image : SeenLent) (out : Lent) (w : Written) : Type 0 where
  pub says : w ≡ write_answer (length image.entry.now) (length out.entry.now)
  pub leaves : out.exit.now ≡ write_out image.entry.now out.entry.now

-- every element is a byte: true of each slice of `u8`, and known of none
pub data Bytes : List ℕ → Type 0 where
  none : Bytes []
  one : {b : ℕ} {bs : List ℕ} → b < 256 → Bytes bs → Bytes (b ∷ bs)
