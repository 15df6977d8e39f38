-- What the code's parts and lines say, in the words of the rules.
use Rattle.std.specs.Prelude.{◌≡◌, Option, Some, None, List, ℕ, ◌+◌, ◌-◌, ◌*◌, ◌/◌, ◌≤◌, length, drop}
use Rattle.lines.specs.Digits.{bytes}
use Rattle.lines.specs.Lines as rules
use Rattle.lines.specs.declared.parts.Part.{Part}
use Rattle.lines.specs.declared.parts.Part.TheVariants as part
use Rattle.lines.specs.declared.read.Bytes.{Bytes}
use Rattle.lines.specs.declared.read.Line.{Line}
use Rattle.lines.specs.declared.read.Line.TheVariants.{Set, Pc, Run}

abbrev pub part_of : Part → rules.Part
part_of part.Grom = rules.grom
part_of part.Pad = rules.pad
part_of part.Vdp = rules.vdp
part_of part.Reg = rules.reg

-- a line's bytes are those that its digits say
abbrev pub told : Line → rules.Line
told (Set p b) = rules.sets (part_of p) b.at (bytes b.digits.now)
told (Pc n) = rules.jumps n
told (Run n) = rules.runs n

-- a text that is no line is `bad`
abbrev pub told_of : Option Line → rules.Line
told_of None = rules.bad
told_of (Some line) = told line

-- how many bytes the digits say
abbrev pub count : Bytes → ℕ
count b = length b.digits.now / 2

-- the digits are the end of the text, two for each byte, and the bytes stand within the part
pub record Within (size : ℕ) (text : List ℕ) (b : Bytes) : Type 0 where
  pub end : drop (length text - length b.digits.now) text ≡ b.digits.now
  pub digits : 2 * count b ≡ length b.digits.now
  pub bytes : b.at + count b ≤ size
  pub some : 1 ≤ count b

abbrev pub Reaches : List ℕ → Option Line → Type 0
Reaches text (Some (Set p b)) = Within (rules.size (part_of p)) text b
Reaches text (Some (Pc n)) = Unit {0}
Reaches text (Some (Run n)) = Unit {0}
Reaches text None = Unit {0}

-- a line of the code says what the text says, and its bytes can be had
pub record Says (text : List ℕ) (r : Option Line) (line : rules.Line) : Type 0 where
  pub means : told_of r ≡ line
  pub within : Reaches text r
