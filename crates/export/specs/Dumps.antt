-- How a caller in C reads what a dump's calls hand back: the answer, and a number beside it.
use Rattle.std.specs.Prelude.{ℕ}
use Rattle.std.specs.Borrow.{MutBor}
use denote.Triple.Both.{Both}
use Rattle.lines.specs.Shown.{Lent, SeenLent}
use Rattle.intelhex.specs.Dump.{told, wrote}
use Rattle.intelhex.specs.Meaning.{Reads, Writes}

-- a number that is lent: before the call and after it
abbrev pub Number : Type 0
Number = Both (MutBor ℕ) (MutBor ℕ)

-- the answer and `line` are those of the rules
abbrev pub ReadsIn : SeenLent → Lent → Number → ℕ → Type 0
ReadsIn text image line answer = Reads text image (told answer line.exit.now)

-- the answer and `count`
abbrev pub WritesIn : SeenLent → Lent → Number → ℕ → Type 0
WritesIn image out count answer = Writes image out (wrote answer count.exit.now)
