-- What the contracts of the rig's functions say.
use Rattle.std.specs.Prelude.{◌≡◌, List, ◌∷◌, ℕ, ◌<◌, ◌≤◌, length, Option, is_some, Result, Ok, Err, IfErr}
use Rattle.lines.specs.Shown.{Lent, SeenLent}
use Rattle.desk.specs.Desk.{cut, heard, says}
use Rattle.rig.specs.Rig.{placed, gathered, first_bad}
use Rattle.rig.specs.declared.gather.BadLine.{BadLine}

-- the first line of a text, and the text after it
pub record Splits (text line rest : List ℕ) : Type 0 where
  pub is : cut text ≡ line ∷ cut rest
  pub shorter : length rest < length text

-- a line obeyed, as far as the image goes
pub record Took (line : SeenLent) (image : Lent) (r : Option (Unit {0})) : Type 0 where
  pub says : is_some r ≡ says (heard line.entry.now)
  pub leaves : image.exit.now ≡ placed (heard line.entry.now) image.entry.now

-- the number of the line that says nothing, 0 where all say something
abbrev pub bad_of : Result (Unit {0}) BadLine → ℕ
bad_of (Ok u) = 0
bad_of (Err b) = b.number

-- the lines of a text: their image, where all say something
pub record Gathers (text : SeenLent) (image : Lent) (r : Result (Unit {0}) BadLine) : Type 0 where
  pub says : bad_of r ≡ first_bad 1 (cut text.entry.now)
  pub counts : IfErr r (λ b. 1 ≤ b.number)
  pub leaves : bad_of r ≡ 0 → image.exit.now ≡ gathered image.entry.now (cut text.entry.now)
