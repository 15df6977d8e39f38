-- What the code's places and operands say, in the words of the rules.
use Rattle.std.specs.Prelude.{ℕ}
use Rattle.rules.specs.Machine.{cpu, vdp}
use Rattle.rules.specs.Rules.{Rule, give, ◌>>=◌}
use Rattle.rules.specs.Operands.{Width, Cell, cell, operand, value}
use Rattle.operand.specs.declared.places.Place.{Place}
use Rattle.operand.specs.declared.places.Place.TheVariants.{Cpu, Vdp}
use Rattle.operand.specs.declared.targets.Target as code

-- the cell of a place
abbrev pub cell_of : Place → Cell
cell_of (Cpu a) = cell cpu a
cell_of (Vdp a) = cell vdp a

-- an operand that is stored to, and was read: its cell, and its value
pub record Target : Type 0 where
  pub cell : Cell
  pub value : ℕ

abbrev pub target : Cell → ℕ → Target
target c v = record { cell = c; value = v }

abbrev pub target_of : code.Target → Target
target_of t = target (cell_of t.place) t.value

unfoldable pub read_target : Width → Rule Target
read_target w = do
  c ← operand w
  v ← value w c
  give (target c v)
