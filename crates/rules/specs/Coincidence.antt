-- 02, item 3: COINC. Its differences and sums are whole numbers, some of them below 0 (ℤ), so that nothing wraps.
use Rattle.std.specs.Prelude.{Bool, true, false, ℕ, ◌+◌, ◌-◌, ◌*◌, ◌/◌, ◌%◌, ◌^◌, leb, ℤ, pos, ◌+ℤ◌, nat_abs}
use Rattle.std.proofs.Math.IntN.{sub_ℕ}
use Rattle.std.specs.Int.Signed.{shr_z, le_z}
use Rattle.rules.specs.Machine.{pick, ◌also◌, bit, high_byte, low_byte}
use Rattle.rules.specs.Answers.{too_coarse}
use Rattle.rules.specs.Rules.{Rule, Deed, give, ◌>>=◌, ◌>>◌, next_byte, next_word, grom_byte, need}
use Rattle.rules.specs.Operands.{operand_value}
use Rattle.rules.specs.Arithmetic.{negative}
use Rattle.rules.specs.Instructions.{set_condition, push_pc, pop_pc}

-- ---- the sums

-- a byte as a signed one: >80 to >FF are -128 to -1
abbrev pub signed : ℕ → ℤ
signed b = pick (negative 0x80 b) (sub_ℕ b 256) (pos b)

-- "source minus destination, as signed bytes"
unfoldable pub difference : ℕ → ℕ → ℤ
difference s d = signed ((s + 256 - d) % 256)

-- "are shifted down by the granularity, the table's two size bytes are added as unsigned": down is rounded down, so -1 stays -1
unfoldable pub along : ℕ → ℕ → ℕ → ℕ → ℤ
along g s d size = shr_z (difference s d) (2 ^ g) +ℤ pos size

-- "each sum must lie from 0 to its limit"
unfoldable pub inside : ℤ → ℕ → Bool
inside sum limit = le_z (pos 0) sum also le_z sum (pos limit)

-- ---- the table: the limits of rows and columns, their sizes, then the bits (listing, at the head of COINC)

-- "Table addresses count in 16 bits."
abbrev pub table_byte : ℕ → ℕ → Rule ℕ
table_byte t k = grom_byte ((t + k) % 65536)

-- "the table's bit, counted from the left, .."
unfoldable pub table_bit : ℕ → ℕ → Rule Bool
table_bit t n = do
  b ← table_byte t (4 + n / 8)
  give (bit (7 - n % 8) b)

-- ".. row by row": a row has one bit more than its limit says
abbrev pub bit_number : ℕ → ℕ → ℕ → ℕ
bit_number columns y x = y * (columns + 1) + x

-- "Inside, the condition bit takes the table's bit ..; outside it is cleared."
unfoldable pub meets : ℕ → ℕ → ℕ → ℤ → ℤ → Rule Bool
meets t rows columns y x = pick (inside y rows also inside x columns) (table_bit t (bit_number columns (nat_abs y) (nat_abs x))) (give false)

-- the table at t, for the pairs a of the destination and b of the source
unfoldable pub in_table : ℕ → ℕ → ℕ → ℕ → Rule Bool
in_table t g a b = do
  rows ← table_byte t 0
  columns ← table_byte t 1
  v ← table_byte t 2
  h ← table_byte t 3
  meets t rows columns (along g (high_byte b) (high_byte a) v) (along g (low_byte b) (low_byte a) h)

-- "pc is pushed before the table is read and popped after that store; both count."
unfoldable pub look_up : ℕ → ℕ → ℕ → ℕ → Deed
look_up t g a b = do
  push_pc
  met ← in_table t g a b
  set_condition met
  pop_pc

-- ---- the whole

-- "23 granularity above 7, before the table address is read"
unfoldable pub granularity : Rule ℕ
granularity = do
  g ← next_byte
  need (leb g 7) too_coarse
  give g

-- "two word operands as row and column pairs, then a granularity byte and a table address"
unfoldable pub coinc_rule : Deed
coinc_rule = do
  a ← operand_value true
  b ← operand_value true
  g ← granularity
  t ← next_word
  look_up t g a b
