-- 01, "Operands": the cell that an operand names, what is read there, and how a result is stored.
use Rattle.std.specs.Prelude.{Bool, false, ℕ, ◌+◌, ◌-◌, ◌*◌, ◌%◌, ltb, leb, eqb}
use Rattle.rules.specs.Machine.{pick, ◌also◌, bit, Kind, cpu, vdp, upon, reach, joined, high_byte, low_byte, data_pointer, status, buffer, ypt, xpt}
use Rattle.rules.specs.Answers.{outside, off_stack}
use Rattle.rules.specs.Rules.{Rule, Deed, give, ◌>>=◌, ◌>>◌, next_byte, next_word, peek, peek_word, poke, need}

-- "From >80 on, bit 0 means word": true for a word, false for a byte
abbrev pub Width : Type 0
Width = Bool

abbrev pub byte_count : Width → ℕ
byte_count w = pick w 2 1

-- a cell, or the first of two
pub record Cell : Type 0 where
  pub kind : Kind
  pub at : ℕ

abbrev pub cell : Kind → ℕ → Cell
cell k a = record { kind = k; at = a }

-- the cell n further on
abbrev pub past : ℕ → Cell → Cell
past n c = cell c.kind (c.at + n)

-- a number lies from one to another
abbrev pub within : ℕ → ℕ → ℕ → Bool
within first last n = leb first n also leb n last

-- ---- decoding

-- "a second byte give a 12-bit offset"
unfoldable pub short_offset : ℕ → Rule ℕ
short_offset aaaa = do
  low ← next_byte
  give (joined aaaa low)

-- "if aaaa is 1111 a 16-bit offset stands in the two bytes after the first"
unfoldable pub offset : ℕ → Rule ℕ
offset aaaa = pick (eqb aaaa 15) next_word (short_offset aaaa)

-- "one more byte names a pad word that is added, modulo 65,536"
unfoldable pub add_index : ℕ → Rule ℕ
add_index a = do
  x ← next_byte
  w ← peek_word cpu x
  give ((a + w) % 65536)

-- "With X .. before any indirection."
unfoldable pub indexed : Bool → ℕ → Rule ℕ
indexed x a = pick x (add_index a) (give a)

-- "I with V: the offset names a pad word holding the VDP address."
unfoldable pub through_word : ℕ → Rule Cell
through_word a = do
  w ← peek_word cpu a
  give (cell vdp w)

-- "I without V: it names a pad byte holding a pad offset."
unfoldable pub through_byte : ℕ → Rule Cell
through_byte a = do
  b ← peek cpu a
  give (cell cpu b)

-- "pops: pointer >72 must be >A0 to >BF; the operand is the cell it names; >72 goes down by one."
abbrev pub on_data_stack : ℕ → Bool
on_data_stack p = within 0xA0 0xBF p

unfoldable pub pop_cell : Rule Cell
pop_cell = do
  p ← peek cpu data_pointer
  need (on_data_stack p) off_stack
  poke cpu data_pointer (p - 1)
  give (cell cpu p)

-- "I without V at offset >7C pops"
unfoldable pub through_pad : ℕ → Rule Cell
through_pad a = pick (eqb a status) pop_cell (through_byte a)

-- "V: VDP RAM, else CPU."
unfoldable pub named : Bool → Bool → ℕ → Rule Cell
named v i a = pick v (pick i (through_word a) (give (cell vdp a))) (pick i (through_pad a) (give (cell cpu a)))

-- "Otherwise bits 1XVIaaaa"
unfoldable pub far_cell : ℕ → Rule Cell
far_cell b = do
  a ← offset (b % 16)
  e ← indexed (bit 6 b) a
  named (bit 5 b) (bit 4 b) e

-- "First byte >00 to >7F: that pad offset."
unfoldable pub any_cell : ℕ → Rule Cell
any_cell b = pick (ltb b 0x80) (give (cell cpu b)) (far_cell b)

-- n bytes from a cell on are in range
abbrev pub in_reach : ℕ → Cell → Bool
in_reach n c = leb (c.at + n) (reach c.kind)

-- 02, item 2: "of a word, the first byte out of range"
abbrev pub first_out : Cell → ℕ
first_out c = pick (ltb c.at (reach c.kind)) (reach c.kind) c.at

-- "A word operand needs both bytes in range."
unfoldable pub reached : ℕ → Cell → Rule Cell
reached n c = do
  need (in_reach n c) (outside c.kind (first_out c))
  give c

-- "The result of decoding is a CPU cell, a VDP cell or a refusal."
-- n bytes from the cell on must be in range: 1 for a byte or for the place of a MOVE or a format string, 2 for a word.
unfoldable pub operand_of : ℕ → Rule Cell
operand_of n = do
  b ← next_byte
  c ← any_cell b
  reached n c

abbrev pub operand : Width → Rule Cell
operand w = operand_of (byte_count w)

-- "its source and destination operands only name a place"
abbrev pub place : Rule Cell
place = operand_of 1

-- ---- the screen

-- "Screen position: YPT times 32 plus XPT modulo 32."
unfoldable pub position : Rule ℕ
position = do
  y ← peek cpu ypt
  x ← peek cpu xpt
  give (y * 32 + x % 32)

-- the screen byte at the position
unfoldable pub screen_byte : Rule ℕ
screen_byte = do
  p ← position
  peek vdp p

-- a byte to the screen at the position
unfoldable pub to_screen : ℕ → Deed
to_screen b = do
  p ← position
  poke vdp p b

-- ---- reading and storing

-- pad >7D
abbrev pub is_buffer : Cell → Bool
is_buffer c = upon c.kind (eqb c.at buffer) false false false

unfoldable pub load_buffer : Deed
load_buffer = do
  b ← screen_byte
  poke cpu buffer b

-- "A read whose first byte is pad >7D first stores the screen byte there."
unfoldable pub refresh : Cell → Deed
refresh c = pick (is_buffer c) load_buffer (give tt)

-- what stands in a cell or two, as it stands: "Index words, pointers, DIV's low half when read, MOVE's bytes and format strings do neither."
unfoldable pub standing : Width → Cell → Rule ℕ
standing w c = pick w (peek_word c.kind c.at) (peek c.kind c.at)

-- "Every operand is read, also one only stored to."
unfoldable pub value : Width → Cell → Rule ℕ
value w c = do
  refresh c
  standing w c

-- high byte first, each byte a store of its own
unfoldable pub poke_word : Kind → ℕ → ℕ → Deed
poke_word k a v = do
  poke k a (high_byte v)
  poke k (a + 1) (low_byte v)

unfoldable pub store_value : Width → Cell → ℕ → Deed
store_value w c v = pick w (poke_word c.kind c.at v) (poke c.kind c.at v)

unfoldable pub echo : Cell → ℕ → Deed
echo c b = pick (is_buffer c) (to_screen b) (give tt)

-- "If a result's last byte (each half of MUL's or DIV's is one) goes to pad >7D, that byte then goes to the screen too."
unfoldable pub result : Width → Cell → ℕ → Deed
result w c v = do
  store_value w c v
  echo (past (byte_count w - 1) c) (low_byte v)

-- ---- an operand's value, and a source's

unfoldable pub operand_value : Width → Rule ℕ
operand_value w = do
  c ← operand w
  value w c

-- an operand that is stored to, "read, also one only stored to", and what goes on from its cell and its value
abbrev pub target : Width → (Cell → ℕ → Deed) → Deed
target w f = do
  c ← operand w
  v ← value w c
  f c v

-- the bytes at pc
unfoldable pub immediate : Width → Rule ℕ
immediate w = pick w next_word next_byte

-- "bit 1 meaning immediate source"
unfoldable pub source : Bool → Width → Rule ℕ
source imm w = pick imm (immediate w) (operand_value w)
