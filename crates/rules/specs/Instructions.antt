-- 01, "Instructions": each but FMT, as a rule.
use Rattle.std.specs.Prelude.{Bool, true, false, ℕ, zero, suc, ◌+◌, ◌-◌, ◌*◌, ◌/◌, ◌%◌, leb, eqb}
use Rattle.rules.specs.Machine.{pick, ◌also◌, bit, cpu, vdp, register, grom, upon, group, joined, low_byte, data_pointer, sub_pointer, random_number, status, ypt, xpt, seed_cell, register_copy}
use Rattle.rules.specs.Answers.{off_stack}
use Rattle.rules.specs.Rules.{Rule, Deed, give, ◌>>=◌, ◌>>◌, next_byte, next_word, grom_byte, here, goto, peek, peek_word, poke, need}
use Rattle.rules.specs.Operands.{Width, byte_count, Cell, cell, past, within, on_data_stack, operand, place, indexed, standing, value, poke_word, result, operand_value, source}
use Rattle.rules.specs.Opcodes.{Test, One, Two}
use Rattle.rules.specs.Arithmetic.{half, span, extended, condition_of, with_condition, tested, Effect, both, only, flags, condition, one_effect, two_effect, next_seed, random_of}

-- ---- those of one and two operands

-- the condition bit stored, the rest of the status as it stands
unfoldable pub set_condition : Bool → Deed
set_condition c = do
  s ← peek cpu status
  poke cpu status (with_condition c s)

-- what an instruction stores, to the cell of its destination
unfoldable pub store_effect : Width → Cell → Effect → Deed
store_effect w c (both s v) = do
  poke cpu status s
  result w c v
store_effect w c (only v) = result w c v
store_effect w c (flags s) = poke cpu status s
store_effect w c (condition t) = set_condition t

-- "One operand"
unfoldable pub one_rule : One → Width → Deed
one_rule op w = do
  c ← operand w
  v ← value w c
  store_effect w c (one_effect op w v)

-- "Two, destination first"
unfoldable pub two_rule : Two → Bool → Width → Deed
two_rule op imm w = do
  c ← operand w
  a ← value w c
  b ← source imm w
  store_effect w c (two_effect op w a b)

-- "the four bit tests change only the condition bit"
unfoldable pub test_rule : Test → Deed
test_rule t = do
  s ← peek cpu status
  poke cpu status (with_condition (tested t s) s)

-- two results, the second in the low half's cell: "each half of MUL's or DIV's is one"
unfoldable pub halves : Width → Cell → ℕ → ℕ → Deed
halves w c first second = do
  result w c first
  result w (past (byte_count w) c) second

-- "MUL, *guide*: unsigned, double-width, no status; high half stored, then low."
unfoldable pub mul_rule : Bool → Width → Deed
mul_rule imm w = do
  c ← operand w
  a ← value w c
  b ← source imm w
  halves w c (a * b / span (half w)) (a * b % span (half w))

-- "status stored as 0 for bytes, 1 for words"
abbrev pub div_status : Width → ℕ
div_status w = pick w 1 0

-- "If the high half is at least the divisor, status is stored again with >08 added and no more."
unfoldable pub div_overflow : Width → Deed
div_overflow w = poke cpu status (div_status w + 0x08)

-- "Else quotient, then remainder."
unfoldable pub div_results : Width → Cell → ℕ → ℕ → Deed
div_results w c n b = halves w c (n / b) (n % b)

unfoldable pub divided : Width → Cell → ℕ → ℕ → ℕ → Deed
divided w c upper lower b = pick (leb b upper) (div_overflow w) (div_results w c (upper * span (half w) + lower) b)

-- "DIV, unsigned, its byte width and overflow by *own rule*: status stored .. before the dividend's low half is read."
unfoldable pub div_rule : Bool → Width → Deed
div_rule imm w = do
  c ← operand w
  upper ← value w c
  b ← source imm w
  poke cpu status (div_status w)
  lower ← standing w (past (byte_count w) c)
  divided w c upper lower b

-- "EX stores destination first."
unfoldable pub ex_rule : Width → Deed
ex_rule w = do
  c ← operand w
  a ← value w c
  d ← operand w
  b ← value w d
  result w c b
  result w d a

-- ---- both stacks

-- "must be even, >80 to >9E"
abbrev pub on_sub_stack : ℕ → Bool
on_sub_stack p = eqb (p % 2) 0 also within 0x80 0x9E p

-- "Subroutine push: >73 up by 2 must be even, >80 to >9E; stored, .."
unfoldable pub raise : Rule ℕ
raise = do
  p ← peek cpu sub_pointer
  need (on_sub_stack (p + 2)) off_stack
  poke cpu sub_pointer (p + 2)
  give (p + 2)

-- ".. then pc high and low."
unfoldable pub push_pc : Deed
push_pc = do
  p ← raise
  pc ← here
  poke_word cpu p pc

-- "Pop needs the same of the old pointer; >73 down by 2."
unfoldable pub pop_pc : Deed
pop_pc = do
  p ← peek cpu sub_pointer
  need (on_sub_stack p) off_stack
  w ← peek_word cpu p
  poke cpu sub_pointer (p - 2)
  goto w

-- "PUSH: >72 up by 1 must be >A0 to >BF, then the low byte."
unfoldable pub push_rule : Width → Deed
push_rule w = do
  v ← operand_value w
  p ← peek cpu data_pointer
  need (on_data_stack (p + 1)) off_stack
  poke cpu data_pointer (p + 1)
  poke cpu (p + 1) (low_byte v)

-- ---- branches

-- "13 bits within the group"
abbrev pub in_group : ℕ → ℕ → ℕ
in_group pc a = pc / group * group + a % group

unfoldable pub jump_in_group : ℕ → Deed
jump_in_group a = do
  pc ← here
  goto (in_group pc a)

unfoldable pub jump_if : Bool → ℕ → Deed
jump_if c a = pick c (jump_in_group a) (give tt)

-- "BR taken if condition is clear, BS if set"
abbrev pub taken : Bool → Bool → Bool
taken set cond = pick set cond (pick cond false true)

-- "13 bits within the group, else one byte is skipped"
unfoldable pub branch_rule : Bool → ℕ → Deed
branch_rule set upper = do
  lower ← next_byte
  s ← peek cpu status
  jump_if (taken set (condition_of s)) (joined upper lower)
  set_condition false

-- "B and CALL read the address to load .. All five, and CASE, store a cleared condition: .. the others last."
unfoldable pub long_rule : Deed
long_rule = do
  a ← next_word
  goto a
  set_condition false

-- "(CALL then pushes pc)"
unfoldable pub call_rule : Deed
call_rule = do
  a ← next_word
  push_pc
  goto a
  set_condition false

-- "RTN pops it. .. RTN before its pop"
unfoldable pub rtn_rule : Deed
rtn_rule = do
  set_condition false
  pop_pc

-- "RTNC doesn't."
unfoldable pub rtnc_rule : Deed
rtnc_rule = pop_pc

-- "CASE adds twice the value to pc's low 13 bits, after its operand."
unfoldable pub case_rule : Width → Deed
case_rule w = do
  v ← operand_value w
  pc ← here
  goto (in_group pc (pc % group + 2 * extended w v))
  set_condition false

-- ---- FETCH, RAND, BACK, ALL

-- "FETCH: pc is pushed and >73 put back, so the slot above keeps it; the top is the word at the old pointer, >7E included; the byte at its GROM address is read;
-- the top word goes up by 1 in 16 bits, unwrapped; the byte (>89: sign-extended) is stored."
unfoldable pub fetch_rule : Width → Deed
fetch_rule w = do
  c ← operand w
  value w c
  p ← peek cpu sub_pointer
  push_pc
  poke cpu sub_pointer p
  a ← peek_word cpu p
  b ← grom_byte a
  poke_word cpu p ((a + 1) % 65536)
  result w c (pick w (extended false b) b)

-- "RAND: the seed becomes the seed times 28,645 plus 31,417, keeping 16 bits; >78 gets the byte-swapped seed modulo (next byte plus 1)."
unfoldable pub rand_rule : Deed
rand_rule = do
  s ← peek_word cpu seed_cell
  poke_word cpu seed_cell (next_seed s)
  limit ← next_byte
  poke cpu random_number (random_of (next_seed s) limit)

-- "BACK: register 7."
unfoldable pub back_rule : Deed
back_rule = do
  b ← next_byte
  poke register 7 b

-- n screen bytes from a on
unfoldable pub fill : ℕ → ℕ → ℕ → Deed
fill zero a b = give tt
fill (suc n) a b = do
  poke vdp a b
  fill n (suc a) b

-- "ALL: 768 screen bytes from 0, then >7E and >7F become 0."
unfoldable pub all_rule : Deed
all_rule = do
  b ← next_byte
  fill 768 0 b
  poke cpu ypt 0
  poke cpu xpt 0

-- ---- MOVE

-- "length (bit 0: two bytes, else a word operand)"; "MOVE's length operand is read as any other"
unfoldable pub move_length : Bool → Rule ℕ
move_length imm = source imm true

unfoldable pub register_cell : Rule Cell
register_cell = do
  n ← next_byte
  give (cell register n)

-- "a two-byte GROM address, with .. a further byte naming a pad word to add"
unfoldable pub grom_cell : Bool → Rule Cell
grom_cell x = do
  a ← next_word
  e ← indexed x a
  give (cell grom e)

-- "destination (bit 3: a register number)"
unfoldable pub ram_target : Bool → Rule Cell
ram_target reg = pick reg register_cell place

-- 02, item 9: of >20 to >25, which lack the bit of >30, "the destination being a two-byte address"
unfoldable pub move_target : Bool → Bool → Rule Cell
move_target ram reg = pick ram (ram_target reg) (grom_cell false)

-- "source (bit 2: operand; else a two-byte GROM address, with bit 1 a further byte naming a pad word to add)"
unfoldable pub move_source : Bool → Bool → Rule Cell
move_source o x = pick o place (grom_cell x)

-- the cell k further on. "GROM source addresses count in 16 bits." 02, item 9: so does a destination in GROM
abbrev pub beyond : ℕ → Cell → Cell
beyond k c = cell c.kind (upon c.kind (c.at + k) (c.at + k) (c.at + k) ((c.at + k) % 65536))

-- the byte there
unfoldable pub source_byte : Cell → ℕ → Rule ℕ
source_byte f k = peek (beyond k f).kind (beyond k f).at

abbrev pub is_register_one : Cell → Bool
is_register_one c = upon c.kind false false (eqb c.at 1) false

-- "A byte for register 1 has bit >80 set (16 KiB, *own rule*) and goes to >D4 first, then to the register."
unfoldable pub register_one : ℕ → Deed
register_one b = do
  poke cpu register_copy (0x80 + b % 0x80)
  poke register 1 (0x80 + b % 0x80)

unfoldable pub deliver : Cell → ℕ → Deed
deliver c b = pick (is_register_one c) (register_one b) (poke c.kind c.at b)

-- the byte k further on, from one place to the other
unfoldable pub move_byte : Cell → Cell → ℕ → Deed
move_byte f c k = do
  b ← source_byte f k
  deliver (beyond k c) b

-- "bytes go one by one": n of them, from k on
unfoldable pub move_bytes : ℕ → ℕ → Cell → Cell → Deed
move_bytes zero k f c = give tt
move_bytes (suc n) k f c = do
  move_byte f c k
  move_bytes n (suc k) f c

-- "L from 1 to >8000 moves L bytes, any other moves one."
unfoldable pub move_count : ℕ → ℕ
move_count l = pick (within 1 0x8000 l) l 1

-- "MOVE: length .., destination .., source .. pc is pushed, bytes go one by one, pc is popped from wherever >73 then points."
unfoldable pub move_rule : ℕ → Deed
move_rule bits = do
  l ← move_length (bit 0 bits)
  c ← move_target (bit 4 bits) (bit 3 bits)
  f ← move_source (bit 2 bits) (bit 1 bits)
  push_pc
  move_bytes (move_count l) 0 f c
  pop_pc
