-- 01, "Format strings": FMT as a rule.
use Rattle.std.specs.Prelude.{Bool, true, false, List, [], ◌∷◌, ℕ, zero, suc, ◌+◌, ◌-◌, ◌*◌, ◌/◌, ◌%◌, ltb, eqb}
use Rattle.rules.specs.Machine.{pick, Kind, cpu, vdp, upon, sub_pointer, ypt, xpt}
use Rattle.rules.specs.Answers.{off_cpu, too_long}
use Rattle.rules.specs.Rules.{Rule, Deed, give, refuse, ◌>>=◌, ◌>>◌, next_byte, next_word, goto, peek, poke, need}
use Rattle.rules.specs.Operands.{place, position}
use Rattle.rules.specs.Instructions.{raise}

-- ---- the cursor

-- "row (modulo 256) and column are stored": the row's store keeps a byte
unfoldable pub set_cursor : ℕ → Deed
set_cursor p = do
  poke cpu ypt (p / 32)
  poke cpu xpt (p % 32)

-- ">300 to >31F loses >300, >320 and up doesn't"
unfoldable pub wrap_show : ℕ → ℕ
wrap_show p = pick (ltb p 0x300) p (pick (ltb p 0x320) (p - 0x300) p)

-- "A skip loses >300 once from >300 up"
unfoldable pub wrap_skip : ℕ → ℕ
wrap_skip p = pick (ltb p 0x300) p (p - 0x300)

-- "stored to the screen; the position grows by 1 or 32; .. row (modulo 256) and column are stored"
unfoldable pub show : ℕ → ℕ → Deed
show step b = do
  p ← position
  poke vdp p b
  set_cursor (wrap_show (p + step))

-- "A skip .. then stores row and column likewise."
unfoldable pub skip : ℕ → Deed
skip n = do
  p ← position
  set_cursor (wrap_skip (p + n))

-- ---- text

-- "A character plus bias (modulo 256)"
abbrev pub biased : ℕ → ℕ → ℕ
biased bias ch = (ch + bias) % 256

unfoldable pub show_next : ℕ → ℕ → Deed
show_next step bias = do
  ch ← next_byte
  show step (biased bias ch)

-- n characters
unfoldable pub text : ℕ → ℕ → ℕ → Deed
text zero step bias = give tt
text (suc n) step bias = do
  show_next step bias
  text n step bias

-- one character n times
unfoldable pub show_times : ℕ → ℕ → ℕ → Deed
show_times zero step b = give tt
show_times (suc n) step b = do
  show step b
  show_times n step b

-- "one character repeated"
unfoldable pub repeat_text : ℕ → ℕ → ℕ → Deed
repeat_text n step bias = do
  ch ← next_byte
  show_times n step (biased bias ch)

abbrev pub is_cpu : Kind → Bool
is_cpu k = upon k true false false false

-- "a CPU operand": 4 for "a format operand decoded to a VDP cell", with "its VDP cell" for the address
unfoldable pub cpu_operand : Rule ℕ
cpu_operand = do
  c ← place
  need (is_cpu c.kind) (off_cpu c.at)
  give c.at

unfoldable pub show_cell : ℕ → ℕ → Deed
show_cell a bias = do
  ch ← peek cpu a
  show 1 (biased bias ch)

-- n characters from a pad offset on
unfoldable pub pad_text : ℕ → ℕ → ℕ → Deed
pad_text zero a bias = give tt
pad_text (suc n) a bias = do
  show_cell a bias
  pad_text n (suc a) bias

-- "text across from a CPU operand"
unfoldable pub operand_text : ℕ → ℕ → Deed
operand_text n bias = do
  a ← cpu_operand
  pad_text n a bias

-- ---- codes

-- where a format string stands after a code: at its end, or going on with a bias and so many blocks not yet closed
pub data Turn : Type 0 where
  over : Turn
  on : ℕ → ℕ → Turn

-- a code that changes neither
unfoldable pub go_on : ℕ → ℕ → Deed → Rule Turn
go_on bias blocks r = do
  r
  give (on bias blocks)

-- "A block raises >73 by 2 (push test) and stores 256 minus the count there."
unfoldable pub open_block : ℕ → ℕ → ℕ → Rule Turn
open_block n bias blocks = do
  p ← raise
  poke cpu p (256 - n)
  give (on bias (suc blocks))

-- "at 0 it lowers >73"
unfoldable pub close_block : ℕ → ℕ → ℕ → Rule Turn
close_block p bias blocks = do
  poke cpu sub_pointer (p - 2)
  give (on bias (blocks - 1))

-- "else pc goes there"
unfoldable pub repeat_block : ℕ → ℕ → ℕ → Rule Turn
repeat_block a bias blocks = do
  goto a
  give (on bias blocks)

unfoldable pub block_turn : ℕ → ℕ → ℕ → ℕ → ℕ → Rule Turn
block_turn n p a bias blocks = pick (eqb n 0) (close_block p bias blocks) (repeat_block a bias blocks)

-- "An end inside a block reads two address bytes, adds 1 to that byte"
unfoldable pub end_inside : ℕ → ℕ → Rule Turn
end_inside bias blocks = do
  a ← next_word
  p ← peek cpu sub_pointer
  n ← peek cpu p
  poke cpu p ((n + 1) % 256)
  block_turn ((n + 1) % 256) p a bias blocks

-- row and column stored as the position gives them
unfoldable pub settle_cursor : Deed
settle_cursor = do
  p ← position
  set_cursor p

-- "An end outside stores row and column."
unfoldable pub end_outside : Rule Turn
end_outside = do
  settle_cursor
  give over

-- ">FB end"
unfoldable pub end_code : ℕ → ℕ → Rule Turn
end_code bias blocks = pick (eqb blocks 0) end_outside (end_inside bias blocks)

-- ">FC bias from GROM"
unfoldable pub grom_bias : ℕ → Rule Turn
grom_bias blocks = do
  b ← next_byte
  give (on b blocks)

-- ">FD from a CPU operand"
unfoldable pub operand_bias : ℕ → Rule Turn
operand_bias blocks = do
  a ← cpu_operand
  b ← peek cpu a
  give (on b blocks)

-- "Row and column codes store both first, then the new byte."
unfoldable pub cursor_code : ℕ → Deed
cursor_code a = do
  settle_cursor
  b ← next_byte
  poke cpu a b

-- "Code n is the low 5 bits, count n+1"
abbrev pub count : ℕ → ℕ
count c = c % 32 + 1

-- ">00 text across, >20 text down, >40 one character repeated across, >60 down, >80 skip across, >A0 skip down, >C0 block"
abbrev pub rows : ℕ → ℕ → ℕ → List (Rule Turn)
rows bias blocks n =
    go_on bias blocks (text n 1 bias)
    ∷ go_on bias blocks (text n 32 bias)
    ∷ go_on bias blocks (repeat_text n 1 bias)
    ∷ go_on bias blocks (repeat_text n 32 bias)
    ∷ go_on bias blocks (skip n)
    ∷ go_on bias blocks (skip (n * 32))
    ∷ open_block n bias blocks
    ∷ []

-- ">E0 to >FA: text across from a CPU operand. >FC bias from GROM, >FD from a CPU operand, >FE row, >FF column, >FB end."
unfoldable pub last_row : ℕ → ℕ → ℕ → Rule Turn
last_row bias blocks c =
    pick (ltb c 0xFB) (go_on bias blocks (operand_text (count c) bias))
    (pick (ltb c 0xFC) (end_code bias blocks)
    (pick (ltb c 0xFD) (grom_bias blocks)
    (pick (ltb c 0xFE) (operand_bias blocks)
    (pick (ltb c 0xFF) (go_on bias blocks (cursor_code ypt))
    (go_on bias blocks (cursor_code xpt))))))

-- by the top three bits
abbrev pub in_row : ℕ → List (Rule Turn) → Rule Turn → Rule Turn
in_row k [] last = last
in_row zero (r ∷ rs) last = r
in_row (suc k) (r ∷ rs) last = in_row k rs last

unfoldable pub code_rule : ℕ → ℕ → ℕ → Rule Turn
code_rule bias blocks c = in_row (c / 32) (rows bias blocks (count c)) (last_row bias blocks c)

unfoldable pub code : ℕ → ℕ → Rule Turn
code bias blocks = do
  c ← next_byte
  code_rule bias blocks c

-- by where the format string stands
abbrev pub by_turn : {A : Type 0} → Turn → A → (ℕ → ℕ → A) → A
by_turn over x f = x
by_turn (on bias blocks) x f = f bias blocks

-- at most n codes more: "a 16,385th format code in one FMT, before it is read"
unfoldable pub codes : ℕ → Turn → Deed
codes zero t = by_turn t (give tt) (λ bias blocks. refuse too_long)
codes (suc n) t = by_turn t (give tt) (λ bias blocks. code bias blocks >>= codes n)

-- "Bias starts at 0."
unfoldable pub fmt_rule : Deed
fmt_rule = codes 16384 (on 0 0)
