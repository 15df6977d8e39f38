-- 02, item 10: sound lists. How one is started, and what a tick does; each rule gives the source flag that it leaves.
use Rattle.std.specs.Prelude.{Bool, true, false, ℕ, zero, suc, ◌+◌, ◌-◌, ◌%◌, ltb, eqb}
use Rattle.rules.specs.Machine.{pick, ◌also◌, cpu, vdp, upon, joined, list_cell, count_cell}
use Rattle.rules.specs.Answers.{needs_host, output_full}
use Rattle.rules.specs.Rules.{Rule, Deed, give, ◌>>=◌, ◌>>◌, grom_byte, peek, peek_word, poke, emit, need}
use Rattle.rules.specs.Operands.{Width, Cell, operand, value, poke_word, source}
use Rattle.rules.specs.Instructions.{push_pc, pop_pc}

-- "0 (GROM) or 1 (VDP RAM)": true for VDP RAM
abbrev pub Source : Type 0
Source = Bool

-- ---- the start

-- a CPU cell
abbrev pub in_pad : Cell → Bool
in_pad c = upon c.kind true false false false

-- "Let >F4 to >F7, two operands in 01's way, start a list when the source is 0 (GROM) or 1 (VDP RAM): the pad word at the destination goes to >CC, then 1 to >CE."
-- "Other functions, or a VDP destination, answer 3 after the mark and the operands."
unfoldable pub start_rule : Bool → Width → Rule Source
start_rule imm w = do
  c ← operand w
  value w c
  f ← source imm w
  need (in_pad c also ltb f 2) needs_host
  a ← peek_word cpu c.at
  poke_word cpu list_cell a
  poke cpu count_cell 1
  give (eqb f 1)

-- ---- the bytes of a list

-- "List addresses count in 16 bits."
abbrev pub further : ℕ → ℕ → ℕ
further a n = (a + n) % 65536

-- a byte of the list: 6 beyond the image, 5 beyond VDP RAM
unfoldable pub list_byte : Source → ℕ → Rule ℕ
list_byte v a = pick v (peek vdp a) (grom_byte a)

-- "26 output full, after 6 or 5 for the byte concerned": a byte of the list into an output of so many bytes more
unfoldable pub send_next : ℕ → Source → ℕ → Deed
send_next left v a = do
  b ← list_byte v a
  need (ltb 0 left) output_full
  emit b

-- "send the next block's bytes to a lent output": n of them, from an address on
unfoldable pub send_bytes : ℕ → Source → ℕ → ℕ → Deed
send_bytes left v a zero = give tt
send_bytes left v a (suc n) = do
  send_next left v a
  send_bytes (left - 1) v (further a 1) n

-- ---- a block

-- what a block leaves: the address and the source of the one after it, and how many ticks on it is due
pub record Due : Type 0 where
  pub list : ℕ
  pub count : ℕ
  pub source : Source

abbrev pub due : ℕ → ℕ → Source → Due
due a n v = record { list = a; count = n; source = v }

-- its bytes, and then the count
unfoldable pub send_block : ℕ → Source → ℕ → ℕ → Rule Due
send_block left v a n = do
  send_bytes left v (further a 1) n
  k ← list_byte v (further a (n + 1))
  give (due (further a (n + 2)) k v)

-- "a new address .. (either ends the tick with 1 in >CE)": from one source, and to one
unfoldable pub leap : Source → ℕ → Source → Rule Due
leap v a to = do
  high ← list_byte v (further a 1)
  low ← list_byte v (further a 2)
  give (due (joined high low) 1 to)

abbrev pub other : Source → Source
other v = pick v false true

-- "take a size of 0 as a new address and >FF as a change of source with a new address"
unfoldable pub block : ℕ → Source → ℕ → ℕ → Rule Due
block left v a n = pick (eqb n 0) (leap v a v) (pick (eqb n 0xFF) (leap v a (other v)) (send_block left v a n))

-- ---- the tick

-- "A due GROM block is read between a push and a pop of pc."
unfoldable pub opened : Source → Deed
opened v = pick v (give tt) push_pc

unfoldable pub closed : Source → Deed
closed v = pick v (give tt) pop_pc

unfoldable pub due_block : ℕ → Source → Rule Source
due_block left v = do
  a ← peek_word cpu list_cell
  opened v
  n ← list_byte v a
  d ← block left v a n
  poke_word cpu list_cell d.list
  poke cpu count_cell d.count
  closed v
  give d.source

-- "count down": the block is due when it comes to 0
unfoldable pub count_down : ℕ → Source → ℕ → Rule Source
count_down left v n = do
  poke cpu count_cell n
  pick (eqb n 0) (due_block left v) (give v)

-- "end on a count of 0": then no more is done
unfoldable pub tick_rule : ℕ → Source → Rule Source
tick_rule left v = do
  n ← peek cpu count_cell
  pick (eqb n 0) (give v) (count_down left v (n - 1))
