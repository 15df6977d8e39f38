-- The lines that the program prints: "It prints answer, steps, stores; pc; each cell changed, ascending, pad, vdp, reg."
use Rattle.std.specs.Prelude.{◌≡◌, cond, List, [], ◌∷◌, ◌++◌, ℕ, suc, ◌+◌, ◌≤◌, eqb, length, take}
use Rattle.std.specs.Borrow.{Bor, MutBor}
use denote.Triple.Both.{Both}
use Rattle.lines.specs.Ascii.{ascii}
use Rattle.lines.specs.Digits.{show_decimal, show_hex, laid}
use Rattle.lines.specs.Lines.{Part, pad, vdp, reg, tab, opening, pc_opening, places}

abbrev pub feed : List ℕ
feed = ascii "\n"

-- `answer`, the answer, steps, stores
unfoldable pub counts_text : ℕ → ℕ → ℕ → List ℕ
counts_text answer steps stores = ascii "answer\t" ++ show_decimal answer ++ (tab ∷ []) ++ show_decimal steps ++ (tab ∷ []) ++ show_decimal stores

-- 02, item 2: the address is "the answer line's fourth number, in hex"
unfoldable pub answer_line : ℕ → ℕ → ℕ → ℕ → List ℕ
answer_line answer steps stores address = counts_text answer steps stores ++ (tab ∷ []) ++ show_hex 4 address ++ feed

-- `pc` and the program address, without the line feed
unfoldable pub pc_text : ℕ → List ℕ
pc_text pc = pc_opening ++ show_hex 4 pc

abbrev pub pc_line : ℕ → List ℕ
pc_line pc = pc_text pc ++ feed

-- a cell's part, address and byte, without the line feed
unfoldable pub cell_text : Part → ℕ → ℕ → List ℕ
cell_text p at byte = opening p ++ show_hex (places p) at ++ (tab ∷ []) ++ show_hex 2 byte

abbrev pub cell_line : Part → ℕ → ℕ → List ℕ
cell_line p at byte = cell_text p at byte ++ feed

-- "`bad`, its number from 1"
unfoldable pub bad_line : ℕ → List ℕ
bad_line line = ascii "bad\t" ++ show_decimal line ++ feed

-- "each cell changed, ascending": of a part that was one list and is another, from a cell on
unfoldable pub changed : Part → ℕ → List ℕ → List ℕ → List ℕ
changed p at [] is = []
changed p at (b ∷ was) [] = []
changed p at (b ∷ was) (c ∷ is) = cond (eqb b c) [] (cell_line p at c) ++ changed p (suc at) was is

-- "It prints answer, steps, stores; pc; each cell changed, ascending, pad, vdp, reg": each part as it was and as it is
unfoldable pub run_lines : ℕ → ℕ → ℕ → ℕ → ℕ → List ℕ → List ℕ → List ℕ → List ℕ → List ℕ → List ℕ → List ℕ
run_lines answer steps stores address pc pad_was pad_is vdp_was vdp_is regWas regIs =
    answer_line answer steps stores address ++ pc_line pc ++ changed pad 0 pad_was pad_is ++ changed vdp 0 vdp_was vdp_is ++ changed reg 0 regWas regIs

-- a text of at most so many bytes put at a place of a buffer, whose rest stays as it was; `past` is the place past it
pub record Puts (most : ℕ) (was : List ℕ) (at : ℕ) (text is : List ℕ) (past : ℕ) : Type 0 where
  pub over : is ≡ laid was at text
  pub ends : past ≡ at + length text
  pub fits : past ≤ at + most

-- the first `count` bytes of a buffer are a text
pub record Front (text buffer : List ℕ) (count : ℕ) : Type 0 where
  pub is : take count buffer ≡ text
  pub fits : count ≤ length buffer

-- a slice that is lent: before the call and after it
abbrev pub Lent : Type 0
Lent = Both (MutBor (List ℕ)) (MutBor (List ℕ))

-- a slice that is lent to be read alone
abbrev pub SeenLent : Type 0
SeenLent = Both (Bor (List ℕ)) (Bor (List ℕ))

-- what a contract says of the buffer that it is lent
abbrev pub Prints : ℕ → List ℕ → Lent → ℕ → ℕ → Type 0
Prints most text out at past = Puts most out.entry.now at text out.exit.now past
