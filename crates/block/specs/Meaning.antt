-- What the code's ends of a MOVE say, in the words of the rules; and what a loop of stores to VDP RAM makes of it.
use Rattle.std.specs.Prelude.{List, [], ◌∷◌, ℕ, min, zero, suc, ◌+◌, ◌-◌, ◌%◌, ◌≤◌, length, get_or, set}
use Rattle.rules.specs.Machine.{vdp}
use Rattle.rules.specs.Journal.{word}
use Rattle.rules.specs.Operands.{Cell, cell}
use Rattle.machine.specs.declared.state.Machine.{Machine}
use Rattle.machine.specs.declared.memory.Memory.{Memory}
use Rattle.machine.specs.declared.memory.Memory.TheVariants.{Cpu, Vdp, Register, Grom}
use Rattle.machine.specs.Meaning.{kind_of}
use Rattle.block.specs.declared.ends.End.{End}

-- the cell that a MOVE's first byte comes from, or goes to
abbrev pub end_of : End → Cell
end_of e = cell (kind_of e.memory) e.at

-- ---- stores to VDP RAM in a row

-- VDP RAM and a plain journal
pub record Screen : Type 0 where
  pub vram : List ℕ
  pub journal : List ℕ
  pub used : ℕ

abbrev pub screen : List ℕ → List ℕ → ℕ → Screen
screen v j u = record { vram = v; journal = j; used = u }

abbrev pub screen_in : Machine → Screen
screen_in m = screen m.vram.now m.journal.now m.used

-- a byte into a cell, and its word onto the journal
abbrev pub put : ℕ → ℕ → Screen → Screen
put a b x = screen (set x.vram a (b % 256)) (set x.journal x.used (word vdp a (get_or x.vram a 0))) (suc x.used)

-- the byte of each turn: it comes from elsewhere, or from VDP RAM as it then is, or is the same
abbrev pub outside : List ℕ → ℕ → ℕ → Screen → ℕ
outside l a k x = get_or l (a + k) 0

abbrev pub inside : ℕ → ℕ → Screen → ℕ
inside a k x = get_or x.vram (a + k) 0

abbrev pub always : ℕ → ℕ → Screen → ℕ
always b k x = b

-- n turns, from the k-th on, to the cells from t on
unfoldable pub stored : ℕ → ℕ → (ℕ → Screen → ℕ) → ℕ → Screen → Screen
stored zero k f t x = x
stored (suc n) k f t x = stored n (suc k) f t (put (t + k) (f k x) x)

-- how many cells from the first on a MOVE can read with no mark, and with no address that wraps
abbrev pub clear_grom : List ℕ → ℕ → ℕ
clear_grom [] n = min n 65536
clear_grom (b ∷ z) n = 0

abbrev pub clear : Memory → Machine → ℕ
clear Cpu m = 0xE0
clear Vdp m = 16384
clear Register m = 0
clear Grom m = clear_grom m.map.now (length m.image.now)

-- n bytes surely go from there to VDP RAM from t on: so many are left at either end, and in the journal
abbrev pub IsSure : ℕ → End → ℕ → Machine → Type 0
IsSure n f t m = (n ≤ clear f.memory m - f.at) × (n ≤ 16384 - t) × (n ≤ length m.journal.now - m.used)
