-- What a line does to the machine on the desk, and what it prints: "The program reads standard input, tabbed lines".
use Rattle.std.specs.Prelude.{Bool, true, false, cond, List, [], ◌∷◌, ◌++◌, ℕ, suc, leb, eqb, length, replicate}
use Rattle.rules.specs.Machine.{Mem, mem, State, state}
use Rattle.rules.specs.Calls.{Report, run}
use Rattle.lines.specs.Digits.{laid}
use Rattle.lines.specs.Shown.{bad_line, run_lines}
use Rattle.lines.specs.Lines.{Part, grom, pad, vdp, reg, size, Line, sets, jumps, runs, bad, line_of}

-- the same machine with other memories
abbrev pub remade : (Mem → Mem) → State → State
remade f s = state s.pc s.source (f s.mem)

-- image, pad, VDP RAM and registers beside the journal
abbrev pub filled : List ℕ → List ℕ → List ℕ → List ℕ → Mem → Mem
filled i p v g m = mem i m.groups p v g m.journal m.used m.older m.place m.ring

-- "each with address and hex bytes": they are laid over the part
abbrev pub placed : Part → ℕ → List ℕ → State → State
placed grom at bs = remade (λ m. filled (laid m.image at bs) m.pad m.vram m.regs m)
placed pad at bs = remade (λ m. filled m.image (laid m.pad at bs) m.vram m.regs m)
placed vdp at bs = remade (λ m. filled m.image m.pad (laid m.vram at bs) m.regs m)
placed reg at bs = remade (λ m. filled m.image m.pad m.vram (laid m.regs at bs) m)

abbrev pub obeyed : Line → State → State
obeyed (sets p at bs) s = placed p at bs s
obeyed (jumps n) s = state n s.source s.mem
obeyed (runs n) s = (run n s).end
obeyed bad s = s

-- "It prints answer, steps, stores; pc; each cell changed", and "changed means by that run": m has pad, VDP RAM and registers before it
abbrev pub run_text : Mem → Report → List ℕ
run_text m r =
    let e : Mem = r.end.mem in
    run_lines r.answer.number r.steps r.stores r.answer.address r.end.pc m.pad e.pad m.vram e.vram m.regs e.regs

-- what a line prints, by its number: "A line not so, or past its part: `bad`, its number from 1"
abbrev pub printed : ℕ → Line → State → List ℕ
printed k (sets p at bs) s = []
printed k (jumps n) s = []
printed k (runs n) s = run_text s.mem (run n s)
printed k bad s = bad_line k

-- whether it says anything
abbrev pub says : Line → Bool
says (sets p at bs) = true
says (jumps n) = true
says (runs n) = true
says bad = false

-- ---- a whole input

abbrev pub line_feed : ℕ
line_feed = 0x0A

-- a character put before the first of some lines
abbrev pub onto : ℕ → List (List ℕ) → List (List ℕ)
onto c [] = (c ∷ []) ∷ []
onto c (l ∷ ls) = (c ∷ l) ∷ ls

-- a text in lines: each ends at a line feed, and the last may lack it
unfoldable pub cut : List ℕ → List (List ℕ)
cut [] = []
cut (c ∷ cs) = cond (eqb c line_feed) ([] ∷ cut cs) (onto c (cut cs))

-- as long as a `grom` line for the whole image
abbrev pub longest : ℕ
longest = 65546

-- what a line says: nothing where it is longer
unfoldable pub heard : List ℕ → Line
heard l = cond (leb (length l) longest) (line_of l) bad

-- what lines print from the k-th on, each obeyed in the state that the one before has left: "`bad`, its number from 1, stop"
unfoldable pub told : ℕ → List (List ℕ) → State → List ℕ
told k [] s = []
told k (l ∷ ls) s = printed k (heard l) s ++ cond (says (heard l)) (told (suc k) ls (obeyed (heard l) s)) []

-- "Its image is 32,768 zeros, its journal 16,384 words; all not set is 0." No group of it is named writable, and no line names one; no ring is asked for, and no tick is made.
abbrev pub start : State
start =
    state 0 false (mem (replicate (size grom) 0) 0 (replicate (size pad) 0) (replicate (size vdp) 0) (replicate (size reg) 0) (replicate 16384 0) 0 0 0 false)

-- "The program reads standard input", and what it prints
unfoldable pub whole : List ℕ → List ℕ
whole text = told 1 (cut text) start
