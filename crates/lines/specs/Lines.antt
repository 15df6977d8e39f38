-- What a line of the input says: "The program reads standard input, tabbed lines: `grom`, `pad`, `vdp`, `reg`, each with address and hex bytes, `pc`, `run`."
use Rattle.std.specs.Prelude.{Option, Some, None, cond, List, ℕ, suc, ◌+◌, leb, eqb, length, get_or, take, drop}
use Rattle.lines.specs.Ascii.{ascii}
use Rattle.lines.specs.Digits.{begins, numeral, up_to, byte_count, bytes}

pub data Part : Type 0 where
  grom pad vdp reg : Part

-- bytes for a part from an address on; the program address; so many steps to run; or a line "not so, or past its part"
pub data Line : Type 0 where
  sets : Part → ℕ → List ℕ → Line
  jumps : ℕ → Line
  runs : ℕ → Line
  bad : Line

-- "Columns part by tabs"
abbrev pub tab : ℕ
tab = 0x09

-- "`grom`, `pad`, `vdp`, `reg`", each with the tab after it
abbrev pub opening : Part → List ℕ
opening grom = ascii "grom\t"
opening pad = ascii "pad\t"
opening vdp = ascii "vdp\t"
opening reg = ascii "reg\t"

-- "`pc`, `run`"
abbrev pub pc_opening : List ℕ
pc_opening = ascii "pc\t"

abbrev pub run_opening : List ℕ
run_opening = ascii "run\t"

-- "two digits for pad, reg and bytes, four else"
abbrev pub places : Part → ℕ
places grom = 4
places pad = 2
places vdp = 4
places reg = 2

-- "Its image is 32,768 zeros"; pad, VDP RAM and registers are those of the machine
abbrev pub size : Part → ℕ
size grom = 32768
size pad = 256
size vdp = 16384
size reg = 8

-- an address and the digits of its bytes: one byte or more, none past the part's end
unfoldable pub placed : Part → Option ℕ → List ℕ → Line
placed p None s = bad
placed p (Some at) s = cond (eqb (byte_count s) 0) bad (cond (leb (at + byte_count s) (size p)) (sets p at (bytes s)) bad)

-- the address, a tab, the bytes
unfoldable pub set_line : Part → List ℕ → Line
set_line p s = cond (eqb (get_or s (places p) 0) tab) (placed p (numeral 16 (take (places p) s)) (drop (suc (places p)) s)) bad

unfoldable pub jumping : Option ℕ → Line
jumping None = bad
jumping (Some n) = jumps n

-- a program address of 16 bits, in four digits
unfoldable pub pc_line : List ℕ → Line
pc_line s = cond (eqb (length s) 4) (jumping (up_to 65535 (numeral 16 s))) bad

unfoldable pub running : Option ℕ → Line
running None = bad
running (Some n) = runs n

-- a decimal of 32 bits
unfoldable pub run_line : List ℕ → Line
run_line s = running (up_to 4294967295 (numeral 10 s))

-- what is read after an opening, or else
abbrev pub led : List ℕ → List ℕ → (List ℕ → Line) → Line → Line
led word s f other = cond (begins word s) (f (drop (length word) s)) other

-- "`pc`, `run`": a line that gives no part bytes
unfoldable pub go_line : List ℕ → Line
go_line s = led pc_opening s pc_line (led run_opening s run_line bad)

-- a line, without its line feed
unfoldable pub line_of : List ℕ → Line
line_of s =
    led (opening grom) s (set_line grom) (led (opening pad) s (set_line pad)
    (led (opening vdp) s (set_line vdp) (led (opening reg) s (set_line reg) (go_line s))))
