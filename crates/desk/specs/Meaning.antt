-- What the code's values say of the machine on the desk, and what its contracts say.
use Rattle.std.specs.Prelude.{◌≡◌, Bool, true, false, cond, List, [], ◌∷◌, ◌++◌, ℕ, suc, ◌+◌, ◌-◌, ◌≤◌, ◌<◌, length, take, drop, Option, Some, None, Result, Ok, Err, is_ok}
use Rattle.std.specs.Borrow.{MutBor}
use denote.Triple.Both.{Both}
use Rattle.machine.specs.Meaning.{Lent, SeenLent}
use Rattle.rules.specs.Machine.{State}
use Rattle.rules.specs.Calls as calls
use Rattle.bench.specs.Meaning.{state_at}
use Rattle.bench.specs.declared.at.At.{At}
use Rattle.bench.specs.declared.runs.Report.{Report}
use Rattle.bench.specs.Numbers.{answer_of, of_report}
use Rattle.lines.specs.Lines as lines
use Rattle.lines.specs.Shown.{run_lines, Front}
use Rattle.desk.specs.Bytes.{index_of}
use Rattle.desk.specs.Desk.{obeyed, printed, says, line_feed, cut, longest, told}
use Rattle.desk.specs.declared.input.Span.{Span}
use Rattle.desk.specs.declared.state.Cells.{Cells}
use Rattle.desk.specs.declared.state.Machine.{Machine}
use Rattle.desk.specs.declared.obey.BadLine.{BadLine}
use Rattle.desk.specs.declared.turns.Place.{Place}
use Rattle.desk.specs.declared.whole.Halt.{Halt}
use Rattle.desk.specs.declared.whole.Halt.TheVariants as halt

-- "all not set is 0": pc, the words of the journal that are used, the writable groups and the source flag; and the journal is no ring
abbrev pub outset : At
outset = record { pc = 0; used = 0; ring = false; place = 0; writable = 0; source = false }

-- a machine as the rules have it
abbrev pub state_of : Machine → State
state_of m = state_at m.image m.cells.pad m.cells.vram m.cells.regs m.journal m.at

-- one that is lent: before the call and after it
abbrev pub LentMachine : Type 0
LentMachine = Both (MutBor Machine) (MutBor Machine)

-- a run of up to n steps: its report is the rules', with the machine as it leaves it
pub record Runs (n : ℕ) (m m₁ : Machine) (r : Report) : Type 0 where
  pub is : calls.report (answer_of r.refusal) r.steps r.stores (state_of m₁) ≡ calls.run n (state_of m)
  pub at : m₁.at ≡ r.at

abbrev pub Ran : ℕ → LentMachine → Report → Type 0
Ran n m r = Runs n m.entry.now m.exit.now r

-- ---- a line obeyed

-- how many bytes are printed: of a line that says something, or of one that does not
abbrev pub printed_by : Result ℕ BadLine → ℕ
printed_by (Ok n) = n
printed_by (Err b) = b.count

-- what the k-th line leaves of a machine, what it prints at the front of a buffer, and whether it was taken
pub record Obeyed (k : ℕ) (l : lines.Line) (s s₁ : State) (buffer : List ℕ) (r : Result ℕ BadLine) : Type 0 where
  pub leaves : s₁ ≡ obeyed l s
  pub prints : Front (printed k l s) buffer (printed_by r)
  pub taken : is_ok r ≡ says l

-- as a contract has it, of a machine and a buffer that are lent
abbrev pub Obeys : ℕ → lines.Line → LentMachine → Lent → Result ℕ BadLine → Type 0
Obeys k l m out r = Obeyed k l (state_of m.entry.now) (state_of m.exit.now) out.exit.now r

-- ---- what a run prints

-- its report, with pad, VDP RAM and registers before it and after it
abbrev pub report_text : Report → Cells → Cells → List ℕ
report_text r was is =
    run_lines (of_report r).answer r.steps r.stores (of_report r).address r.at.pc was.pad is.pad was.vram is.vram was.regs is.regs

-- ---- an input, of which a text has been read

-- what may follow a text: nothing, where the input has ended with it
abbrev pub Follows : Bool → List ℕ → Type 0
Follows true rest = rest ≡ []
Follows false rest = Unit {0}

-- no line of a text is whole: it is a part of one that may say something yet, or nothing
pub record Waits (ended : Bool) (text : List ℕ) : Type 0 where
  pub unfed : index_of line_feed text ≡ length text
  pub short : length text ≤ longest
  pub none : ended ≡ true → text ≡ []

-- a line of a text from a place on: whatever follows the text, what is told is what is told of that line and of what stands past it
pub record Heads (ended : Bool) (text : List ℕ) (at end next : ℕ) : Type 0 where
  pub ends : at ≤ end
  pub within : end ≤ length text
  pub moves : at < next
  pub reaches : next ≤ length text
  pub same : (k : ℕ) (s : State) (rest : List ℕ) → Follows ended rest
      → told k (cut (drop at text ++ rest)) s ≡ told k (take (end - at) (drop at text) ∷ cut (drop next text ++ rest)) s

abbrev pub Finds : Bool → List ℕ → ℕ → Option Span → Type 0
Finds ended text at (Some l) = Heads ended text at l.end l.next
Finds ended text at None = Waits ended (drop at text)

-- the first bytes of a buffer are a text and perhaps more
pub record Grows (text buffer : List ℕ) (count : ℕ) : Type 0 where
  pub keeps : take (length text) buffer ≡ text
  pub more : length text ≤ count
  pub fits : count ≤ length buffer

-- ---- an input obeyed

-- so many lines were obeyed, of what was read a text is left, and the machine is in a state
pub record Point : Type 0 where
  pub lines : ℕ
  pub left : List ℕ
  pub state : State

abbrev pub point : ℕ → List ℕ → State → Point
point k u s = record { lines = k; left = u; state = s }

-- what is printed from there on, where `rest` is still to be read
abbrev pub to_come : Point → List ℕ → List ℕ
to_come p rest = told (suc p.lines) (cut (p.left ++ rest)) p.state

-- from one point to another a text is printed: whatever follows, it is that text and what is to come; nothing more after a line that says nothing
pub record Tells (ended : Bool) (p : Point) (text : List ℕ) (good : Bool) (q : Point) : Type 0 where
  pub is : (rest : List ℕ) → Follows ended rest → to_come p rest ≡ text ++ cond good (to_come q rest) []

-- before the first line
abbrev pub foremost : Place
foremost = record { from = 0; number = 0 }

-- a place in a text that lies after another: no more lines than bytes are between them, and none where no line is
pub record Onward (text : List ℕ) (p q : Place) : Type 0 where
  pub within : q.from ≤ length text
  pub lines : p.number ≤ q.number
  pub bytes : q.number + p.from ≤ p.number + q.from
  pub still : q.number ≡ p.number → q.from ≡ p.from

-- it lies within the text, and the text's lines can be numbered by 64 bits
abbrev pub Numbered : List ℕ → Place → Type 0
Numbered text p = (p.from ≤ length text) × (p.number + length text ≤ p.from + 18446744073709551615)

-- the next text that is printed is at the front of a buffer; where none is, no line is whole
pub record Turned (ended : Bool) (p q : Point) (buffer : List ℕ) (r : Result ℕ BadLine) : Type 0 where
  pub tells : Tells ended p (take (printed_by r) buffer) (is_ok r) q
  pub fits : printed_by r ≤ length buffer
  pub waits : printed_by r ≡ 0 → Waits ended q.left
  pub moves : (printed_by r ≡ 0 → ⊥) → p.lines < q.lines

-- some text was printed
pub record Said (ended : Bool) (p : Point) (good : Bool) (q : Point) : Type 0 where
  pub text : List ℕ
  pub tells : Tells ended p text good q

-- up to where no line is whole
pub record Spoken (ended : Bool) (p : Point) (good : Bool) (q : Point) : Type 0 where
  pub said : Said ended p good q
  pub waits : good ≡ true → Waits ended q.left

-- from a place in a text to another, where the machine goes from m to n
abbrev pub Between : (Point → Point → Type 0) → List ℕ → Place → Machine → Place → Machine → Type 0
Between R text p m q n =
    Onward text p q × R (point p.number (drop p.from text) (state_of m)) (point q.number (drop q.from text) (state_of n))

-- a place that is lent
abbrev pub LentPlace : Type 0
LentPlace = Both (MutBor Place) (MutBor Place)

-- as a contract has it, of a place and a machine that are lent
abbrev pub Passes : (Point → Point → Type 0) → SeenLent → LentPlace → LentMachine → Type 0
Passes R text p m = Between R text.entry.now p.entry.now m.entry.now p.exit.now m.exit.now

abbrev pub Turns : Bool → SeenLent → LentPlace → LentMachine → Lent → Result ℕ BadLine → Type 0
Turns ended text p m out r = Passes (λ x y. Turned ended x y out.exit.now r) text p m

abbrev pub Speaks : Bool → SeenLent → LentPlace → LentMachine → Bool → Type 0
Speaks ended text p m good = Passes (λ x y. Spoken ended x good y) text p m

-- where a text could not be written: what was told up to it leads to the place, and the machine stands as it does there
abbrev pub Breaks : Bool → SeenLent → LentPlace → LentMachine → Type 0
Breaks ended text p m = (good : Bool) × Passes (λ x y. Said ended x good y) text p m

-- where a text is not obeyed to its end: up to a line that says nothing, or up to a text that could not be written
abbrev pub Halts : Bool → SeenLent → LentPlace → LentMachine → Halt → Type 0
Halts ended text p m halt.BadLine = Speaks ended text p m false
Halts ended text p m (halt.Io _) = Breaks ended text p m
