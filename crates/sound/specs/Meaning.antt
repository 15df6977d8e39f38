-- What a tick does to the output that it is lent, and what the code's values say of it, in the words of the rules.
use Rattle.std.specs.Prelude.{◌≡◌, List, [], ◌∷◌, ℕ, suc, ◌+◌, ◌-◌, ◌≤◌, length, set, Result, Ok, Err}
use Rattle.std.specs.Borrow.{MutBor}
use denote.Triple.Both.{Both}
use Rattle.rules.specs.Answers.{Answer, answer_for}
use Rattle.rules.specs.Machine.{cpu, list_cell, count_cell}
use Rattle.rules.specs.Rules.{Rule, give, ◌>>◌, poke, sent}
use Rattle.rules.specs.Operands.{poke_word}
use Rattle.rules.specs.Sound.{Source, Due, due, closed}
use Rattle.machine.specs.declared.answers.Why.{Why}
use Rattle.machine.specs.declared.answers.Why.TheVariants.{OutputFull}
use Rattle.machine.specs.Meaning.{why_of, LentMachine, Held, State, state, kept, End, done, failed, run}
use Rattle.sound.specs.declared.list.Output.{Output}
use Rattle.sound.specs.declared.block.Due as code

-- ---- the output

-- its bytes, and how many of them are in use
pub record Written : Type 0 where
  pub bytes : List ℕ
  pub used : ℕ

abbrev pub written : Output → Written
written o = record { bytes = o.bytes.now; used = o.sent }

-- bytes laid into it one after the other, the first into cell k
unfoldable pub laid : ℕ → List ℕ → List ℕ → List ℕ
laid k [] o = o
laid k (b ∷ bs) o = laid (suc k) bs (set o k b)

-- behind those in use
unfoldable pub writing : List ℕ → Written → Written
writing bs o = record { bytes = laid o.used bs o.bytes; used = o.used + length bs }

-- ---- what a rule does to a machine and an output

-- a rule done, with its value, or refused
pub data Heard (A : Type 0) : Type 0 where
  played : A → State → Written → Heard A
  refused : Answer → Held → Written → Heard A

abbrev pub joining : {A : Type 0} → End A → Written → Heard A
joining (done v s) o = played v s o
joining (failed n x) o = refused n x o

unfoldable pub plays : {A : Type 0} → Rule A → State → Written → Heard A
plays r s o = joining (run r s) (writing (sent r s.pc s.rest.mem) o)

-- what the code left
abbrev pub hears : {A : Type 0} → Result A Why → State → Written → Heard A
hears (Ok v) s o = played v s o
hears (Err why) s o = refused (answer_for (why_of why)) s.rest o

-- ---- what a contract says

abbrev pub LentOutput : Type 0
LentOutput = Both (MutBor Output) (MutBor Output)

-- how many bytes more an output has
abbrev pub room_left : LentOutput → ℕ
room_left o = length o.entry.now.bytes.now - o.entry.now.sent

-- the slice is still the one that was lent, and no more of it is in use than it has
pub record Stays (o p : Output) : Type 0 where
  pub same : p.bytes.ghost_name ≡ o.bytes.ghost_name
  pub long : length p.bytes.now ≡ length o.bytes.now
  pub fits : o.sent ≤ length o.bytes.now → p.sent ≤ length p.bytes.now

-- the rule leads from the machine and the output as they were lent to both as they are left, and to this result
abbrev pub Plays : {A : Type 0} → Rule A → LentMachine → LentOutput → Result A Why → Type 0
Plays r m o res =
    (plays r (state m.entry.now) (written o.entry.now) ≡ hears res (state m.exit.now) (written o.exit.now))
    × (kept m.exit.now ≡ kept m.entry.now) × Stays o.entry.now o.exit.now

-- a byte is sent, where there is room
abbrev pub SendsByte : ℕ → Output → Output → Result (Unit {0}) Why → Type 0
SendsByte b o p (Ok _) = (o.sent + 1 ≤ length o.bytes.now) × (p.sent ≡ o.sent + 1) × (written p ≡ writing (b ∷ []) (written o)) × Stays o p
SendsByte b o p (Err e) = (length o.bytes.now ≤ o.sent) × (e ≡ OutputFull) × (p ≡ o)

abbrev pub Sends : ℕ → LentOutput → Result (Unit {0}) Why → Type 0
Sends b o res = SendsByte b o.entry.now o.exit.now res

-- what a block leaves
abbrev pub due_of : code.Due → Due
due_of d = due d.list d.count d.source

-- what follows a block: where the next one is and when it is due are stored, and pc is popped if it was pushed
unfoldable pub book : Source → Due → Rule Source
book v d = do
  poke_word cpu list_cell d.list
  poke cpu count_cell d.count
  closed v
  give d.source
