-- What is said of the machine while a step or a tick is made.
use Rattle.std.specs.Prelude.{◌≡◌, Bool, List, Result, ℕ, ◌≤◌, length}
use Rattle.rules.specs.Machine.{flagged, State}
use Rattle.rules.specs.Answers.{answer_for}
use Rattle.rules.specs.Rules.{next_byte, sends}
use Rattle.rules.specs.Opcodes.{class_of}
use Rattle.rules.specs.Sound.{Source, tick_rule}
use Rattle.rules.specs.Tasks.{Plan, halt, go, plan_of}
use Rattle.rules.specs.Calls as calls
use Rattle.rules.specs.Reads.{attempt_reads}
use Rattle.rules.specs.Demands.{Good}
use Rattle.ring.specs.Meaning.{listed}
use Rattle.machine.specs.declared.answers.Why.{Why}
use Rattle.machine.specs.declared.state.Machine.{Machine}
use Rattle.machine.specs.Meaning as machine
use Rattle.machine.specs.Meaning.{LentMachine, End, done, failed, ending, run, took, left, kept}
use Rattle.sound.specs.declared.list.Output.{Output}
use Rattle.sound.specs.Meaning.{LentOutput, room_left, written, writing, Stays}
use Rattle.bench.specs.declared.at.At.{At}
use Rattle.bench.specs.declared.walk.Reply.{Reply}
use Rattle.bench.specs.declared.ticks.Ticked.{Ticked}
use Rattle.bench.specs.Numbers.{of_reply, of_ticked}
use Rattle.bench.specs.Meaning.{count_at, state_at, Lends, Returned, returned, told, settling, marking, heard, fit_ticking, Tells}

-- ---- an instruction

-- one thing after another
unfoldable pub onto : {A B : Type 0} → End A → (A → machine.State → End B) → End B
onto (done v s) f = f v s
onto (failed n x) f = failed n x

-- a plan followed from where an address, with the flag above it, was: the mark, then the rule
unfoldable pub follow : ℕ → Plan → machine.State → End Source
follow a (halt why) s = failed (answer_for why) s.rest
follow a (go r) s = onto (took a s) (λ _. run r)

-- an instruction tried: the opcode, then what its class is to do
unfoldable pub trying : Source → machine.State → End Source
trying v s = onto (run next_byte s) (λ op. follow (flagged s.pc v) (plan_of v (class_of op)))

abbrev pub Tries : Source → LentMachine → Result Bool Why → Type 0
Tries v m result = (trying v (machine.state m.entry.now) ≡ left result (machine.state m.exit.now)) × (kept m.exit.now ≡ kept m.entry.now)

-- ---- where a machine stands, and what it hands back

-- the state that a machine stands for at `at`
abbrev pub state_in : Machine → At → State
state_in m at = state_at m.image.now m.pad.now m.vram.now m.regs.now m.journal.now at

-- what it hands back
abbrev pub handed : {A : Type 0} → Machine → A → Returned A
handed m r = returned m.image.now m.pad.now m.vram.now m.regs.now m.journal.now r

-- its journal and its numbers are those of a step that begins at `at`
pub record Booked (at : At) (m : Machine) : Type 0 where
  pub lends : Lends (listed m.first m.older) m.journal.now at
  pub before : at.used ≤ length m.journal.now
  pub older : m.older ≡ at.used
  pub place : m.place ≡ at.place
  pub groups : m.groups ≡ at.writable

-- and it is about to
pub record Stands (at : At) (m : Machine) : Type 0 where
  pub book : Booked at m
  pub good : Good (state_in m at)
  pub pc : m.pc ≡ at.pc
  pub used : m.used ≡ count_at at

-- an attempt, of an instruction or of a tick, has led from a state at `at` to it, with this result
pub record Begun (at : At) (m : Machine) (t : Result Bool Why) : Type 0 where
  pub book : Booked at m
  pub way : calls.Way
  pub from : State
  pub pc : from.pc ≡ at.pc
  pub source : from.source ≡ at.source
  pub good : Good from
  pub used : from.mem.used ≤ length from.mem.journal
  -- and a map of what it read
  pub map : List ℕ
  pub is : ending (calls.attempt way from) map ≡ left t (machine.state m)

-- whatever was attempted is done, or is put back; the map stays
abbrev pub Settles : LentMachine → At → Result Bool Why → Reply → Type 0
Settles m at t r =
    ((b : Begun at m.entry.now t) → Tells told (settling b.way) b.from (handed m.exit.now (of_reply r)))
    × (m.exit.now.map.now ≡ m.entry.now.map.now) × (kept m.exit.now ≡ kept m.entry.now)

-- a step of it past test 11
abbrev pub Steps : LentMachine → At → Reply → Type 0
Steps m at r =
    Tells told (settling calls.instruction) (state_in m.entry.now at) (handed m.exit.now (of_reply r))
    × (m.exit.now.map.now ≡ marking attempt_reads m.entry.now.map.now (state_in m.entry.now at)) × (kept m.exit.now ≡ kept m.entry.now)

-- ---- a tick

-- tried: the mark, then the tick's rule, of an output with so many bytes free; and what it sends
unfoldable pub trying_tick : ℕ → Source → machine.State → End Source
trying_tick n v s = follow (flagged s.pc v) (go (tick_rule n v)) s

unfoldable pub sends_from : ℕ → Source → machine.State → List ℕ
sends_from n v s = sends (calls.take_mark (flagged s.pc v) s.pc s.rest.mem) (tick_rule n v)

-- bytes put behind those of an output that are in use
abbrev pub Adds : List ℕ → Output → Output → Type 0
Adds bs o p = (written p ≡ writing bs (written o)) × Stays o p

abbrev pub TriesTick : Source → LentMachine → LentOutput → Result Bool Why → Type 0
TriesTick v m o result =
    (trying_tick (room_left o) v (machine.state m.entry.now) ≡ left result (machine.state m.exit.now)) × (kept m.exit.now ≡ kept m.entry.now)
    × Adds (sends_from (room_left o) v (machine.state m.entry.now)) o.entry.now o.exit.now

-- a tick past test 11, of an output of which no byte is in use
abbrev pub Ticks : LentMachine → LentOutput → At → Ticked → Type 0
Ticks m o at r =
    Tells (heard o.exit.now.bytes.now) (fit_ticking o.entry.now.bytes.now) (state_in m.entry.now at) (handed m.exit.now (of_ticked r))
    × (kept m.exit.now ≡ kept m.entry.now) × (o.exit.now.bytes.ghost_name ≡ o.entry.now.bytes.ghost_name)
