-- What the code's values say, in the words of the rules.
use Rattle.std.specs.Prelude.{◌≡◌, Bool, false, List, [], Option, None, Some, Result, Ok, Err, ℕ, ◌<◌, length, get_or, set}
use Rattle.std.specs.Borrow.{Bor, MutBor}
use denote.Triple.Both.{Both}
use Rattle.rules.specs.Machine.{pick, Kind, cpu, vdp, register, grom, upon, size, extent, writable, area_of, flagged, Mem, mem, put}
use Rattle.rules.specs.Rules.{Rule, Out, got, stopped, exec, room, spare}
use Rattle.rules.specs.Reads.{reads, marked}
use Rattle.rules.specs.Answers as answers
use Rattle.rules.specs.Answers.{Answer, answer_for}
use Rattle.rules.specs.Calls as calls
use Rattle.rules.specs.Journal as words
use Rattle.rules.specs.Journal.{turned, lay}
use Rattle.ring.specs.declared.book.Book.{Book}
use Rattle.ring.specs.Meaning.{seen, listed}
use Rattle.machine.specs.declared.state.Machine.{Machine}
use Rattle.machine.specs.declared.answers.Why.{Why}
use Rattle.machine.specs.declared.answers.Why.TheVariants.{Ended, NoSuch, NeedsHost, OffCpu, OffVdp, OffGrom, OffStack}
use Rattle.machine.specs.declared.answers.Why.TheVariants.{TooLong, NoRoom, WrongLength, NoRecord, OffRegister, TooCoarse, ReadOnly, OutputFull}
use Rattle.machine.specs.declared.journal.Mark.{Mark}
use Rattle.machine.specs.declared.notes.Note.{Note}
use Rattle.machine.specs.declared.notes.Note.TheVariants.{Stood, Mark as MarkOf}
use Rattle.machine.specs.declared.memory.Memory.{Memory}
use Rattle.machine.specs.declared.memory.Memory.TheVariants.{Cpu, Vdp, Register, Grom}

-- ---- the refusals

abbrev pub why_of : Why → answers.Why
why_of Ended = answers.ended
why_of NoSuch = answers.no_such
why_of NeedsHost = answers.needs_host
why_of (OffCpu a) = answers.off_cpu a
why_of (OffVdp a) = answers.off_vdp a
why_of (OffGrom a) = answers.off_grom a
why_of OffStack = answers.off_stack
why_of TooLong = answers.too_long
why_of NoRoom = answers.no_room
why_of WrongLength = answers.wrong_length
why_of NoRecord = answers.no_record
why_of OffRegister = answers.off_register
why_of TooCoarse = answers.too_coarse
why_of ReadOnly = answers.read_only
why_of OutputFull = answers.output_full

-- ---- the memories, as a machine of the rules

-- image, writable groups, pad, VDP RAM and registers, and the caller's journal with its book
abbrev pub mem_of : List ℕ → ℕ → List ℕ → List ℕ → List ℕ → List ℕ → Book → Mem
mem_of i w p v g j b = mem i w p v g (turned b.ring b.place j) b.used b.older b.place b.ring

-- the same with a journal as a step sees it
abbrev pub mem_seen : List ℕ → ℕ → List ℕ → List ℕ → List ℕ → Mem → Mem
mem_seen i w p v g s = mem i w p v g s.journal s.used s.older s.place s.ring

-- and with none but two numbers, which a plain journal has and nobody reads
abbrev pub unbooked : List ℕ → ℕ → List ℕ → List ℕ → List ℕ → List ℕ → ℕ → ℕ → Mem
unbooked i w p v g j o a = mem i w p v g j 0 o a false

-- ---- one memory, whichever it is

abbrev pub kind_of : Memory → Kind
kind_of Cpu = cpu
kind_of Vdp = vdp
kind_of Register = register
kind_of Grom = grom

-- how many of its cells a program may reach
abbrev pub extent_of : Memory → Machine → ℕ
extent_of k m = extent (area_of (length m.image.now) m.groups) (kind_of k)

-- whether it may store into one
abbrev pub may_store : Memory → ℕ → Machine → Bool
may_store k a m = writable (area_of (length m.image.now) m.groups) (kind_of k) a

-- the byte in one
abbrev pub byte_in : Memory → ℕ → Machine → ℕ
byte_in k a m = get_or (upon (kind_of k) m.pad.now m.vram.now m.regs.now m.image.now) a 0

-- an address of 16 bits, where it is the image's
abbrev pub IsNear : Memory → ℕ → Type 0
IsNear Cpu a = Unit {0}
IsNear Vdp a = Unit {0}
IsNear Register a = Unit {0}
IsNear Grom a = a < 65536

-- ---- the machine that a step is made on, as the rules have it

abbrev pub mem_in : Machine → Mem
mem_in m = mem_seen m.image.now m.groups m.pad.now m.vram.now m.regs.now (seen m.journal.now (listed m.first m.older) m.older m.place m.used)

-- its memories, and the map of the image's bytes that were read
pub record Held : Type 0 where
  pub mem : Mem
  pub map : List ℕ

-- and pc
pub record State : Type 0 where
  pub pc : ℕ
  pub rest : Held

unfoldable pub rest_of : Machine → Held
rest_of m = record { mem = mem_in m; map = m.map.now }

abbrev pub state : Machine → State
state m = record { pc = m.pc; rest = rest_of m }

-- ---- what a rule does to it

-- a rule is done, with its value, or refused
pub data End (A : Type 0) : Type 0 where
  done : A → State → End A
  failed : Answer → Held → End A

-- with a map as it then is
abbrev pub ending : {A : Type 0} → Out A → List ℕ → End A
ending (got v pc m) z = done v (record { pc = pc; rest = record { mem = m; map = z } })
ending (stopped n m) z = failed n (record { mem = m; map = z })

-- what a rule leaves of a state: what it reads is marked
unfoldable pub run : {A : Type 0} → Rule A → State → End A
run r s = ending (exec r s.pc s.rest.mem) (marked (reads r s.pc s.rest.mem) s.rest.map)

-- what the code has left
abbrev pub left : {A : Type 0} → Result A Why → State → End A
left (Ok v) s = done v s
left (Err why) s = failed (answer_for (why_of why)) s.rest

-- a result whose value the code has in other words
abbrev pub valued : {A B : Type 0} → (A → B) → Result A Why → Result B Why
valued f (Ok v) = Ok (f v)
valued f (Err why) = Err why

-- what stays: the slices are those that were lent, as long as they were, and so are the numbers that go along with them
pub record Kept : Type 0 where
  pub image : ℕ
  pub map : ℕ
  pub pad : ℕ
  pub vram : ℕ
  pub regs : ℕ
  pub journal : ℕ
  pub bytes : ℕ
  pub marks : ℕ
  pub words : ℕ
  pub first : Option ℕ
  pub older : ℕ
  pub place : ℕ
  pub groups : ℕ

unfoldable pub kept : Machine → Kept
kept m = record {
  image = m.image.ghost_name;
  map = m.map.ghost_name;
  pad = m.pad.ghost_name;
  vram = m.vram.ghost_name;
  regs = m.regs.ghost_name;
  journal = m.journal.ghost_name;
  bytes = length m.image.now;
  marks = length m.map.now;
  words = length m.journal.now;
  first = m.first;
  older = m.older;
  place = m.place;
  groups = m.groups;
}

-- from m the rule goes to n, with this result
abbrev pub Leads : {A : Type 0} → Rule A → Machine → Machine → Result A Why → Type 0
Leads r m n result = (run r (state m) ≡ left result (state n)) × (kept n ≡ kept m)

-- a machine that is lent: before the call and after it
abbrev pub LentMachine : Type 0
LentMachine = Both (MutBor Machine) (MutBor Machine)

abbrev pub Does : {A : Type 0} → Rule A → LentMachine → Result A Why → Type 0
Does r m result = Leads r m.entry.now m.exit.now result

-- no word of the journal is written: in a ring `mem_in` leaves open what a step has laid over and its end will drop, and a function that only reads keeps that too
abbrev pub Unwritten : LentMachine → Type 0
Unwritten m = m.exit.now.journal.now ≡ m.entry.now.journal.now

-- the same with other memories
abbrev pub with_mem : State → Mem → State
with_mem s m = record s { rest = record s.rest { mem = m } }

-- a word is laid, where room is left or made
unfoldable pub laid : ℕ → State → End (Unit {0})
laid w s =
    pick (room (spare s.rest.mem)) (done tt (with_mem s (lay w (spare s.rest.mem))))
    (failed (answer_for answers.no_room) (with_mem s (spare s.rest.mem)).rest)

abbrev pub LaysIn : ℕ → LentMachine → Result (Unit {0}) Why → Type 0
LaysIn w m result = (laid w (state m.entry.now) ≡ left result (state m.exit.now)) × (kept m.exit.now ≡ kept m.entry.now)

-- the mark of a step that began at an address, with its flag above it, is taken
unfoldable pub took : ℕ → State → End (Unit {0})
took a s = ending (calls.take_mark a s.pc s.rest.mem) s.rest.map

abbrev pub TakesMark : ℕ → LentMachine → Result (Unit {0}) Why → Type 0
TakesMark a m result = (took a (state m.entry.now) ≡ left result (state m.exit.now)) × (kept m.exit.now ≡ kept m.entry.now)

-- a byte is put into a cell
abbrev pub put_in : Memory → ℕ → ℕ → State → State
put_in k a b s = with_mem s (put (kind_of k) a b s.rest.mem)

abbrev pub PutsIn : Memory → ℕ → ℕ → LentMachine → Type 0
PutsIn k a b m = (state m.exit.now ≡ put_in k a b (state m.entry.now)) × (kept m.exit.now ≡ kept m.entry.now)

-- a cell is read: of the image, it is marked
abbrev pub mark_in : Memory → ℕ → State → State
mark_in k a s = record s { rest = record s.rest { map = upon (kind_of k) s.rest.map s.rest.map s.rest.map (set s.rest.map a 1) } }

abbrev pub MarksIn : Memory → ℕ → LentMachine → Type 0
MarksIn k a m = (state m.exit.now ≡ mark_in k a (state m.entry.now)) × (kept m.exit.now ≡ kept m.entry.now)

-- ---- what a contract over the lent slices says

-- a slice that is lent: before the call and after it
abbrev pub Lent : Type 0
Lent = Both (MutBor (List ℕ)) (MutBor (List ℕ))

-- a slice that is lent to be read alone
abbrev pub SeenLent : Type 0
SeenLent = Both (Bor (List ℕ)) (Bor (List ℕ))

-- a part of the machine, as a function has it: lent; or out of its sight, and so any list at all, which stays
pub data Part : Type 0 where
  unseen : Part
  lent : List ℕ → List ℕ → Part

-- the writable groups, as a function has them: named to it; or out of its sight, and so any
pub data Naming : Type 0 where
  unnamed : Naming
  named : ℕ → Naming

pub record Parts : Type 0 where
  pub image : Part
  pub map : Part
  pub groups : Naming
  pub pad : Part
  pub vram : Part
  pub regs : Part
  pub journal : Part

-- the parts that a function is lent, by what they were and what they are: for a loop, whose invariant has the lists themselves
abbrev pub image_from : List ℕ → List ℕ → Parts → Parts
image_from was is l = record { image = lent was is; map = l.map; groups = l.groups; pad = l.pad; vram = l.vram; regs = l.regs; journal = l.journal }

abbrev pub map_from : List ℕ → List ℕ → Parts → Parts
map_from was is l = record { image = l.image; map = lent was is; groups = l.groups; pad = l.pad; vram = l.vram; regs = l.regs; journal = l.journal }

abbrev pub pad_from : List ℕ → List ℕ → Parts → Parts
pad_from was is l = record { image = l.image; map = l.map; groups = l.groups; pad = lent was is; vram = l.vram; regs = l.regs; journal = l.journal }

abbrev pub vram_from : List ℕ → List ℕ → Parts → Parts
vram_from was is l = record { image = l.image; map = l.map; groups = l.groups; pad = l.pad; vram = lent was is; regs = l.regs; journal = l.journal }

abbrev pub regs_from : List ℕ → List ℕ → Parts → Parts
regs_from was is l = record { image = l.image; map = l.map; groups = l.groups; pad = l.pad; vram = l.vram; regs = lent was is; journal = l.journal }

abbrev pub journal_from : List ℕ → List ℕ → Parts → Parts
journal_from was is l = record { image = l.image; map = l.map; groups = l.groups; pad = l.pad; vram = l.vram; regs = l.regs; journal = lent was is }

-- and as a contract has them: `Pad pad & Journal journal`
abbrev pub Image : Lent → Parts → Parts
Image s l = image_from s.entry.now s.exit.now l

abbrev pub Pad : Lent → Parts → Parts
Pad s l = pad_from s.entry.now s.exit.now l

abbrev pub Vram : Lent → Parts → Parts
Vram s l = vram_from s.entry.now s.exit.now l

abbrev pub Regs : Lent → Parts → Parts
Regs s l = regs_from s.entry.now s.exit.now l

abbrev pub Journal : Lent → Parts → Parts
Journal s l = journal_from s.entry.now s.exit.now l

abbrev pub Groups : ℕ → Parts → Parts
Groups w l = record { image = l.image; map = l.map; groups = named w; pad = l.pad; vram = l.vram; regs = l.regs; journal = l.journal }

infixr 5 ◌&◌
abbrev pub ◌&◌ : (Parts → Parts) → (Parts → Parts) → Parts → Parts
◌&◌ f g l = f (g l)

abbrev pub unseen_all : Parts
unseen_all = record { image = unseen; map = unseen; groups = unnamed; pad = unseen; vram = unseen; regs = unseen; journal = unseen }

-- the same with no map: where nothing is said of it
abbrev pub unmapped : Parts
unmapped = map_from [] [] unseen_all

-- what a function does not see of a part: the list, where it is not lent
abbrev pub Unseen : Part → Type 0
Unseen unseen = List ℕ
Unseen (lent was is) = Unit {0}

abbrev pub before : (q : Part) → Unseen q → List ℕ
before unseen l = l
before (lent was is) _ = was

abbrev pub after' : (q : Part) → Unseen q → List ℕ
after' unseen l = l
after' (lent was is) _ = is

abbrev pub Unnamed : Naming → Type 0
Unnamed unnamed = ℕ
Unnamed (named w) = Unit {0}

abbrev pub groups_in : (q : Naming) → Unnamed q → ℕ
groups_in unnamed w = w
groups_in (named w) _ = w

-- the rest of the machine: every part that is not lent, and the groups where they are not named
pub record Rest (q : Parts) : Type 0 where
  pub image : Unseen q.image
  pub map : Unseen q.map
  pub groups : Unnamed q.groups
  pub pad : Unseen q.pad
  pub vram : Unseen q.vram
  pub regs : Unseen q.regs
  pub journal : Unseen q.journal

-- the memories before and after, by the journal's book
abbrev pub mem_before : (q : Parts) → Rest q → Book → Mem
mem_before q w b =
    mem_of (before q.image w.image) (groups_in q.groups w.groups) (before q.pad w.pad) (before q.vram w.vram)
    (before q.regs w.regs) (before q.journal w.journal) b

abbrev pub mem_after : (q : Parts) → Rest q → Book → Mem
mem_after q w b =
    mem_of (after' q.image w.image) (groups_in q.groups w.groups) (after' q.pad w.pad) (after' q.vram w.vram)
    (after' q.regs w.regs) (after' q.journal w.journal) b

-- the memories become what a function makes of them, and the journal's book b becomes c
abbrev pub Became : (Mem → Mem) → (Parts → Parts) → Book → Book → Type 0
Became g f b c = (rest : Rest (f unmapped)) → mem_after (f unmapped) rest c ≡ g (mem_before (f unmapped) rest b)

-- the lengths of what is lent
abbrev pub IsPad : List ℕ → Type 0
IsPad s = length s ≡ size cpu

abbrev pub IsVram : List ℕ → Type 0
IsVram s = length s ≡ size vdp

abbrev pub IsRegs : List ℕ → Type 0
IsRegs s = length s ≡ size register

-- a byte is put into a cell, if there is one
abbrev pub Puts : ℕ → ℕ → Lent → Type 0
Puts a b s = s.exit.now ≡ set s.entry.now a b

-- ---- what a journal word says

-- of a word of no kind nothing
abbrev pub noted : Option Note → words.Note
noted None = words.nothing
noted (Some (Stood k a b)) = words.stood (kind_of k) a b
noted (Some (MarkOf a)) = words.mark a

-- ---- the newest mark

-- none: there is no sound record
abbrev pub found : Option Mark → calls.Find
found None = calls.lost
found (Some r) = calls.found r.words (flagged r.pc r.source)

-- it is found among the used words of a journal, by an image of n bytes and its writable groups
abbrev pub Finds : ℕ → ℕ → SeenLent → Book → Option Mark → Type 0
Finds n w j b r = found r ≡ calls.scan (area_of n w) b.used (turned b.ring b.place j.entry.now)
