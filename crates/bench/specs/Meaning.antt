-- What the public calls take and hand back, in the words of the rules.
use Rattle.std.specs.Prelude.{◌≡◌, true, List, [], Option, None, Some, ℕ, ◌+◌, ◌-◌, ◌%◌, ◌^◌, ◌≤◌, ◌<◌, eqb, leb, length, take, drop}
use Rattle.std.specs.Borrow.{MutBor}
use Rattle.rules.specs.Machine.{pick, State, state}
use Rattle.rules.specs.Answers.{Answer, saying}
use Rattle.rules.specs.Journal.{Store}
use Rattle.rules.specs.Rules.{Out, got, stopped}
use Rattle.rules.specs.Sound.{Source}
use Rattle.rules.specs.Calls as calls
use Rattle.rules.specs.Reads.{attempt_reads, marked, mapped_run, map_left}
use Rattle.ring.specs.declared.book.Book.{Book}
use Rattle.ring.specs.Meaning.{lent_by}
use Rattle.machine.specs.Meaning.{IsPad, IsVram, IsRegs, Lent, Parts, Rest, after', mem_of, mem_before, unmapped}
use Rattle.bench.specs.declared.at.At.{At}
use Rattle.bench.specs.declared.walk.Reply as walk
use Rattle.bench.specs.declared.runs.Report as runs
use Rattle.bench.specs.declared.ticks.Ticked as ticks
use Rattle.bench.specs.Numbers as numbers
use Rattle.bench.specs.Numbers.{Ticked, of_reply, of_report, of_ticked}
use Rattle.bench.specs.declared.viewer.Memory.{Memory}
use Rattle.bench.specs.declared.viewer.Memory.TheVariants.{Cpu, Vdp}

-- ---- where a machine stands

-- the journal's book, where no step is being made
abbrev pub book_at : At → Book
book_at at = record { used = at.used; older = at.used; place = at.place; ring = at.ring }

-- what a step that begins there counts of the journal's words: its own in a ring, all in a plain journal
abbrev pub count_at : At → ℕ
count_at at = pick at.ring 0 at.used

-- of a ring of n words where its first word goes
abbrev pub first_at : ℕ → At → Option ℕ
first_at n at = pick at.ring (Some ((at.place + at.used) % n)) None

-- the ring that it has beside a journal of n words
abbrev pub ring_at : ℕ → At → List ℕ
ring_at n at = lent_by n (book_at at)

-- where a machine rests
abbrev pub rests : ℕ → Book → ℕ → Source → At
rests pc b w f = record { pc = pc; used = b.used; ring = b.ring; place = b.place; writable = w; source = f }

-- beside image, pad, VDP RAM, registers and the caller's journal
abbrev pub state_at : List ℕ → List ℕ → List ℕ → List ℕ → List ℕ → At → State
state_at i p v g j at = state at.pc at.source (mem_of i at.writable p v g j (book_at at))

-- ---- what test 11 asks

-- of all but the image, part by part
pub record Fit (p v g j : MutBor (List ℕ)) (at : At) : Type 0 where
  pub pad : IsPad p.now
  pub vram : IsVram v.now
  pub regs : IsRegs g.now
  pub used : at.used ≤ length j.now

-- beside the journal stands its ring; no slice of words is as long as this
pub record Lends (r j : List ℕ) (at : At) : Type 0 where
  pub ring : r ≡ ring_at (length j) at
  pub long : length j < 2 ^ 61

-- of all
abbrev pub Fits : MutBor (List ℕ) → MutBor (List ℕ) → MutBor (List ℕ) → MutBor (List ℕ) → MutBor (List ℕ) → At → Type 0
Fits i p v g j at = calls.fits (state_at i.now p.now v.now g.now j.now at).mem ≡ true

-- ---- what a call hands back: the parts as it leaves them, and its result

pub record Returned (A : Type 0) : Type 0 where
  pub image : List ℕ
  pub pad : List ℕ
  pub vram : List ℕ
  pub regs : List ℕ
  pub journal : List ℕ
  pub result : A

abbrev pub returned : {A : Type 0} → List ℕ → List ℕ → List ℕ → List ℕ → List ℕ → A → Returned A
returned i p v g j r = record { image = i; pad = p; vram = v; regs = g; journal = j; result = r }

abbrev pub returned_by : {A : Type 0} → (q : Parts) → Rest q → A → Returned A
returned_by q rest r =
    returned (after' q.image rest.image) (after' q.pad rest.pad) (after' q.vram rest.vram) (after' q.regs rest.regs)
    (after' q.journal rest.journal) r

abbrev pub stands_at : {A : Type 0} → Returned A → At → State
stands_at x at = state_at x.image x.pad x.vram x.regs x.journal at

-- ---- a step or a step back: a reply of the rules, its address, and the number of byte stores

pub record Outcome : Type 0 where
  pub reply : calls.Reply
  pub address : ℕ
  pub stores : ℕ

abbrev pub outcome : calls.Reply → ℕ → Outcome
outcome r n = record { reply = r; address = (calls.answer r).address; stores = n }

-- an answer of 0 is a call that was done; any other is a refusal by that number, with its address
unfoldable pub replies : Answer → State → calls.Reply
replies a s = pick (eqb a.number 0) (calls.done s) (calls.refused a s)

-- the state in which the next call finds the machine
abbrev pub leaves : Returned numbers.Reply → State
leaves x = stands_at x x.result.at

abbrev pub told : Returned numbers.Reply → Outcome
told x =
    record {
      reply = replies (saying x.result.answer x.result.address) (leaves x);
      address = x.result.address;
      stores = x.result.stores;
    }

abbrev pub refusal : Answer → At → numbers.Reply
refusal a at = record { answer = a.number; address = a.address; stores = 0; at = at }

-- how an attempt is settled, with the number of its stores: "A refused step puts all back", and reports none
abbrev pub settled : State → Out Source → List Store → Outcome
settled s (got f pc m) ss = outcome (calls.settle s (got f pc m)) (length ss)
settled s (stopped a m) ss = outcome (calls.settle s (stopped a m)) 0

-- a step past test 11
abbrev pub settling : calls.Way → State → Outcome
settling w s = settled s (calls.attempt w s) (calls.step_stores w s)

-- a step
abbrev pub stepping : calls.Way → State → Outcome
stepping w s = outcome (calls.step w s) (calls.made w s (calls.step w s))

-- a step back past test 11
abbrev pub undoing : State → Outcome
undoing s = outcome (calls.fit_back s) 0

-- a step back
abbrev pub backing : State → Outcome
backing s = outcome (calls.step_back s) 0

-- ---- the bytes of the image that are read

-- they are marked in a map
abbrev pub marking : (State → List ℕ) → List ℕ → State → List ℕ
marking f z s = marked (f s) z

-- ---- a run: the rules' report

abbrev pub no_steps : Answer → At → numbers.Report
no_steps a at = record { answer = a.number; address = a.address; steps = 0; stores = 0; at = at }

abbrev pub reported : Returned numbers.Report → calls.Report
reported x = calls.report (saying x.result.answer x.result.address) x.result.steps x.result.stores (stands_at x x.result.at)

-- ---- a tick: as a step, and what it does to an output

pub record Heard : Type 0 where
  pub outcome : Outcome
  pub sent : ℕ
  pub output : List ℕ

abbrev pub replied : Returned Ticked → Returned numbers.Reply
replied x =
    returned x.image x.pad x.vram x.regs x.journal
    (record { answer = x.result.answer; address = x.result.address; stores = x.result.stores; at = x.result.at })

-- with the output as it is left
abbrev pub heard : List ℕ → Returned Ticked → Heard
heard o x = record { outcome = told (replied x); sent = x.result.sent; output = o }

abbrev pub heard_as : numbers.Reply → ℕ → Ticked
heard_as r n = record { answer = r.answer; address = r.address; stores = r.stores; at = r.at; sent = n }

-- past test 11, with the output as it was lent
abbrev pub fit_ticking : List ℕ → State → Heard
fit_ticking o s =
    let r : calls.Reply = calls.fit_step (calls.tick (length o)) s in
    record { outcome = settling (calls.tick (length o)) s; sent = calls.sent_by (length o) s r; output = calls.written r (calls.tick_sent (length o) s) o }

abbrev pub ticking : List ℕ → State → Heard
ticking o s =
    record {
      outcome = stepping (calls.tick (length o)) s;
      sent = calls.sent_by (length o) s (calls.step (calls.tick (length o)) s);
      output = calls.tick_output o s;
    }

-- ---- what a contract says

-- what a call returns, in the words of the rules, is what they say of a state
pub record Tells {A B : Type 0} (say : Returned A → B) (f : State → B) (s : State) (x : Returned A) : Type 0 where
  pub is : say x ≡ f s

-- the state that a function is lent, where q are the parts that it sees
abbrev pub lent_to : (q : Parts) → Rest q → At → State
lent_to q rest at = state at.pc at.source (mem_before q rest (book_at at))

-- at goes in, and a result or a machine comes out: whatever the rest of the machine is, that is so of what was lent and what is left
abbrev pub Returns : {A B : Type 0} → (Returned A → B) → (State → B) → (q : Parts) → At → A → Type 0
Returns say f q at r =
    (rest : Rest q) → Tells say f (lent_to q rest at) (returned_by q rest r)

abbrev pub Replies : (State → Outcome) → (Parts → Parts) → At → walk.Reply → Type 0
Replies f parts at r = Returns told f (parts unmapped) at (of_reply r)

abbrev pub Hears : (List ℕ → State → Heard) → (Parts → Parts) → Lent → At → ticks.Ticked → Type 0
Hears f parts o at r = Returns (heard o.exit.now) (f o.entry.now) (parts unmapped) at (of_ticked r)

abbrev pub Reports : (State → calls.Report) → (Parts → Parts) → At → runs.Report → Type 0
Reports f parts at r = Returns reported f (parts unmapped) at (of_report r)

-- the map that a call is lent becomes what f makes of it and of the state lent
abbrev pub Sees : (List ℕ → State → List ℕ) → (Parts → Parts) → Lent → At → Type 0
Sees f parts z at = (rest : Rest (parts unmapped)) → z.exit.now ≡ f z.entry.now (lent_to (parts unmapped) rest at)

-- as `Replies`, of a step past test 11, and the bytes that it reads are marked in a map
abbrev pub Attempts : (Parts → Parts) → Lent → At → walk.Reply → Type 0
Attempts parts z at r = Replies (settling calls.instruction) parts at r × Sees (marking attempt_reads) parts z at

-- as `Reports`, in the same way; and the call with a map
abbrev pub Charts : (State → calls.Report) → (State → List ℕ) → (Parts → Parts) → Lent → At → runs.Report → Type 0
Charts f g parts z at r = Reports f parts at r × Sees (marking g) parts z at

abbrev pub Maps : ℕ → (Parts → Parts) → Lent → At → runs.Report → Type 0
Maps n parts z at r = Reports (mapped_run n z.entry.now) parts at r × Sees (map_left n) parts z at

-- ---- the viewer

abbrev pub memory_of : Memory → calls.Memory
memory_of Cpu = calls.cpu_ram
memory_of Vdp = calls.vdp_ram

-- len bytes from an address on, of the first `reach`
unfoldable pub part : ℕ → List ℕ → ℕ → ℕ → List ℕ
part reach xs at len = pick (leb at reach) (pick (leb len (reach - at)) (take len (drop at xs)) []) []
