-- 01, "What a call says": step, run, step-back and viewer; and 02's tick.
use Rattle.std.specs.Prelude.{Bool, true, List, [], ◌++◌, ℕ, zero, suc, ◌+◌, ◌-◌, ◌*◌, ◌%◌, leb, ltb, eqb, length, get_or, take, drop, replicate}
use Rattle.rules.specs.Machine.{pick, ◌also◌, bit, Kind, cpu, vdp, register, size, reach, group, Area, Mem, area, State, state, address, beside, over, at_rest}
use Rattle.rules.specs.Answers.{Answer, well, answer_for, no_room, wrong_length, no_record}
use Rattle.rules.specs.Journal.{mark_word, lay, Store, Note, stood, mark, nothing, note, sound, undo, blanked}
use Rattle.rules.specs.Rules.{Out, got, stopped, then, after, room, spare, next, perform, stores, stores_then, sends}
use Rattle.rules.specs.Opcodes.{class_of}
use Rattle.rules.specs.Sound.{Source, tick_rule}
use Rattle.rules.specs.Tasks.{Plan, halt, go, plan_of}

-- ---- 11, "a lent part has a wrong length, or used exceeds the journal"

-- "1 to 8 groups of 8,192 bytes"
unfoldable pub image_fits : ℕ → Bool
image_fits n = eqb (n % group) 0 also leb group n also leb n (8 * group)

-- "256 bytes", "16,384 bytes", "8 bytes", "0 to 1,048,576 words"; by the lengths of pad, VDP RAM, registers and journal, and the used count
unfoldable pub parts_fit : ℕ → ℕ → ℕ → ℕ → ℕ → Bool
parts_fit p v r j u = eqb p (size cpu) also eqb v (size vdp) also eqb r (size register) also leb j 1048576 also leb u j

-- 02, item 5: the place of the oldest kept word, "11 if not 0 and past the journal". Where no step is dropped, it is not looked at.
unfoldable pub place_fits : Bool → ℕ → ℕ → Bool
place_fits ring a j = pick ring (pick (eqb a 0) true (ltb a j)) true

abbrev pub fits : Mem → Bool
fits m =
    image_fits (length m.image) also parts_fit (length m.pad) (length m.vram) (length m.regs) (length m.journal) m.used
    also place_fits m.ring m.place (length m.journal)

-- ---- a step

-- the two ways to step: the instruction at pc, or, 02, item 10, "Add a tick", with an output of so many bytes
pub data Way : Type 0 where
  instruction : Way
  tick : ℕ → Way

-- what a call leaves: done, or refused with an answer; and the address and memories with which it comes back
pub data Reply : Type 0 where
  done : State → Reply
  refused : Answer → State → Reply

abbrev pub answer : Reply → Answer
answer (done s) = well
answer (refused a s) = a

abbrev pub left : Reply → State
left (done s) = s
left (refused a s) = s

-- "kind 3 is a mark and carries the old pc": a is where the opcode stood, with the source flag, and pc₁ is past it
unfoldable pub take_mark : ℕ → ℕ → Mem → Out (Unit {0})
take_mark a pc₁ m = pick (room (spare m)) (got tt pc₁ (lay (mark_word a) (spare m))) (stopped (answer_for no_room) (spare m))

-- "A step takes a mark word first, for every opcode that 2, 3 and 1 don't stop."
unfoldable pub begin : ℕ → Plan → ℕ → Mem → Out Source
begin a (halt why) pc₁ m = stopped (answer_for why) m
begin a (go r) pc₁ m = after (take_mark a pc₁ m) r

-- a tick reads nothing at pc
unfoldable pub attempt : Way → State → Out Source
attempt instruction s = then (perform next s.pc (at_rest s.mem)) (λ op pc₁ m. begin (address s) (plan_of s.source (class_of op)) pc₁ m)
attempt (tick n) s = begin (address s) (go (tick_rule n s.source)) s.pc (at_rest s.mem)

-- how many words it has taken
abbrev pub taken : Mem → ℕ
taken m = m.used - m.older

-- "the journal words it had taken become 0"
abbrev pub emptied : Mem → Mem
emptied m = blanked (taken m) (beside m.journal m.older m)

-- "A refused step puts all back"; 02, item 5: those that it dropped it "has still lost"
abbrev pub settle : State → Out Source → Reply
settle s (got v pc₁ m) = done (state pc₁ v (at_rest m))
settle s (stopped a m) = refused a (state s.pc s.source (over (emptied m) s.mem))

-- a step of a machine whose parts fit
unfoldable pub fit_step : Way → State → Reply
fit_step w s = settle s (attempt w s)

-- "Answer 11 is tested first and touches nothing."
unfoldable pub step : Way → State → Reply
step w s = pick (fits s.mem) (fit_step w s) (refused (answer_for wrong_length) s)

-- ---- its stores: "the number of byte stores those steps made"

unfoldable pub begin_stores : ℕ → Plan → ℕ → Mem → List Store
begin_stores a (halt why) pc₁ m = []
begin_stores a (go r) pc₁ m = stores_then (take_mark a pc₁ m) (λ _ pc₂ m₂. stores r pc₂ m₂)

unfoldable pub step_stores : Way → State → List Store
step_stores instruction s = stores_then (perform next s.pc (at_rest s.mem)) (λ op pc₁ m. begin_stores (address s) (plan_of s.source (class_of op)) pc₁ m)
step_stores (tick n) s = begin_stores (address s) (go (tick_rule n s.source)) s.pc (at_rest s.mem)

-- those of a step that was done; a refused one has made none
abbrev pub made : Way → State → Reply → ℕ
made w s (done t) = length (step_stores w s)
made w s (refused a t) = 0

-- ---- what a tick does to the output

-- "what a tick sends is determined by the state before it": the bytes, in their order, by the time that it ends or is refused
unfoldable pub tick_sent : ℕ → State → List ℕ
tick_sent n s = sends (take_mark (address s) s.pc (at_rest s.mem)) (tick_rule n s.source)

-- they go to the output from its first byte on; "a refused tick zeroes what it wrote there"
abbrev pub written : Reply → List ℕ → List ℕ → List ℕ
written (done t) bs o = bs ++ drop (length bs) o
written (refused a t) bs o = replicate (length bs) 0 ++ drop (length bs) o

-- "Answer 11 is tested first and touches nothing."
unfoldable pub tick_output : List ℕ → State → List ℕ
tick_output o s = pick (fits s.mem) (written (fit_step (tick (length o)) s) (tick_sent (length o) s) o) o

-- how many bytes of it are then what was sent: none of a refused tick
abbrev pub sent_by : ℕ → State → Reply → ℕ
sent_by n s (done t) = length (tick_sent n s)
sent_by n s (refused a t) = 0

-- ---- a run

-- "reports answer, steps done, and the number of byte stores those steps made"
pub record Report : Type 0 where
  pub answer : Answer
  pub steps : ℕ
  pub stores : ℕ
  pub end : State

abbrev pub report : Answer → ℕ → ℕ → State → Report
report a k n s = record { answer = a; steps = k; stores = n; end = s }

-- after a step that made n stores goes a run; after one that was refused, none: "stops at the first answer other than 0"
abbrev pub onto : Reply → ℕ → Report → Report
onto (done t) n r = report r.answer (suc r.steps) (n + r.stores) r.end
onto (refused a t) n r = report a 0 0 t

-- "up to n .. steps"
unfoldable pub steps : ℕ → State → Report
steps zero s = report well 0 0 s
steps (suc n) s = onto (step instruction s) (length (step_stores instruction s)) (steps n (left (step instruction s)))

-- "n = 0 answers 0 after test 11."
unfoldable pub run : ℕ → State → Report
run n s = pick (fits s.mem) (steps n s) (report (answer_for wrong_length) 0 0 s)

-- ---- a step back

-- from the used words down: how many there are to the newest mark, and its address with the flag above it; or no sound record
pub data Find : Type 0 where
  found : ℕ → ℕ → Find
  lost : Find

-- one word more
abbrev pub further : Find → Find
further (found n a) = found (suc n) a
further lost = lost

-- by what a sound word says
abbrev pub passed : Note → Find → Find
passed (stood k a b) f = further f
passed (mark a) f = found 1 a
passed nothing f = lost

-- an unsound one ends the search
abbrev pub seen : Area → Note → Find → Find
seen z x f = pick (sound z x) (passed x f) lost

-- "no mark lies below the used count, or a word of that record names no cell": then nothing is found. "Setting used to 0 forgets."
unfoldable pub scan : Area → ℕ → List ℕ → Find
scan z zero j = lost
scan z (suc u) j = seen z (note (get_or j u 0)) (scan z u j)

-- "Step-back takes words from the top down to the newest mark, restores each, sets pc, zeroes them. It answers 12, touching nothing, exactly if .."
-- 02, item 10: "step-back sets it with pc"
abbrev pub back_to : Find → State → Reply
back_to (found n a) s = done (state (a % 65536) (bit 16 a) (at_rest (undo n s.mem)))
back_to lost s = refused (answer_for no_record) s

unfoldable pub fit_back : State → Reply
fit_back s = back_to (scan (area s.mem) s.mem.used s.mem.journal) s

-- 11 first
unfoldable pub step_back : State → Reply
step_back s = pick (fits s.mem) (fit_back s) (refused (answer_for wrong_length) s)

-- ---- the viewer

-- "given CPU or VDP"
pub data Memory : Type 0 where
  cpu_ram vdp_ram : Memory

abbrev pub kind_of : Memory → Kind
kind_of cpu_ram = cpu
kind_of vdp_ram = vdp

abbrev pub viewed : Memory → List ℕ → List ℕ → List ℕ
viewed cpu_ram p v = p
viewed vdp_ram p v = v

-- "address and length, shows the caller's own bytes there, as a part of the pad or of VDP RAM; it is empty unless all lie in the reachable range of memories of the right length"
unfoldable pub view : Memory → List ℕ → List ℕ → ℕ → ℕ → List ℕ
view which p v at len =
    pick (eqb (length p) (size cpu) also eqb (length v) (size vdp) also leb (at + len) (reach (kind_of which)))
    (take len (drop at (viewed which p v))) []
