-- The words in which the demands are stated: what is supposed of a state, and what a sequence of calls leaves. docs/DEMANDS.md has the three demands; they are quoted here.
use Rattle.std.specs.Prelude.{◌≡◌, Bool, true, false, List, [], ◌∷◌, ◌++◌, map, ℕ, zero, suc, ◌+◌, ◌-◌, ◌≤◌, ◌<◌, leb, length, get_or, drop, replicate}
use Rattle.rules.specs.Machine.{pick, Kind, Mem, area, State, address, cells, at_rest}
use Rattle.rules.specs.Answers.{Why, Answer, well, answer_for, wrong_length, no_record}
use Rattle.rules.specs.Journal.{mark_word, word_of, blank, used_words, oldest, place_on}
use Rattle.rules.specs.Rules.{Out, got, stopped}
use Rattle.rules.specs.Sound.{Source}
use Rattle.rules.specs.Calls.{Way, instruction, fits, Reply, done, refused, left, attempt, taken, step, step_stores, tick_sent, lost, scan, step_back, Report, report}

-- ---- what is supposed: no more than the types of a byte and of a 16-bit number give

-- every cell holds a byte, and the writable groups are named by one
abbrev pub Bytes : Mem → Type 0
Bytes m = ((k : Kind) (n : ℕ) → get_or (cells k m) n 0 < 256) × (m.groups < 256)

pub record Good (s : State) : Type 0 where
  pub address : s.pc < 65536
  pub bytes : Bytes s.mem

-- ---- how a call ends

abbrev pub Accepted : Reply → Type 0
Accepted (done s) = Unit {0}
Accepted (refused a s) = ⊥

abbrev pub Refused : Reply → Type 0
Refused (done s) = ⊥
Refused (refused a s) = Unit {0}

-- ---- demand 1

-- a refusal that the table of answers has
pub record Listed (a : Answer) : Type 0 where
  pub why : Why
  pub is : a ≡ answer_for why

-- why a step of s is refused with an answer: test 11 fails, or the rules' attempt stops so
pub data Cause (w : Way) (s : State) : Answer → Type 0 where
  unfit : fits s.mem ≡ false → Cause w s (answer_for wrong_length)
  stops : {a : Answer} {m : Mem} → fits s.mem ≡ true → attempt w s ≡ stopped a m → Cause w s a

-- the memories with which an attempt ends
abbrev pub end_of : Out Source → Mem
end_of (got v pc m) = m
end_of (stopped a m) = m

-- "the journal words that it had begun to use", and those of steps before it that it dropped: none where test 11 fails
abbrev pub begun_words : Way → State → ℕ
begun_words w s = pick (fits s.mem) (taken (end_of (attempt w s))) 0

abbrev pub dropped_words : Way → State → ℕ
dropped_words w s = pick (fits s.mem) (s.mem.used - (end_of (attempt w s)).older) 0

-- 02, item 5: "whole oldest steps .., as few as will do". Of the words ws, d are dropped, a step at a time, until there is room in a journal of c words for
-- the others and n more; "On request", else none is
pub data Drops (ring : Bool) (c n : ℕ) : List ℕ → ℕ → Type 0 where
  enough : {ws : List ℕ} → length ws + n ≤ c → Drops ring c n ws 0
  another : {ws : List ℕ} {d : ℕ} → ring ≡ true → c < length ws + n → Drops ring c n (drop (oldest ws) ws) d → Drops ring c n ws (oldest ws + d)

-- What is so of the state t that a step of s leaves which is refused with an answer:
pub record Demand1 (w : Way) (s : State) (a : Answer) (t : State) : Type 0 where
  -- "gives exactly the refusal that document 01 lists for that input"
  pub cause : Cause w s a
  pub listed : Listed a
  -- "A refused step returns program address, CPU RAM, VDP RAM and VDP registers to their values before it"; 02, item 9: "returns the image too"
  pub address : t.pc ≡ s.pc
  -- 02, item 10: "demands 1 to 3 count it as part of the address"
  pub source : t.source ≡ s.source
  pub memories : (k : Kind) → cells k t.mem ≡ cells k s.mem
  -- 02, item 5: "a refused step, 10 included, has still lost them": the words of whole oldest steps, as few as will do; or none
  pub drops : Drops s.mem.ring (length s.mem.journal) (begun_words w s) (used_words s.mem) (dropped_words w s)
  pub used : t.mem.used ≡ s.mem.used - dropped_words w s
  pub place : t.mem.place ≡ place_on (dropped_words w s) (length s.mem.journal) s.mem.place
  pub mode : t.mem.ring ≡ s.mem.ring
  -- "and zeroes only the journal words that it had begun to use"; 02, item 5: "demand 1 allows a refused step that zeroing too"
  pub words : t.mem.journal
      ≡ blank (begun_words w s) t.mem.used (drop (dropped_words w s) s.mem.journal ++ replicate (dropped_words w s) 0)

-- why a step back of s is refused with an answer: test 11 fails, or no sound record is found
pub data BackCause (s : State) : Answer → Type 0 where
  wrong_parts : fits s.mem ≡ false → BackCause s (answer_for wrong_length)
  no_record_there : fits s.mem ≡ true → scan (area s.mem) s.mem.used s.mem.journal ≡ lost → BackCause s (answer_for no_record)

-- ---- demand 2

-- the words of a step: its mark, and then one word for each store that it made
abbrev pub record_of : Way → State → List ℕ
record_of w s = mark_word (address s) ∷ map word_of (step_stores w s)

-- What is so of the state t that an accepted step of s leaves, and of the number n of its stores: those "that 01's rules give"
pub record Demand2 (w : Way) (s t : State) (n : ℕ) : Type 0 where
  pub fit : fits s.mem ≡ true
  pub end : Mem
  pub left : attempt w s ≡ got t.source t.pc end
  pub rests : t.mem ≡ at_rest end
  pub count : n ≡ length (step_stores w s)
  -- no invention: it has taken a word for its mark and one for each store, and what is kept of the journal has grown by these
  pub begun : begun_words w s ≡ suc n
  pub drops : Drops s.mem.ring (length s.mem.journal) (begun_words w s) (used_words s.mem) (dropped_words w s)
  pub used : t.mem.used ≡ s.mem.used - dropped_words w s + suc n
  pub words : used_words t.mem ≡ drop (dropped_words w s) (used_words s.mem) ++ record_of w s
  pub place : t.mem.place ≡ place_on (dropped_words w s) (length s.mem.journal) s.mem.place

-- ---- a sequence of calls

-- a step, by its way, or a step back. 02, item 10: "A tick is a step for demand 3"
pub data Op : Type 0 where
  forth : Way → Op
  aback : Op

abbrev pub reply : Op → State → Reply
reply (forth w) s = step w s
reply aback s = step_back s

-- the state that a sequence leaves
abbrev pub play : List Op → State → State
play [] s = s
play (o ∷ os) s = play os (left (reply o s))

-- ---- only steps: their ways, newest first

-- the state that these steps, and nothing else, lead to
abbrev pub forward : List Way → State → State
forward [] s = s
forward (w ∷ ws) s = left (step w (forward ws s))

-- each of them is accepted
abbrev pub AllAccepted : List Way → State → Type 0
AllAccepted [] s = Unit {0}
AllAccepted (w ∷ ws) s = AllAccepted ws s × Accepted (step w (forward ws s))

-- the records of the newest k, oldest first
abbrev pub records : ℕ → List Way → State → List ℕ
records zero ws s = []
records (suc k) [] s = []
records (suc k) (w ∷ ws) s = records k ws s ++ record_of w (forward ws s)

-- how many of the newest k have room in c words
abbrev pub fitting : ℕ → ℕ → List Way → State → ℕ
fitting c zero ws s = 0
fitting c (suc k) ws s = pick (leb (length (records (suc k) ws s)) c) (suc k) (fitting c k ws s)

-- how many stores they made: the lengths of the rules' store lists
abbrev pub total : List Way → State → ℕ
total [] s = 0
total (w ∷ ws) s = total ws s + length (step_stores w (forward ws s))

-- ---- the accepted steps not taken back

-- their ways, newest first, and how many of them, the newest, are kept
pub record Past : Type 0 where
  pub steps : List Way
  pub kept : ℕ

abbrev pub past : List Way → ℕ → Past
past ws k = record { steps = ws; kept = k }

-- beside the words that a step of s takes, accepted or refused, as many stay as have room
abbrev pub stay : State → Way → State → Past → ℕ
stay s₀ w s h = fitting (length s.mem.journal - begun_words w s) h.kept h.steps s₀

-- one more after an accepted step, one less after an accepted step-back
abbrev pub tally : State → Op → State → Reply → Past → Past
tally s₀ (forth w) s (done t) h = past (w ∷ h.steps) (suc (stay s₀ w s h))
tally s₀ (forth w) s (refused a t) h = past h.steps (stay s₀ w s h)
tally s₀ aback s (done t) h = past (drop 1 h.steps) (h.kept - 1)
tally s₀ aback s (refused a t) h = h

abbrev pub history : State → List Op → State → Past → Past
history s₀ [] s h = h
history s₀ (o ∷ os) s h = history s₀ os (left (reply o s)) (tally s₀ o s (reply o s) h)

-- ---- a run

-- so many instructions, and no tick
abbrev pub instructions : ℕ → List Way
instructions n = replicate n instruction

-- how a run of at most n steps ends: all n are made, or k are and the next is refused
pub data Ends (n : ℕ) (s : State) : Report → Type 0 where
  full : AllAccepted (instructions n) s → Ends n s (report well n (total (instructions n) s) (forward (instructions n) s))
  cut : {k : ℕ} {a : Answer} {t : State} → k < n → AllAccepted (instructions k) s → step instruction (forward (instructions k) s) ≡ refused a t
      → Ends n s (report a k (total (instructions k) s) t)

-- ---- demand 3

-- What is so after any sequence of calls from s₀ that has come to the state s, with the steps of h accepted and not taken back, and the newest of them kept:
pub record Demand3 (s₀ : State) (h : Past) (s : State) : Type 0 where
  pub accepted : AllAccepted h.steps s₀
  -- "the address and the memories are those reached by only the accepted steps not taken back"; 02, item 9: "the image among the memories"
  pub address : s.pc ≡ (forward h.steps s₀).pc
  pub source : s.source ≡ (forward h.steps s₀).source
  pub memories : (k : Kind) → cells k s.mem ≡ cells k (forward h.steps s₀).mem
  -- 02, item 10: "what a tick sends is determined by the state before it": it is what it would be after only those steps
  pub sends : (n : ℕ) → tick_sent n s ≡ tick_sent n (forward h.steps s₀)
  -- 02, item 9: "one set of writable groups"
  pub groups : s.mem.groups ≡ s₀.mem.groups
  -- the mode is the caller's: "On request"
  pub mode : s.mem.ring ≡ s₀.mem.ring
  -- "The journal then uses one word for each such step and one for each store that it made": of those that are kept these words, and no others
  pub used : s.mem.used ≡ length (records h.kept h.steps s₀)
  pub words : used_words s.mem ≡ records h.kept h.steps s₀
  -- 02, item 5: "Demand 3 then speaks of steps still kept"; where steps are not dropped, each is
  pub within : h.kept ≤ length h.steps
  pub all : s₀.mem.ring ≡ false → h.kept ≡ length h.steps
  -- "A step-back is refused only when no such step is left.": "stepping back past the oldest answers 12"
  pub none_left : h.kept ≡ 0 → fits s.mem ≡ true → step_back s ≡ refused (answer_for no_record) s
  pub some_left : 0 < h.kept → Accepted (step_back s)
