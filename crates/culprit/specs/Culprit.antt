-- 02, item 7, "Who wrote this cell?": what is answered, from the journal alone; and when such an answer is the true one.
use Rattle.std.specs.Prelude.{◌≡◌, Bool, true, false, List, [], ◌∷◌, ℕ, zero, suc, ◌%◌, ◌<◌, eqb, get_or}
use Rattle.rules.specs.Machine.{pick, ◌also◌, Kind, Area, Mem, area, State, cells}
use Rattle.rules.specs.Answers.{Answer, answer_for, wrong_length, no_record}
use Rattle.rules.specs.Journal.{kind_number, Store, Note, stood, mark, nothing, note, sound, marks, used_words}
use Rattle.rules.specs.Calls.{Way, fits, left, step, step_stores}
use Rattle.rules.specs.Demands.{forward, Past}

-- "Given a cell": by its kind and its address. Two names of one
unfoldable pub same_cell : Kind → ℕ → Kind → ℕ → Bool
same_cell k a l b = eqb (kind_number k) (kind_number l) also eqb a b

-- the byte that stands in it
abbrev pub byte_at : Kind → ℕ → Mem → ℕ
byte_at k a m = get_or (cells k m) a 0

-- ---- "name the newest kept step that stored to it, by how many kept steps came after, with its pc, the byte before"

pub data Writer : Type 0 where
  nobody : Writer
  writer : ℕ → ℕ → ℕ → Writer

-- one kept step more came after
abbrev pub later : Writer → Writer
later nobody = nobody
later (writer n pc b) = writer (suc n) pc b

-- the newest step, which began at pc, stored there over the byte b. Where it had stored there already, the byte before it is that of its first store
abbrev pub stamped : ℕ → ℕ → Writer → Writer
stamped pc b nobody = writer 0 pc b
stamped pc b (writer zero p c) = writer 0 p c
stamped pc b (writer (suc n) p c) = writer 0 pc b

-- of the words so far: where the newest step began, and who wrote the cell
pub record Trail : Type 0 where
  pub pc : ℕ
  pub by : Writer

abbrev pub trail : ℕ → Writer → Trail
trail pc w = record { pc = pc; by = w }

-- one word more, by what it says. "A store of an equal byte counts.": no byte is compared. A mark has the source flag above pc
abbrev pub told : Kind → ℕ → Note → Trail → Trail
told k a (stood l b c) t = trail t.pc (pick (same_cell k a l b) (stamped t.pc c t.by) t.by)
told k a (mark q) t = trail (q % 65536) (later t.by)
told k a nothing t = t

-- the kept words, oldest first
unfoldable pub follow : Kind → ℕ → List ℕ → Trail → Trail
follow k a [] t = t
follow k a (w ∷ ws) t = follow k a ws (told k a (note w) t)

abbrev pub writer_in : Kind → ℕ → List ℕ → Writer
writer_in k a ws = (follow k a ws (trail 0 nobody)).by

-- ---- "12 if any record below the used count is unsound by step-back's rule or a word has no mark below it": so not, if

-- each word is sound
unfoldable pub all_sound : Area → List ℕ → Bool
all_sound z [] = true
all_sound z (w ∷ ws) = sound z (note w) also all_sound z ws

-- and the oldest is a mark
unfoldable pub marked : List ℕ → Bool
marked [] = true
marked (w ∷ ws) = marks w

unfoldable pub whole : Area → List ℕ → Bool
whole z ws = all_sound z ws also marked ws

-- ---- the call

pub data Wrote : Type 0 where
  refusal : Answer → Wrote
  -- "Say "none kept" exactly when no kept step stored there."
  none_kept : Wrote
  -- how many kept steps came after, its pc, the byte before "and the byte left by that step"
  wrote : ℕ → ℕ → ℕ → ℕ → Wrote

-- the byte left is the one that stands there now: no later kept step stored there
abbrev pub named : ℕ → Writer → Wrote
named left nobody = none_kept
named left (writer n pc b) = wrote n pc b left

-- "12 .. before anything is named; an empty journal gives "none kept""
unfoldable pub answered : Area → Kind → ℕ → ℕ → List ℕ → Wrote
answered z k a left ws = pick (whole z ws) (named left (writer_in k a ws)) (refusal (answer_for no_record))

-- of a machine whose parts fit
abbrev pub fit_who : Kind → ℕ → Mem → Wrote
fit_who k a m = answered (area m) k a (byte_at k a m) (used_words m)

-- "Refusals: 11 as in 01, then 12". "The tool changes nothing.": nothing else comes out
unfoldable pub who_wrote : Kind → ℕ → Mem → Wrote
who_wrote k a m = pick (fits m) (fit_who k a m) (refusal (answer_for wrong_length))

-- ---- "The reason given must be the true one under demand 2's rules, for any journal that steps and step-backs can leave."

-- one of these stores is to the cell
abbrev pub stores_to : Kind → ℕ → List Store → Bool
stores_to k a [] = false
stores_to k a (s ∷ ss) = pick (same_cell k a s.kind s.at) true (stores_to k a ss)

-- one of these steps, newest first
pub data Among : List Way → Type 0 where
  newest : {w : Way} {ws : List Way} → Among (w ∷ ws)
  older : {w : Way} {ws : List Way} → Among ws → Among (w ∷ ws)

-- how many came after it
abbrev pub after : {ws : List Way} → Among ws → ℕ
after newest = 0
after (older x) = suc (after x)

-- its way: an instruction, or 02, item 10, a tick; and the state that the steps before it led to from s₀
abbrev pub way : {ws : List Way} → Among ws → Way
way (newest {w}) = w
way (older x) = way x

abbrev pub before : {ws : List Way} → Among ws → State → State
before (newest {ws = ws}) s₀ = forward ws s₀
before (older x) s₀ = before x s₀

-- the state that it left
abbrev pub left_by : {ws : List Way} → Among ws → State → State
left_by x s₀ = left (step (way x) (before x s₀))

-- it stored there
abbrev pub step_to : Kind → ℕ → State → {ws : List Way} → Among ws → Bool
step_to k a s₀ x = stores_to k a (step_stores (way x) (before x s₀))

-- What is true of an answer about the machine m, which the steps of h have led to from s₀; those that are kept are the newest
pub data True (k : Kind) (a : ℕ) (s₀ : State) (h : Past) (m : Mem) : Wrote → Type 0 where
  unfit : fits m ≡ false → True k a s₀ h m (refusal (answer_for wrong_length))
  nobody_did : fits m ≡ true → ((x : Among h.steps) → after x < h.kept → step_to k a s₀ x ≡ false) → True k a s₀ h m none_kept
  that_did : fits m ≡ true → (x : Among h.steps) → after x < h.kept → step_to k a s₀ x ≡ true
      → ((y : Among h.steps) → after y < after x → step_to k a s₀ y ≡ false)
      → True k a s₀ h m (wrote (after x) (before x s₀).pc (byte_at k a (before x s₀).mem) (byte_at k a (left_by x s₀).mem))
