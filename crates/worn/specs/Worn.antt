-- 02, item 13, "Worn corners that don't matter": two images that agree where they are read, and what is so of two runs, one over each.
use Rattle.std.specs.Prelude.{◌≡◌, Bool, true, false, List, [], ◌∷◌, ℕ, eqb, length, get_or}
use Rattle.rules.specs.Machine.{pick, grom, mem, State, state}
use Rattle.rules.specs.Journal.{word}
use Rattle.rules.specs.Calls.{Report, report}

-- ---- "two images of one length that agree at every address the rules read during the run"

-- an address is one of these
abbrev pub among : ℕ → List ℕ → Bool
among a [] = false
among a (b ∷ l) = pick (eqb a b) true (among a l)

abbrev pub AgreeAt : List ℕ → List ℕ → List ℕ → Type 0
AgreeAt rs i j = (a : ℕ) → among a rs ≡ true → get_or i a 0 ≡ get_or j a 0

-- the same state over another image: "from given memories", with the same writable groups
abbrev pub with_image : List ℕ → State → State
with_image j s =
    state s.pc s.source (mem j s.mem.groups s.mem.pad s.mem.vram s.mem.regs s.mem.journal s.mem.used s.mem.older s.mem.place s.mem.ring)

-- ---- "give the same answer, counts, pc, memories and journal"; "unread bytes, and old bytes of them in the journal, may end different"

-- What stands at an address of the two images that began as i and j: one byte; or, where rs are the addresses read and it is none of them, in each its own of the start
pub data Bytes (rs i j : List ℕ) (a : ℕ) : ℕ → ℕ → Type 0 where
  one_byte : {b : ℕ} → Bytes rs i j a b b
  own_bytes : among a rs ≡ false → Bytes rs i j a (get_or i a 0) (get_or j a 0)

-- A word of the two journals: one word; or that of a store into one address of the image, with what stood there in each
pub data Words (rs i j : List ℕ) : ℕ → ℕ → Type 0 where
  one_word : {w : ℕ} → Words rs i j w w
  old_bytes : (a : ℕ) {b c : ℕ} → Bytes rs i j a b c → Words rs i j (word grom a b) (word grom a c)

-- Two states in which runs have ended that read rs, one over i, and one from the same state over j:
pub record Same (rs i j : List ℕ) (s t : State) : Type 0 where
  -- "pc", and beside it 02, item 10's source flag
  pub pc : t.pc ≡ s.pc
  pub source : t.source ≡ s.source
  -- "memories"
  pub pad : t.mem.pad ≡ s.mem.pad
  pub vram : t.mem.vram ≡ s.mem.vram
  pub regs : t.mem.regs ≡ s.mem.regs
  pub image : (a : ℕ) → Bytes rs i j a (get_or s.mem.image a 0) (get_or t.mem.image a 0)
  pub image_length : length t.mem.image ≡ length s.mem.image
  pub groups : t.mem.groups ≡ s.mem.groups
  -- "and journal", in both modes
  pub words : (n : ℕ) → Words rs i j (get_or s.mem.journal n 0) (get_or t.mem.journal n 0)
  pub journal_length : length t.mem.journal ≡ length s.mem.journal
  pub used : t.mem.used ≡ s.mem.used
  pub place : t.mem.place ≡ s.mem.place
  pub mode : t.mem.ring ≡ s.mem.ring

-- and their reports
pub record Graded (rs i j : List ℕ) (r q : Report) : Type 0 where
  -- "the same answer", with 02, item 2's address
  pub answer : q.answer ≡ r.answer
  -- "counts"
  pub steps : q.steps ≡ r.steps
  pub stores : q.stores ≡ r.stores
  pub end : Same rs i j r.end q.end

-- the same report, but for the image
abbrev pub report_over : List ℕ → Report → Report
report_over j r = report r.answer r.steps r.stores (with_image j r.end)
