-- Item 7 by computation, over a machine of full size: runs and what is said after them, and words that are lent.
use Rattle.std.proofs.Common.{◌≡◌, refl, Bool, true, false, List, [], ◌∷◌, ℕ, replicate, set}
use Rattle.rules.specs.Machine.{cpu, vdp, register, grom, size, group, Mem, mem, State, state}
use Rattle.rules.specs.Answers.{answer_for, wrong_length, no_record}
use Rattle.rules.specs.Journal.{turned}
use Rattle.rules.specs.Calls.{tick, run, left, step_back}
use Rattle.rules.specs.Demands.{forward}
use Rattle.rules.specs.Cards.{Code, code, burnt}
use Rattle.rules.proofs.Compute.{every_rule}
use Rattle.culprit.specs.Culprit.{same_cell, follow, all_sound, marked, whole, answered, refusal, none_kept, wrote, who_wrote}

-- what each unfolds
unfoldable all : Unit {0}
unfolding every_rule same_cell follow all_sound marked whole answered who_wrote
all = tt

-- the code at 0, group 0 writable, cells 0 but >00 and the status, and an empty journal of n words, of which steps are dropped or not
abbrev start : Code → ℕ → ℕ → ℕ → Bool → State
start c b s n ring =
    state 0 false (mem (burnt (c ∷ []) (replicate group 0)) 1 (set (set (replicate (size cpu) 0) 0 b) 0x7C s) (replicate (size vdp) 0) (replicate (size register) 0)
    (replicate n 0) 0 0 0 ring)

-- CLR >00, INC >00, INC >01, BACK 5: 2, 3, 3 and 2 words
abbrev four : Code
four = code 8 0x8600900090010405 0

abbrev ran : ℕ → Bool → State
ran n ring = (run 4 (start four 9 0 n ring)).end

pub ten_words : (ran 20 false).mem.used ≡ 10
unfolding all
ten_words = refl

pub cell_00 : who_wrote cpu 0 (ran 20 false).mem ≡ wrote 2 2 0 1
unfolding all
cell_00 = refl

-- "A store of an equal byte counts.": item 6's parity bit is in both
pub equal_byte : who_wrote cpu 0x7C (ran 20 false).mem ≡ wrote 1 4 0xC4 0xC4
unfolding all
equal_byte = refl

pub register_7 : who_wrote register 7 (ran 20 false).mem ≡ wrote 0 6 0 5
unfolding all
register_7 = refl

pub never : who_wrote vdp 0 (ran 20 false).mem ≡ none_kept
unfolding all
never = refl

-- there is no such cell
pub no_cell : who_wrote cpu 0x1000 (ran 20 false).mem ≡ none_kept
unfolding all
no_cell = refl

-- two stores to one cell in one step
pub twice : who_wrote cpu 0x7C (run 1 (start (code 3 0xAE0001 0) 1 0x55 20 false)).end.mem ≡ wrote 0 0 0x55 0x08
unfolding all
twice = refl

-- a step taken back is no longer one
pub taken_back_lem : who_wrote register 7 (left (step_back (ran 20 false))).mem ≡ none_kept
unfolding all
taken_back_lem = refl

-- a ring that went round: in six words only the last two steps are kept
pub dropped : who_wrote cpu 0 (ran 6 true).mem ≡ none_kept
unfolding all
dropped = refl

pub five_words : (ran 6 true).mem.used ≡ 5
unfolding all
five_words = refl

pub round : who_wrote cpu 1 (ran 6 true).mem ≡ wrote 1 4 0 1
unfolding all
round = refl

-- ---- 02, item 10: "A tick is a step", and may be the one that is named

-- a list in VDP RAM is started whose address is the word at >7B, 3, and ticks go on from there: a size of 0 is a new address, 0
abbrev ticked : ℕ → State
ticked n = forward (replicate n (tick 0)) (run 1 (start (code 3 0xF67B01 0) 0 3 20 false)).end

pub the_start : who_wrote cpu 0xCD (ticked 0).mem ≡ wrote 0 0 0 3
unfolding all
the_start = refl

pub a_tick : who_wrote cpu 0xCD (ticked 1).mem ≡ wrote 0 3 3 0
unfolding all
a_tick = refl

-- ---- words that are lent

abbrev holding : Bool → ℕ → List ℕ → ℕ → Mem
holding ring place ws u =
    mem (replicate group 0) 1 (replicate (size cpu) 0) (replicate (size vdp) 0) (replicate (size register) 0) (turned ring place ws) u u place ring

abbrev lent : List ℕ → ℕ → Mem
lent ws u = holding false 0 ws u

pub empty : who_wrote cpu 0 (lent [] 0) ≡ none_kept
unfolding all
empty = refl

pub used_too_many : who_wrote cpu 0 (lent [] 1) ≡ refusal (answer_for wrong_length)
unfolding all
used_too_many = refl

-- 11 comes before 12
pub place_too_far : who_wrote cpu 0 (holding true 2 (0 ∷ 0 ∷ []) 1) ≡ refusal (answer_for wrong_length)
unfolding all
place_too_far = refl

-- a mark with a surplus bit, in a record that step-back would not come to
pub surplus : who_wrote cpu 0 (lent (0x60020000 ∷ 0x60000000 ∷ 7 ∷ []) 3) ≡ refusal (answer_for no_record)
unfolding all
surplus = refl

-- pad >E0
pub no_such_cell : who_wrote cpu 0 (lent (0x60000000 ∷ 0xE007 ∷ 0x60000000 ∷ 7 ∷ []) 4) ≡ refusal (answer_for no_record)
unfolding all
no_such_cell = refl

pub no_mark_below : who_wrote cpu 0 (lent (7 ∷ 0x60000000 ∷ 7 ∷ []) 3) ≡ refusal (answer_for no_record)
unfolding all
no_mark_below = refl

-- 02, item 10: a mark's pc is its low 16 bits; above them is the source flag
pub flag_above : who_wrote cpu 0 (lent (0x60010005 ∷ 7 ∷ []) 2) ≡ wrote 0 5 7 0
unfolding all
flag_above = refl

-- GROM: group 0 is writable, and there is no other
pub grom_cell_lem : who_wrote grom 0x1234 (lent (0x60000005 ∷ 0x80123407 ∷ []) 2) ≡ wrote 0 5 7 0
unfolding all
grom_cell_lem = refl

pub grom_beyond : who_wrote grom 0x1234 (lent (0x60000005 ∷ 0x80200007 ∷ []) 2) ≡ refusal (answer_for no_record)
unfolding all
grom_beyond = refl

-- what lies above the used words plays no part; and in the ring the oldest word is not the first
pub above_used : who_wrote cpu 0 (lent (0x60000005 ∷ 7 ∷ 0xFFFFFFFF ∷ []) 2) ≡ wrote 0 5 7 0
unfolding all
above_used = refl

pub from_the_place : who_wrote cpu 0 (holding true 2 (7 ∷ 0xFFFFFFFF ∷ 0x60000005 ∷ []) 2) ≡ wrote 0 5 7 0
unfolding all
from_the_place = refl
