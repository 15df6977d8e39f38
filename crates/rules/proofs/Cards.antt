-- The bench cards and the other facts, by computation over a machine of full size.
use mathlib.Core.Path.{◌≡◌, refl}
use mathlib.Core.Bool.{true}
use mathlib.Core.List.{[], ◌∷◌}
use Prim.Native.Nat.{ℕ}
use Rattle.rules.specs.Arithmetic.{parity}
use Rattle.rules.specs.Cards.{cards, facts, buffer_facts, address_facts, coinc_facts, every_passes}
use Rattle.rules.specs.Gram.{chip, moved, gram_facts, wrapped, holds, every_holds, taken_back, back_facts}
use Rattle.rules.specs.Rings as rings
use Rattle.rules.specs.Tunes as tunes
use Rattle.rules.specs.Reads.{act_reads, reads, begin_reads, attempt_reads, step_reads, run_reads}
use Rattle.rules.specs.Corners as corners
use Rattle.rules.specs.Corners.{old_byte}
use Rattle.rules.proofs.Compute.{every_rule}

pub cards_pass : every_passes cards ≡ true
unfolding every_rule
cards_pass = refl

pub facts_hold : every_passes facts ≡ true
unfolding every_rule
facts_hold = refl

-- 02, item 6: "For word adds .. >04 is always set", whatever the sum
pub always_set : (r : ℕ) → parity true r ≡ true
unfolding every_rule
always_set r = refl

pub buffer_holds : every_passes buffer_facts ≡ true
unfolding every_rule
buffer_holds = refl

pub addresses_hold : every_passes address_facts ≡ true
unfolding every_rule
addresses_hold = refl

pub coinc_holds : every_passes coinc_facts ≡ true
unfolding every_rule
coinc_holds = refl

-- 02, item 9
pub gram_holds : every_holds gram_facts ≡ true
unfolding every_rule
gram_holds = refl

pub wraps : holds wrapped ≡ true
unfolding every_rule
wraps = refl

pub gram_back : taken_back (moved 0x02 8 0 6 7 [] []) (chip 0x2000 0 ∷ chip 0x2001 0 ∷ []) ≡ true
unfolding every_rule
gram_back = refl

pub back_facts_lem : back_facts ≡ true
unfolding every_rule
back_facts_lem = refl

pub rings_hold : rings.every_passes rings.ring_facts ≡ true
unfolding every_rule rings.passes rings.every_passes
rings_hold = refl

-- 02, item 10
pub starts_hold : tunes.every_plays tunes.start_facts ≡ true
unfolding every_rule tunes.plays tunes.every_plays
starts_hold = refl

pub ticks_hold : tunes.every_plays tunes.tick_facts ≡ true
unfolding every_rule tunes.plays tunes.every_plays
ticks_hold = refl

pub goes_round : tunes.plays tunes.round_fact ≡ true
unfolding every_rule tunes.plays
goes_round = refl

pub flag_back : tunes.back_facts ≡ true
unfolding every_rule tunes.back_says
flag_back = refl

-- 02, item 13
pub reads_hold : corners.every_passes corners.cases ≡ true
unfolding every_rule act_reads reads begin_reads attempt_reads step_reads run_reads corners.passes corners.every_passes
reads_hold = refl

-- an unread byte in the journal: in each its own, so `own_bytes` can't be left out
pub old_one : old_byte 0x11 ≡ 0x80010111
unfolding every_rule
old_one = refl

pub old_other : old_byte 0x22 ≡ 0x80010122
unfolding every_rule
old_other = refl
