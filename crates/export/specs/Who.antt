-- How a caller in C reads who wrote a cell: the answer and five numbers.
use Rattle.std.specs.Prelude.{◌≡◌, Bool, false, List, [], ◌∷◌, ℕ, ltb, eqb}
use Rattle.rules.specs.Machine.{pick, Kind, cpu, vdp, register, grom, Mem}
use Rattle.machine.specs.Meaning.{Lent, SeenLent}
use Rattle.bench.specs.declared.at.At.{At}
use Rattle.culprit.specs.Meaning.{seen}
use Rattle.culprit.specs.Culprit.{Wrote, refusal, none_kept, wrote, who_wrote}
use Rattle.export.specs.Meaning.{Numbers}

-- ---- the memory, by its kind's number: 0 CPU RAM, 1 VDP RAM, 2 the registers, 4 GROM. 3 is a mark's

unfoldable pub kind_in : ℕ → Kind
kind_in n = pick (eqb n 1) vdp (pick (eqb n 2) register (pick (eqb n 4) grom cpu))

unfoldable pub has_cells : ℕ → Bool
has_cells n = pick (eqb n 3) false (ltb n 5)

-- no other has a cell, so no step stored to one: it is refused where any cell is, and else none is kept
abbrev pub unfound : Wrote → Wrote
unfound (refusal a) = refusal a
unfound none_kept = none_kept
unfound (wrote n pc b c) = none_kept

unfoldable pub asked : ℕ → ℕ → Mem → Wrote
asked n a m = pick (has_cells n) (who_wrote (kind_in n) a m) (unfound (who_wrote (kind_in n) a m))

-- ---- the answer, and `out` with found, after, pc, before and left: all 0 unless found

abbrev pub numbers : ℕ → List ℕ → Numbers
numbers n l = record { answer = n; out = l }

abbrev pub numbers_of : Wrote → Numbers
numbers_of (refusal a) = numbers a.number (0 ∷ 0 ∷ 0 ∷ 0 ∷ 0 ∷ [])
numbers_of none_kept = numbers 0 (0 ∷ 0 ∷ 0 ∷ 0 ∷ 0 ∷ [])
numbers_of (wrote n pc b c) = numbers 0 (1 ∷ n ∷ pc ∷ b ∷ c ∷ [])

abbrev pub NumbersOf : Wrote → ℕ → Lent → Type 0
NumbersOf w answer out = numbers answer out.exit.now ≡ numbers_of w

-- they are what is said of the parts lent
abbrev pub SaysWho : ℕ → ℕ → SeenLent → SeenLent → SeenLent → SeenLent → SeenLent → At → ℕ → Lent → Type 0
SaysWho memory cell i p v g j at answer out =
    NumbersOf (asked memory cell (seen i p v g j at).mem) answer out
