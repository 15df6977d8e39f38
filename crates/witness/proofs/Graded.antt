-- 02, item 13, of the calls: two runs, each known by its contract alone, from one state over two images of one length that agree at every address which the rules
-- read in the first of them.
use Rattle.std.proofs.Common.{◌≡◌, sym, subst, List, ℕ, length}
use Rattle.rules.specs.Machine.{State}
use Rattle.rules.specs.Calls.{Report, run}
use Rattle.rules.specs.Reads.{run_reads}
use Rattle.worn.specs.Worn.{AgreeAt, with_image, Graded}
use Rattle.worn.proofs.Corners.{worn_corners}
use Rattle.bench.specs.Numbers as numbers
use Rattle.bench.specs.Meaning.{Returned, reported, Tells}
use Rattle.export.specs.Meaning.{Numbers, heard}
use Rattle.witness.specs.Hosted.{as_report}
use Rattle.witness.proofs.Heard.{run_told}

module _ (n : ℕ) (s : State) (j : List ℕ) (l : length j ≡ length s.mem.image) (e : AgreeAt (run_reads n s) s.mem.image j) where
  abbrev Alike : Report → Report → Type 0
  Alike r q = Graded (run_reads n s) s.mem.image j r q

  -- `run`
  pub run_graded : {x y : Returned numbers.Report} → Tells reported (run n) s x → Tells reported (run n) (with_image j s) y → Alike (reported x) (reported y)
  run_graded {x} f g = subst (Alike (reported x)) (sym g.is) (subst (λ (r : Report). Alike r (run n (with_image j s))) (sym f.is) (worn_corners n s j l e))

  -- `argolythe_run`
  pub run_graded_heard : (ring w : ℕ) {x y : Returned Numbers} → Tells (heard ring w) (run n) s x → Tells (heard ring w) (run n) (with_image j s) y
      → Alike (reported (as_report ring w x)) (reported (as_report ring w y))
  run_graded_heard ring w f g = run_graded (run_told ring w n f) (run_told ring w n g)
