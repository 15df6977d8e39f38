-- No call alters what the caller chose, the writable groups and the mode: a step's stores leave them, and so does what takes words off. So what `bench` hands back is
-- what was lent.
use Rattle.std.proofs.Common.{◌≡◌, refl, ◌∙◌, ap, ap₂, Bool, true, false, List, ℕ, zero, suc, get_or, length}
use Rattle.rules.specs.Machine.{pick, area, Mem, State}
use Rattle.rules.specs.Answers.{answer_for, wrong_length}
use Rattle.rules.specs.Journal.{Store, Note, stood, mark, nothing, note, restore, undo_top, undo}
use Rattle.rules.specs.Rules.{Out, got, stopped}
use Rattle.rules.specs.Sound.{Source}
use Rattle.rules.specs.Calls.{Way, instruction, fits, Reply, done, refused, left, attempt, settle, fit_step, step, step_stores, Report, report, onto, steps, run}
use Rattle.rules.specs.Calls.{Find, found, lost, scan, back_to, fit_back, step_back}
use Rattle.rules.specs.Reads.{map_fits, mapped_run}
use Rattle.rules.proofs.Stores.{mem_of, groups_after, ring_after}
use Rattle.rules.proofs.Steps.{Tried, early, late, tried}
use Rattle.rules.proofs.Fits.{fits_used, step_cases}
use Rattle.bench.specs.Numbers as numbers
use Rattle.bench.specs.Meaning.{Returned, told, stepping, backing, reported, Tells}
use Rattle.bench.proofs.Replies.{leads}

abbrev pub chosen : Mem → ℕ × Bool
chosen m = (m.groups, m.ring)

abbrev chosen_of : Reply → ℕ × Bool
chosen_of r = chosen (left r).mem

-- ---- a step, and a run

attempted : {pc : ℕ} {m : Mem} {ss : List Store} {o : Out Source} → Tried pc m ss o → chosen (mem_of o) ≡ chosen m
attempted early = refl
attempted (late h) = ap₂ (λ (w : ℕ) (b : Bool). (w, b)) (groups_after h.makes) (ring_after h.makes)

settled : (s : State) (o : Out Source) → chosen (mem_of o) ≡ chosen s.mem → chosen_of (settle s o) ≡ chosen s.mem
settled s (got a pc m) e = e
settled s (stopped a m) e = ap (λ (c : ℕ × Bool). (s.mem.groups, c.1)) e

stepped : (w : Way) (s : State) → chosen_of (step w s) ≡ chosen s.mem
unfolding fit_step
stepped w s = step_cases w s (λ r. chosen_of r ≡ chosen s.mem) (λ f. settled s (attempt w s) (attempted (tried w s (fits_used s.mem f)))) (λ f. refl)

ran_on : (q : Reply) (n : ℕ) (r : Report) → chosen r.end.mem ≡ chosen_of q → chosen (onto q n r).end.mem ≡ chosen_of q
ran_on (done t) n r e = e
ran_on (refused a t) n r e = refl

ran_steps : (n : ℕ) (s : State) → chosen (steps n s).end.mem ≡ chosen s.mem
unfolding steps
ran_steps zero s = refl
ran_steps (suc n) s =
    ran_on (step instruction s) (length (step_stores instruction s)) (steps n (left (step instruction s))) (ran_steps n (left (step instruction s)))
    ∙ stepped instruction s

ran : (n : ℕ) (s : State) → chosen (run n s).end.mem ≡ chosen s.mem
unfolding run
ran n s = go (fits s.mem)
  where
    go : (b : Bool) → chosen (pick b (steps n s) (report (answer_for wrong_length) 0 0 s)).end.mem ≡ chosen s.mem
    go true = ran_steps n s
    go false = refl

pub of_run : (n : ℕ) {s : State} {x : Returned numbers.Report} → Tells reported (run n) s x → (x.result.at.writable, x.result.at.ring) ≡ chosen s.mem
of_run n {s} h = ap (λ (r : Report). chosen r.end.mem) h.is ∙ ran n s

-- with a map it is a run, or nothing at all
pub of_mapped : (n : ℕ) (z : List ℕ) {s : State} {x : Returned numbers.Report} → Tells reported (mapped_run n z) s x
    → (x.result.at.writable, x.result.at.ring) ≡ chosen s.mem
unfolding mapped_run
of_mapped n z {s} h = ap (λ (r : Report). chosen r.end.mem) h.is ∙ go (map_fits z s)
  where
    go : (b : Bool) → chosen (pick b (run n s) (report (answer_for wrong_length) 0 0 s)).end.mem ≡ chosen s.mem
    go true = ran n s
    go false = refl

pub of_step : (w : Way) {s : State} {x : Returned numbers.Reply} → Tells told (stepping w) s x → (x.result.at.writable, x.result.at.ring) ≡ chosen s.mem
of_step w {s} h = ap (λ (t : State). chosen t.mem) (leads h) ∙ stepped w s

-- ---- a step back

restored : (x : Note) (m : Mem) → chosen (restore x m) ≡ chosen m
restored (stood k a b) m = refl
restored (mark a) m = refl
restored nothing m = refl

undone_top : (u : ℕ) (m : Mem) → chosen (undo_top u m) ≡ chosen m
unfolding undo_top
undone_top zero m = refl
undone_top (suc u) m = restored (note (get_or m.journal u 0)) m

undone : (n : ℕ) (m : Mem) → chosen (undo n m) ≡ chosen m
unfolding undo
undone zero m = refl
undone (suc n) m = undone_top (undo n m).used (undo n m) ∙ undone n m

went_back : (f : Find) (s : State) → chosen_of (back_to f s) ≡ chosen s.mem
went_back (found n a) s = undone n s.mem
went_back lost s = refl

backed : (s : State) → chosen_of (step_back s) ≡ chosen s.mem
unfolding step_back fit_back
backed s = go (fits s.mem)
  where
    go : (b : Bool) → chosen_of (pick b (back_to (scan (area s.mem) s.mem.used s.mem.journal) s) (refused (answer_for wrong_length) s)) ≡ chosen s.mem
    go true = went_back (scan (area s.mem) s.mem.used s.mem.journal) s
    go false = refl

pub of_back : {s : State} {x : Returned numbers.Reply} → Tells told backing s x → (x.result.at.writable, x.result.at.ring) ≡ chosen s.mem
of_back {s} h = ap (λ (t : State). chosen t.mem) (leads h) ∙ backed s
