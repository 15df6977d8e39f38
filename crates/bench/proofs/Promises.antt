-- The demands, of the public calls. A hypothesis `Tells told stepping ..` is the contract of `step`, of a state lent and what it returned; so for the others.
use Rattle.std.proofs.Common.{◌≡◌, refl, ◌∙◌, ap, sym, subst, Bool, true, false, List, ℕ, arith}
use Rattle.rules.specs.Machine.{pick, area, State}
use Rattle.rules.specs.Answers.{saying, answer_for, wrong_length}
use Rattle.rules.specs.Calls.{Way, fits, Reply, done, refused, made, Report, report, run, Find, found, lost, scan, back_to, fit_back, step_back, Memory, view}
use Rattle.rules.specs.Demands.{BackCause, wrong_parts, no_record_there, Demand1, Demand2, Ends}
use Rattle.rules.proofs.Named.{Answered, named_run}
use Rattle.rules.proofs.Struck.{listed_not_9, answered_not_9, back_not_9}
use Rattle.rules.proofs.Replies as replies-of
use Rattle.rules.proofs.Run as run_of
use Rattle.ring.proofs.Turned.{turned_back}
use Rattle.bench.specs.declared.walk.Reply as walk
use Rattle.bench.specs.declared.runs.Report as runs
use Rattle.bench.specs.Numbers as numbers
use Rattle.bench.specs.Meaning.{Returned, returned, leaves, told, stepping, backing, reported, Tells}
use Rattle.bench.proofs.Refusals.{replies_in, reports_in, same_reply, same_report}
use Rattle.bench.proofs.Replies.{accepts, refuses, counts, at_of, returned_of, same_told}

-- ---- Each contract determines what it speaks of: two outcomes that it allows are equal, every lent byte and the result.

module _ {s : State} where
  pub step_determined : (w : Way) {x y : Returned walk.Reply} → Tells told (stepping w) s (replies_in x) → Tells told (stepping w) s (replies_in y) → x ≡ y
  step_determined w {x} {y} e k = same_reply x y (same_told (e.is ∙ sym k.is))

  pub step_back_determined : {x y : Returned walk.Reply} → Tells told backing s (replies_in x) → Tells told backing s (replies_in y) → x ≡ y
  step_back_determined {x} {y} e k = same_reply x y (same_told (e.is ∙ sym k.is))

  pub run_determined : (n : ℕ) {x y : Returned runs.Report} → Tells reported (run n) s (reports_in x) → Tells reported (run n) s (reports_in y) → x ≡ y
  run_determined n {x} {y} e k = same_report x y (sym (read_reported (reports_in x)) ∙ ap read (e.is ∙ sym k.is) ∙ read_reported (reports_in y))
    where
      read : Report → Returned numbers.Report
      read r =
          returned_of r.end.mem (record { answer = r.answer.number; address = r.answer.address; steps = r.steps; stores = r.stores; at = at_of r.end })

      read_reported : (x : Returned numbers.Report) → read (reported x) ≡ x
      read_reported x =
          ap (λ (j : List ℕ). returned x.image x.pad x.vram x.regs j x.result) (turned_back x.result.at.ring x.result.at.place x.journal)

pub view_determined : (w : Memory) (p v : List ℕ) (at len : ℕ) {x y : List ℕ} → x ≡ view w p v at len → y ≡ view w p v at len → x ≡ y
view_determined w p v at len e k = e ∙ sym k

-- ---- a step: an instruction or a tick

module _ (w : Way) {s : State} {x : Returned numbers.Reply} (e : Tells told (stepping w) s x) where
  -- Demand 1. A refused step: its answer is one of the listed refusals; pc, image, pad, VDP RAM and registers are as before it; the journal words that it
  -- had begun to use are 0, and so are those of the steps that it dropped; all others are as before. It reports no stores.
  pub demand1 : (x.result.answer ≡ 0 → ⊥) → Demand1 w s (saying x.result.answer x.result.address) (leaves x) × (x.result.stores ≡ 0)
  demand1 h = (replies-of.demand1 w s (saying x.result.answer x.result.address) (leaves x) (refuses e h), counts e ∙ ap (made w s) (refuses e h))

  -- Demand 2. An accepted step: pc and memories are those that the rules give, the count is the number of stores in the rules' list, and what is
  -- kept of the journal has grown by a word for the step and one for each store.
  pub demand2 : x.result.answer ≡ 0 → Demand2 w s (leaves x) x.result.stores
  demand2 z = rw (counts e ∙ ap (made w s) (accepts e z)) (replies-of.demand2 w s (leaves x) (accepts e z))

-- ---- a run

module _ (n : ℕ) {s : State} {x : Returned numbers.Report} (e : Tells reported (run n) s x) where
  -- Demand 1. A run answers 0 or with one of the listed refusals; where test 11 fails, it answers 11 and has touched nothing.
  pub run_listed : Answered (saying x.result.answer x.result.address)
  run_listed = subst (λ (r : Report). Answered r.answer) (sym e.is) (named_run n s)

  pub run_unfit : fits s.mem ≡ false → reported x ≡ report (answer_for wrong_length) 0 0 s
  run_unfit f = e.is ∙ run_of.run_unfit n s f

  -- Demands 1 and 2. Otherwise it has made n steps, all accepted, or k of them and the next was refused; its steps and stores are those of the accepted
  -- ones, and the state is where they lead, or what the refused one left.
  pub run_ends : fits s.mem ≡ true → Ends n s (reported x)
  run_ends f = subst (Ends n s) (sym e.is) (run_of.run_ends n s f)

-- ---- a step back

-- one that is refused has a cause, and leaves the state that it found
abbrev StaysAs : State → Reply → Type 0
StaysAs s (done t) = Unit {0}
StaysAs s (refused a t) = BackCause s a × (t ≡ s)

stays : (s : State) → StaysAs s (step_back s)
unfolding step_back fit_back
stays s = go (fits s.mem) refl (scan (area s.mem) s.mem.used s.mem.journal) refl
  where
    go : (c : Bool) → fits s.mem ≡ c → (f : Find) → scan (area s.mem) s.mem.used s.mem.journal ≡ f
        → StaysAs s (pick c (back_to f s) (refused (answer_for wrong_length) s))
    go true e (found n a) k = tt
    go true e lost k = (no_record_there e k, refl)
    go false e f k = (wrong_parts e, refl)

-- Demand 1. A refused step back: 11 where test 11 fails, 12 where no sound record is found, and it has touched nothing.
pub step_back_refused : {s : State} {x : Returned numbers.Reply} → Tells told backing s x → (x.result.answer ≡ 0 → ⊥)
    → BackCause s (saying x.result.answer x.result.address) × (leaves x ≡ s)
step_back_refused {s = s} e h = subst (StaysAs s) (refuses e h) (stays s)

-- ---- 02, item 8: no call answers 9

pub step_not_9 : (w : Way) {s : State} {x : Returned numbers.Reply} → Tells told (stepping w) s x → x.result.answer ≡ 9 → ⊥
step_not_9 w e h = listed_not_9 (demand1 w e (λ z. omega arith)).0.listed h

pub run_not_9 : (n : ℕ) {s : State} {x : Returned numbers.Report} → Tells reported (run n) s x → x.result.answer ≡ 9 → ⊥
run_not_9 n e h = answered_not_9 (run_listed n e) h

pub step_back_not_9 : {s : State} {x : Returned numbers.Reply} → Tells told backing s x → x.result.answer ≡ 9 → ⊥
step_back_not_9 e h = back_not_9 (step_back_refused e (λ z. omega arith)).0 h
