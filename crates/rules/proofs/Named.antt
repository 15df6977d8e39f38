-- Every refusal is one that the table of answers has, so that an answer of 0 is a call that was done: by induction on the rule, since a rule refuses only by a name.
use mathlib.Core.Path.{◌≡◌, refl, ap, subst}
use mathlib.Core.Bool.{Bool, true, false}
use mathlib.Core.Logic.{◌⊎◌, inl, inr}
use Prim.Native.Nat.{ℕ}
use native.Mathlib.Omega.{arith}
use lib.Dec.{ltb}
use lib.ListN.{length}
use Rattle.rules.specs.Machine.{pick, extent, writable, area, State}
use Rattle.rules.specs.Answers.{Why, Answer, well, answer_for, off_grom, no_room, read_only, wrong_length, no_record, outside}
use Rattle.rules.specs.Rules.{Act, next, ask, jump, load, store, send, Rule, Out, got, stopped, room, spare, perform, exec}
use Rattle.rules.specs.Sound.{Source}
use Rattle.rules.specs.Calls.{Way, instruction, fits, Reply, done, refused, answer, take_mark, attempt, settle, fit_step, step, Report, report, steps, run}
use Rattle.rules.specs.Calls.{Find, found, lost, scan, back_to, fit_back, step_back}
use Rattle.rules.specs.Demands.{Listed, Accepted, forward, instructions, Ends, full, cut}
use Rattle.rules.proofs.Opcodes.{never_done}
use Rattle.rules.proofs.Kept.{Point, Held, by_test, Holds, exec_holds, attempt_holds}
use Rattle.rules.proofs.Fits.{step_cases}
use Rattle.rules.proofs.Run.{steps_end}

-- ---- of a rule, and of an attempt

abbrev pub Any : Point → Type 0
Any s = Unit {0}

pub by_name : (why : Why) → Listed (answer_for why)
by_name why = record { why = why; is = refl }

named_act : (q : Act) (s : Point) → Any s → Held Any Listed (perform q s.pc s.mem)
unfolding perform
named_act next s h = by_test Any Listed (ltb s.pc (length s.mem.image)) _ _ tt (by_name (off_grom s.pc))
named_act ask s h = tt
named_act (jump a) s h = tt
named_act (load k a) s h = by_test Any Listed (ltb a (extent (area s.mem) k)) _ _ tt (by_name (outside k a))
named_act (store k a b) s h =
    by_test Any Listed (ltb a (extent (area s.mem) k)) _ _
    (by_test Any Listed (writable (area s.mem) k a) _ _ (by_test Any Listed (room (spare s.mem)) _ _ tt (by_name no_room)) (by_name read_only))
    (by_name (outside k a))
named_act (send b) s h = tt

named_mark : (a : ℕ) (s : Point) → Any s → Held Any Listed (take_mark a s.pc s.mem)
unfolding take_mark
named_mark a s h = by_test Any Listed (room (spare s.mem)) _ _ tt (by_name no_room)

named : Holds Any Listed
named = record { acts = named_act; marks = named_mark; refuses = by_name }

pub named_exec : {A : Type 0} (r : Rule A) (s : Point) → Held Any Listed (exec r s.pc s.mem)
named_exec r s = exec_holds named r s tt

-- ---- of a call

abbrev pub NamedReply : Reply → Type 0
NamedReply (done s) = Unit {0}
NamedReply (refused n s) = Listed n

named_settle : (s : State) (o : Out Source) → Held Any Listed o → NamedReply (settle s o)
named_settle s (got a pc m) h = tt
named_settle s (stopped n m) h = h

pub named_step : (w : Way) (s : State) → NamedReply (step w s)
unfolding fit_step
named_step w s = step_cases w s NamedReply (λ f. named_settle s (attempt w s) (attempt_holds named w s tt)) (λ f. by_name wrong_length)

named_find : (f : Find) (s : State) → NamedReply (back_to f s)
named_find (found n a) s = tt
named_find lost s = by_name no_record

pub named_back : (s : State) → NamedReply (step_back s)
unfolding step_back fit_back
named_back s = go (fits s.mem)
  where
    go : (c : Bool) → NamedReply (pick c (fit_back s) (refused (answer_for wrong_length) s))
    go true = named_find (scan (area s.mem) s.mem.used s.mem.journal) s
    go false = by_name wrong_length

-- an answer of 0 is a call that was done
pub told : (r : Reply) → NamedReply r → (answer r).number ≡ 0 → Accepted r
told (done s) h e = tt
told (refused a s) h e = absurd (omega (arith, never_done h.why, ap (λ (x : Answer). x.number) h.is))

-- a run answers 0, with no address, or with one of them
abbrev pub Answered : Answer → Type 0
Answered a = (a ≡ well) ⊎ Listed a

module _ (n : ℕ) (s : State) where
  named_end : (r : Report) → Ends n s r → Answered r.answer
  named_end r (full h) = inl refl
  named_end r (cut {k} l h e) = inr (subst NamedReply e (named_step instruction (forward (instructions k) s)))

  pub named_run : Answered (run n s).answer
  unfolding run
  named_run = go (fits s.mem)
    where
      go : (c : Bool) → Answered (pick c (steps n s) (report (answer_for wrong_length) 0 0 s)).answer
      go true = named_end (steps n s) (steps_end n s)
      go false = inr (by_name wrong_length)
