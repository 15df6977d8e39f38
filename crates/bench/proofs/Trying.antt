-- An instruction tried, action by action.
use Rattle.std.proofs.Common.{◌≡◌, refl, sym, ap, ◌∙◌, Bool, [], ℕ, Result, Ok, Err}
use Rattle.rules.specs.Machine.{flagged}
use Rattle.rules.specs.Answers as answers
use Rattle.rules.specs.Answers.{Answer, answer_for}
use Rattle.rules.specs.Rules.{give, ◌>>=◌, Out, sends}
use Rattle.rules.specs.Opcodes.{Task, stops, does, starts}
use Rattle.rules.specs.Sound.{Source, start_rule, tick_rule}
use Rattle.rules.specs.Tasks.{plan_of, rule_of}
use Rattle.machine.specs.Meaning.{Held, State, End, done, failed, run, took, left}
use Rattle.machine.proofs.Laws.{steps, out_of, took_out}
use Rattle.bench.specs.Making.{onto, follow, trying_tick, sends_from, Adds}
use Rattle.machine.specs.declared.answers.Why.{Why}
use Rattle.sound.specs.Meaning.{Written, written, joining, plays, hears, Stays}
use Rattle.sound.proofs.Laws.{writing_none}
use Rattle.sound.specs.declared.list.Output.{Output}

pub onto_done : {A B : Type 0} (v : A) (s : State) (f : A → State → End B) → onto (done v s) f ≡ f v s
unfolding onto
onto_done v s f = refl

pub onto_failed : {A B : Type 0} (n : Answer) (x : Held) (f : A → State → End B) → onto (failed n x) f ≡ failed n x
unfolding onto
onto_failed n x f = refl

pub follow_stops : (a : ℕ) (v : Source) (why : answers.Why) (s : State) → follow a (plan_of v (stops why)) s ≡ failed (answer_for why) s.rest
unfolding follow plan_of
follow_stops a v why s = refl

pub follow_does : (a : ℕ) (v : Source) (t : Task) (s : State) → follow a (plan_of v (does t)) s ≡ onto (took a s) (λ _. run (rule_of t >>= (λ _. give v)))
unfolding follow plan_of
follow_does a v t s = refl

pub follow_starts : (a : ℕ) (v : Source) (i w : Bool) (s : State) → follow a (plan_of v (starts i w)) s ≡ onto (took a s) (λ _. run (start_rule i w))
unfolding follow plan_of
follow_starts a v i w s = refl

pub ruleset trials = (steps, onto_done, onto_failed, follow_stops, follow_does, follow_starts)

-- ---- a tick tried

none_added : (o : Output) → Adds [] o o
none_added o = (sym (writing_none (written o)), record { same = refl; long = refl; fits = λ h. h })

-- of a machine and an output what is said of both
apart : {w o : Written} (s : State) (e : End Source) (t : Result Bool Why) → joining e w ≡ hears t s o → (e ≡ left t s) × (w ≡ o)
apart s (done v u) (Ok x) e = (cc, cc)
apart s (done v u) (Err why) e = absurd cc
apart s (failed n x) (Ok y) e = absurd cc
apart s (failed n x) (Err why) e = (cc, cc)

module _ (n : ℕ) (v : Source) (s : State) where
  mark_of : {e : End (Unit {0})} → took (flagged s.pc v) s ≡ e → sends_from n v s ≡ sends (out_of e) (tick_rule n v)
  unfolding sends_from
  mark_of e = ap (λ (o : Out (Unit {0})). sends o (tick_rule n v)) (took_out (flagged s.pc v) s ∙ ap out_of e)

  -- no mark: nothing more is done or sent
  pub tick_unmarked : {a : Answer} {x : Held} (o : Output) → took (flagged s.pc v) s ≡ failed a x → (trying_tick n v s ≡ failed a x) × Adds (sends_from n v s) o o
  unfolding trying_tick follow onto sends
  tick_unmarked o e = (rw e refl, rw (mark_of e) (none_added o))

  -- a mark, and the rule goes on from there
  pub tick_marked : {t : State} {o p : Output} (u : State) (r : Result Bool Why) → took (flagged s.pc v) s ≡ done tt t
      → plays (tick_rule n v) t (written o) ≡ hears r u (written p) → Stays o p → (trying_tick n v s ≡ left r u) × Adds (sends_from n v s) o p
  unfolding trying_tick follow onto sends plays
  tick_marked u r k h y = let z = apart u (run (tick_rule n v) _) r h in (rw k z.0, (rw (mark_of k) (sym z.1), y))
