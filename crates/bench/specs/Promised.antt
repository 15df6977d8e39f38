-- What the theorems about the public calls speak of. Of a call they know its contract alone.
use Rattle.std.specs.Prelude.{◌≡◌, false, List, [], ◌∷◌, ◌++◌, ℕ, zero, suc, ◌+◌, ◌-◌, ◌<◌, eqb, length}
use Rattle.rules.specs.Machine.{pick, State}
use Rattle.rules.specs.Answers.{saying}
use Rattle.rules.specs.Calls.{instruction, tick, run}
use Rattle.rules.specs.Demands.{BackCause, Op, forth, aback, total, Past, past, history, Demand3}
use Rattle.bench.specs.Numbers as numbers
use Rattle.bench.specs.Meaning.{Returned, leaves, told, stepping, backing, reported, Tells}

-- ---- a sequence of calls

-- what a call said: the result that it handed back
pub data Said : Type 0 where
  stepped backed : numbers.Reply → Said
  -- with an output of so many bytes, which is left aside
  ticked : ℕ → numbers.Reply → Said
  ran : numbers.Report → Said

-- "any sequence of steps and step-backs, refused ones among them", and ticks and runs: calls, each known by its contract, that have led from s₀ to a state; and what they
-- said, newest first
pub data Called (s₀ : State) : List Said → State → Type 0 where
  no_call : Called s₀ [] s₀
  then_step : {l : List Said} {s : State} {x : Returned numbers.Reply} → Called s₀ l s → Tells told (stepping instruction) s x
      → Called s₀ (stepped x.result ∷ l) (leaves x)
  then_tick : {l : List Said} {s : State} (n : ℕ) {x : Returned numbers.Reply} → Called s₀ l s → Tells told (stepping (tick n)) s x
      → Called s₀ (ticked n x.result ∷ l) (leaves x)
  then_back : {l : List Said} {s : State} {x : Returned numbers.Reply} → Called s₀ l s → Tells told backing s x → Called s₀ (backed x.result ∷ l) (leaves x)
  then_run : {l : List Said} {s : State} (n : ℕ) {x : Returned numbers.Report} → Called s₀ l s → Tells reported (run n) s x
      → Called s₀ (ran x.result ∷ l) (reported x).end

-- ---- what a caller counts of it, knowing nothing else

-- "the accepted steps not taken back", their stores, and the journal words in use
pub record Count : Type 0 where
  pub steps : ℕ
  pub stores : ℕ
  pub used : ℕ

abbrev pub count : ℕ → ℕ → ℕ → Count
count k n u = record { steps = k; stores = n; used = u }

-- a step that was done is one more
abbrev pub one_more : numbers.Reply → Count → Count
one_more r c = count (suc c.steps) (c.stores + r.stores) r.at.used

-- a step back that was done is one less: the words that it has freed are the mark and the stores of that step
abbrev pub one_less : numbers.Reply → Count → Count
one_less r c = count (c.steps - 1) (c.stores - (c.used - r.at.used - 1)) r.at.used

-- what was refused counts for nothing, but a ring may have lost words by it
abbrev pub no_more : numbers.Reply → Count → Count
no_more r c = count c.steps c.stores r.at.used

-- a run counts by its own report
abbrev pub counts : Said → Count → Count
counts (stepped r) c = pick (eqb r.answer 0) (one_more r c) (no_more r c)
counts (ticked n r) c = pick (eqb r.answer 0) (one_more r c) (no_more r c)
counts (backed r) c = pick (eqb r.answer 0) (one_less r c) (no_more r c)
counts (ran r) c = count (c.steps + r.steps) (c.stores + r.stores) r.at.used

-- from "an empty journal" on
abbrev pub count_of : List Said → Count
count_of [] = count 0 0 0
count_of (a ∷ l) = counts a (count_of l)

-- ---- the same in the words of the rules

-- so many instructions
abbrev pub forths : ℕ → List Op
forths zero = []
forths (suc n) = forths n ++ forth instruction ∷ []

-- a run is the steps that it made, and where it was cut short one that was refused
abbrev pub run_ops : ℕ → ℕ → List Op
run_ops a k = forths k ++ pick (eqb a 0) [] (forth instruction ∷ [])

abbrev pub ops : Said → List Op
ops (stepped r) = forth instruction ∷ []
ops (ticked n r) = forth (tick n) ∷ []
ops (backed r) = aback ∷ []
ops (ran r) = run_ops r.answer r.steps

abbrev pub all_ops : List Said → List Op
all_ops [] = []
all_ops (a ∷ l) = all_ops l ++ ops a

-- the accepted steps not taken back, and how many of them the rules keep
abbrev pub past_of : State → List Said → Past
past_of s₀ l = history s₀ (all_ops l) s₀ (past [] 0)

-- ---- demand 3

-- What is so of the state s to which calls from s₀ have led, where c is what was counted, and h what the rules keep:
pub record Keeps (s₀ : State) (h : Past) (c : Count) (s : State) : Type 0 where
  -- so many steps, and no other call, lead from s₀ to the same address and memories, and those that are kept to the same journal words
  pub steps : Demand3 s₀ h s
  pub counted : length h.steps ≡ c.steps
  pub used : s.mem.used ≡ c.used
  -- "The journal then uses one word for each such step and one for each store that it made": where none is dropped, by what was counted
  pub words : s₀.mem.ring ≡ false → c.used ≡ c.steps + c.stores
  pub stores : s₀.mem.ring ≡ false → c.stores ≡ total h.steps s₀
  -- "A step-back is refused only when no such step is left.": the answer of the next one
  pub some_left : {x : Returned numbers.Reply} → Tells told backing s x → 0 < h.kept → x.result.answer ≡ 0
  pub none_left : {x : Returned numbers.Reply} → Tells told backing s x → h.kept ≡ 0 → BackCause s (saying x.result.answer x.result.address)
