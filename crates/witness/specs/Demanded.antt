-- The demands, in the form that a contract has: of the state that a call was lent, and of what it returned.
use Rattle.std.specs.Prelude.{◌≡◌, true, false, List, ◌++◌, ℕ, ◌-◌, ◌≤◌, length, drop, replicate}
use Rattle.rules.specs.Machine.{pick, Kind, State, cells}
use Rattle.rules.specs.Answers.{saying, answer_for, wrong_length}
use Rattle.rules.specs.Calls.{Way, tick, fits, done, tick_sent, step_back, report}
use Rattle.rules.specs.Demands.{Good, Demand1, BackCause, Demand2, past, Ends, Demand3}
use Rattle.machine.specs.Meaning.{Lent, Parts, Rest, unmapped}
use Rattle.bench.specs.declared.at.At.{At}
use Rattle.bench.specs.Numbers.{Reply, Report, Ticked}
use Rattle.witness.specs.declared.Kept.{Kept}
use Rattle.bench.specs.Meaning.{Returned, returned_by, stands_at, lent_to, leaves, reported, replied}
use Rattle.bench.specs.Promised.{Said, Called, past_of}

-- whatever the rest of the machine is
abbrev pub Meets : {A : Type 0} → (State → Returned A → Type 0) → (Parts → Parts) → At → A → Type 0
Meets D parts at r = (rest : Rest (parts unmapped)) → D (lent_to (parts unmapped) rest at) (returned_by (parts unmapped) rest r)

-- ---- a step, by its way: demand 1, or demand 2

pub data Step (w : Way) (s : State) (x : Returned Reply) : Type 0 where
  refused : (x.result.answer ≡ 0 → ⊥) → Demand1 w s (saying x.result.answer x.result.address) (leaves x) → x.result.stores ≡ 0 → Step w s x
  accepted : x.result.answer ≡ 0 → Demand2 w s (leaves x) x.result.stores → Step w s x

-- ---- what a tick does to an output o

-- how many bytes of it a tick of s has written by the time that it ends or is refused
abbrev pub begun_bytes : List ℕ → State → ℕ
begun_bytes o s = pick (fits s.mem) (length (tick_sent (length o) s)) 0

-- of the output o₁ that a tick leaves, by its answer, and the number that it gives
pub data Sends (o : List ℕ) (s : State) (o₁ : List ℕ) : ℕ → ℕ → Type 0 where
  -- "what a tick sends is determined by the state before it": these bytes, and all others stay
  sends : o₁ ≡ tick_sent (length o) s ++ drop (length (tick_sent (length o) s)) o → Sends o s o₁ 0 (length (tick_sent (length o) s))
  -- "a refused tick zeroes what it wrote there"
  withholds : {a : ℕ} → (a ≡ 0 → ⊥) → o₁ ≡ replicate (begun_bytes o s) 0 ++ drop (begun_bytes o s) o → Sends o s o₁ a 0

-- "A tick is a step", with an output o, of which it leaves o₁ and says that it has sent n bytes
pub record Tick (o o₁ : List ℕ) (n : ℕ) (s : State) (x : Returned Reply) : Type 0 where
  pub step : Step (tick (length o)) s x
  pub output : Sends o s o₁ x.result.answer n

abbrev pub Ticks : Lent → State → Returned Ticked → Type 0
Ticks o s x = Tick o.entry.now o.exit.now x.result.sent s (replied x)

-- ---- a step back: refused for its cause, with all as it was, or the rules' own

pub data Back (s : State) (x : Returned Reply) : Type 0 where
  refused : (x.result.answer ≡ 0 → ⊥) → BackCause s (saying x.result.answer x.result.address) → leaves x ≡ s → Back s x
  accepted : x.result.answer ≡ 0 → step_back s ≡ done (leaves x) → Back s x

-- ---- a run

pub data Run (n : ℕ) (s : State) (x : Returned Report) : Type 0 where
  unfit : fits s.mem ≡ false → reported x ≡ report (answer_for wrong_length) 0 0 s → Run n s x
  fit : fits s.mem ≡ true → Ends n s (reported x) → Run n s x

-- ---- there and back again: address and memories as before

pub record Home (s t : State) : Type 0 where
  pub address : t.pc ≡ s.pc
  pub source : t.source ≡ s.source
  pub memories : (k : Kind) → cells k t.mem ≡ cells k s.mem
  -- in a ring steps before it may be lost
  pub used : s.mem.ring ≡ false → t.mem.used ≡ s.mem.used

abbrev pub RepliesHome : State → Returned Reply → Type 0
RepliesHome s x = Home s (leaves x)

-- ---- from an empty journal on

-- "Setting used to 0 forgets."
abbrev pub forgetting : At → At
forgetting at = record { pc = at.pc; used = 0; ring = at.ring; place = at.place; writable = at.writable; source = at.source }

-- calls have led from s₀, whose journal was empty, to s
pub record Led (s₀ s : State) : Type 0 where
  pub good : Good s₀
  pub empty : s₀.mem.used ≡ 0
  pub said : List Said
  pub called : Called s₀ said s

-- one call more: they have led on
abbrev pub LedOn : (Parts → Parts) → At → At → Type 0
LedOn parts at r =
    (rest : Rest (parts unmapped)) (s₀ : State) → Led s₀ (lent_to (parts unmapped) rest at) → Led s₀ (stands_at (returned_by (parts unmapped) rest r) r)

-- demand 3 holds of what they said
pub record Along (s : State) (x : Returned At) : Type 0 where
  pub led : Led s (stands_at x x.result)
  pub kept : Demand3 s (past_of s led.said) (stands_at x x.result)

-- ---- the steps of a run taken back one by one

-- these steps of theirs are not taken back, and no more than l are kept
pub record Behind (s₀ : State) (ws : List Way) (l : ℕ) (s : State) : Type 0 where
  pub led : Led s₀ s
  pub steps : (past_of s₀ led.said).steps ≡ ws
  pub most : (past_of s₀ led.said).kept ≤ l

-- the n oldest of some steps
abbrev pub oldest : ℕ → List Way → List Way
oldest n ws = drop (length ws - n) ws

-- so many steps from s lead there, and none is kept; in the plain mode there is none at all
pub record BackAgain (these : ℕ → List Way) (s : State) (x : Returned Kept) : Type 0 where
  pub count : length (these x.result.steps) ≡ x.result.steps
  pub kept : Demand3 s (past (these x.result.steps) 0) (stands_at x x.result.at)
  pub all : s.mem.ring ≡ false → x.result.steps ≡ 0

-- so many step-backs: wherever the calls began, no step is kept then
abbrev pub TakenBack : ℕ → (Parts → Parts) → At → Kept → Type 0
TakenBack n parts at r =
    (rest : Rest (parts unmapped)) (s₀ : State) (ws : List Way) → length ws ≡ n → Behind s₀ ws n (lent_to (parts unmapped) rest at)
    → BackAgain (λ k. oldest k ws) s₀ (returned_by (parts unmapped) rest r)
