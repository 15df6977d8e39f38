-- How a caller in C reads what a tick leaves: the answer and `out` as of a step, how many bytes it has sent, and the output.
use Rattle.std.specs.Prelude.{List, ℕ}
use Rattle.std.specs.Borrow.{MutBor}
use denote.Triple.Both.{Both}
use Rattle.rules.specs.Machine.{State}
use Rattle.rules.specs.Calls.{Report}
use Rattle.machine.specs.Meaning.{Lent, Parts, unmapped}
use Rattle.bench.specs.Meaning.{Returned, ticking, Returns}
use Rattle.export.specs.Meaning.{stands, Numbers, heard, Flagged, counted}

pub record Sounded : Type 0 where
  pub report : Report
  pub sent : ℕ
  pub output : List ℕ

-- these numbers, so many bytes sent, and the output as it is left
abbrev pub sounded : ℕ → ℕ → ℕ → List ℕ → Returned Numbers → Sounded
sounded ring w n o x = record { report = heard ring w x; sent = n; output = o }

-- of a state and an output as it was lent: a tick that was done is one step
abbrev pub one_tick : List ℕ → State → Sounded
one_tick o s = record { report = counted (ticking o s).outcome; sent = (ticking o s).sent; output = (ticking o s).output }

abbrev pub HearsTick : (Parts → Parts) → ℕ → ℕ → ℕ → ℕ → ℕ → ℕ → Lent → ℕ → Both (MutBor ℕ) (MutBor ℕ) → Lent → Type 0
HearsTick parts pc used ring place w source output answer sent out =
    Flagged out.exit.now
    × Returns (sounded ring w sent.exit.now output.exit.now) (one_tick output.entry.now) (parts unmapped)
    (stands pc used ring place w source) (record { answer = answer; out = out.exit.now })
