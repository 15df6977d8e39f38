-- Item 7's demand: "The reason given must be the true one", of a machine that calls from an empty journal have led to.
use Rattle.std.specs.Prelude.{◌≡◌, List, ℕ}
use Rattle.rules.specs.Machine.{Kind, Mem, State}
use Rattle.rules.specs.Journal.{kind_number}
use Rattle.rules.specs.Demands.{Good, Past}
use Rattle.machine.specs.Meaning.{Lent}
use Rattle.bench.specs.declared.at.At.{At}
use Rattle.bench.specs.Meaning.{Returned, stands_at}
use Rattle.bench.specs.Promised.{Said, past_of}
use Rattle.culprit.specs.Culprit as culprit
use Rattle.culprit.specs.Culprit.{True}
use Rattle.culprit.specs.Meaning.{Saying, wrote_of}
use Rattle.export.specs.Meaning.{stands, Numbers}
use Rattle.export.specs.Who.{numbers, numbers_of}
use Rattle.witness.specs.Demanded.{Led}
use Rattle.witness.specs.Hosted.{HostCalled}

-- wherever the calls began
abbrev pub Blames : Kind → ℕ → State → Saying → Type 0
Blames k a s w = (s₀ : State) (l : Led s₀ s) → True k a s₀ (past_of s₀ l.said) s.mem (wrote_of w)

-- after calls that were made from s on
pub record BlamesAfter (k : Kind) (a : ℕ) (s : State) (x : Returned Saying) : Type 0 where
  pub at : At
  pub led : Led s (stands_at x at)
  pub is : True k a s (past_of s led.said) (stands_at x at).mem (wrote_of x.result)

-- ---- for a host in C

-- its numbers are those of a true answer
pub record TrueIn (k : Kind) (a : ℕ) (s₀ : State) (h : Past) (m : Mem) (n : Numbers) : Type 0 where
  pub said : culprit.Wrote
  pub told : n ≡ numbers_of said
  pub is : True k a s₀ h m said

-- of a kind by its number: wherever the calls for C began, and wherever pc and the source are, which are not asked
abbrev pub BlamesIn : ℕ → ℕ → (At → State) → ℕ → ℕ → ℕ → ℕ → ℕ → Lent → Type 0
BlamesIn n a lent used ring place w answer out =
    (k : Kind) → kind_number k ≡ n → (pc source : ℕ) (s₀ : State) (l : List Said) → Good s₀ → s₀.mem.used ≡ 0
    → HostCalled ring w s₀ l (lent (stands pc used ring place w source))
    → TrueIn k a s₀ (past_of s₀ l) (lent (stands pc used ring place w source)).mem (numbers answer out.exit.now)
