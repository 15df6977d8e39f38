-- What a host in C reads off the answer and `out`, as a reply or a report of bench.
use Rattle.std.specs.Prelude.{◌≡◌, List, [], ◌∷◌, ℕ, length, get_or}
use Rattle.std.specs.Borrow.{MutBor}
use denote.Triple.Both.{Both}
use Rattle.rules.specs.Machine.{State}
use Rattle.rules.specs.Calls.{run}
use Rattle.machine.specs.Meaning.{Lent, SeenLent, Parts, Rest, unmapped}
use Rattle.bench.specs.declared.at.At.{At}
use Rattle.bench.specs.Numbers.{Reply, Report}
use Rattle.bench.specs.Meaning.{Returned, returned, returned_by, stands_at, lent_to, Tells}
use Rattle.bench.specs.Promised.{Said, stepped, ticked, backed, ran}
use Rattle.export.specs.Meaning.{stands, Numbers, heard, one_step, one_back, bytes_of, shown, named}
use Rattle.export.specs.Ticks.{sounded, one_tick}

-- the same parts beside another result
abbrev pub beside : {A B : Type 0} → (A → B) → Returned A → Returned B
beside f x = returned x.image x.pad x.vram x.regs x.journal (f x.result)

-- `out` has pc, used words, steps, stores, address, place and the source flag, in this order; the mode and the writable groups are those that the host has lent
abbrev pub at_of : ℕ → ℕ → Numbers → At
at_of ring w n = stands (get_or n.out 0 0) (get_or n.out 1 0) ring (get_or n.out 5 0) w (get_or n.out 6 0)

abbrev pub as_reply : ℕ → ℕ → Returned Numbers → Returned Reply
as_reply ring w = beside (λ n. record { answer = n.answer; address = get_or n.out 4 0; stores = get_or n.out 3 0; at = at_of ring w n })

abbrev pub as_report : ℕ → ℕ → Returned Numbers → Returned Report
as_report ring w = beside (λ n. record { answer = n.answer; address = get_or n.out 4 0; steps = get_or n.out 2 0; stores = get_or n.out 3 0; at = at_of ring w n })

-- what a call was lent, and what it hands back, whatever the rest of the machine is
abbrev pub HandsBack : (State → Returned Numbers → Type 0) → (Parts → Parts) → At → ℕ → Lent → Type 0
HandsBack D parts at answer out =
    (rest : Rest (parts unmapped)) → D (lent_to (parts unmapped) rest at) (returned_by (parts unmapped) rest (record { answer = answer; out = out.exit.now }))

abbrev pub RepliesIn : (State → Returned Reply → Type 0) → (Parts → Parts) → ℕ → ℕ → ℕ → ℕ → ℕ → ℕ → ℕ → Lent → Type 0
RepliesIn D parts pc used ring place w source = HandsBack (λ s x. D s (as_reply ring w x)) parts (stands pc used ring place w source)

abbrev pub ReportsIn : (State → Returned Report → Type 0) → (Parts → Parts) → ℕ → ℕ → ℕ → ℕ → ℕ → ℕ → ℕ → Lent → Type 0
ReportsIn D parts pc used ring place w source = HandsBack (λ s x. D s (as_report ring w x)) parts (stands pc used ring place w source)

-- ---- demand 3: any sequence of calls for C, each known by its contract, with one mode and one set of writable groups; what they hand back is counted as what
-- bench's calls say

abbrev pub stands_in : ℕ → ℕ → Returned Numbers → State
stands_in ring w x = stands_at x (at_of ring w x.result)

pub data HostCalled (ring w : ℕ) (s₀ : State) : List Said → State → Type 0 where
  no_call : HostCalled ring w s₀ [] s₀
  then_step : {l : List Said} {s : State} {x : Returned Numbers} → HostCalled ring w s₀ l s → Tells (heard ring w) one_step s x
      → HostCalled ring w s₀ (stepped (as_reply ring w x).result ∷ l) (stands_in ring w x)
  then_tick : {l : List Said} {s : State} (o o₁ : List ℕ) (n : ℕ) {x : Returned Numbers} → HostCalled ring w s₀ l s → Tells (sounded ring w n o₁) (one_tick o) s x
      → HostCalled ring w s₀ (ticked (length o) (as_reply ring w x).result ∷ l) (stands_in ring w x)
  then_back : {l : List Said} {s : State} {x : Returned Numbers} → HostCalled ring w s₀ l s → Tells (heard ring w) one_back s x
      → HostCalled ring w s₀ (backed (as_reply ring w x).result ∷ l) (stands_in ring w x)
  then_run : {l : List Said} {s : State} (n : ℕ) {x : Returned Numbers} → HostCalled ring w s₀ l s → Tells (heard ring w) (run n) s x
      → HostCalled ring w s₀ (ran (as_report ring w x).result ∷ l) (stands_in ring w x)

-- ---- the viewer

-- the bytes that an offset and a length name are those that the rules show
abbrev pub Views : ℕ → SeenLent → SeenLent → ℕ → ℕ → Both (MutBor ℕ) (MutBor ℕ) → ℕ → Type 0
Views m p v at len o n = named o.exit.now n (bytes_of m p.entry.now v.entry.now) ≡ shown m p.entry.now v.entry.now at len
