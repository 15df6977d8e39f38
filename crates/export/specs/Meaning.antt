-- How a caller in C reads the numbers that come out, in the words of the rules.
use Rattle.std.specs.Prelude.{◌≡◌, not, List, [], ◌∷◌, ℕ, ◌≤◌, eqb, length, get_or, take, drop}
use Rattle.rules.specs.Machine.{pick, State}
use Rattle.rules.specs.Answers.{saying}
use Rattle.rules.specs.Calls as calls
use Rattle.machine.specs.Meaning.{Lent, Parts, unmapped}
use Rattle.bench.specs.declared.at.At.{At}
use Rattle.bench.specs.Meaning.{Returned, stands_at, Outcome, stepping, backing, Returns}

-- ---- where the machine stands, by the numbers that are lent: any but 0 asks for a ring, and any but 0 is the source VDP RAM

abbrev pub stands : ℕ → ℕ → ℕ → ℕ → ℕ → ℕ → At
stands pc used ring place w source =
    record { pc = pc; used = used; ring = not (eqb ring 0); place = place; writable = w; source = not (eqb source 0) }

-- ---- steps: the answer, and `out` with pc, used words, steps, stores, address, place and the source flag

pub record Numbers : Type 0 where
  pub answer : ℕ
  pub out : List ℕ

-- the report that these make, beside the parts as they are left and the mode and the writable groups that were lent, which no call alters
unfoldable pub heard : ℕ → ℕ → Returned Numbers → calls.Report
heard ring w x =
    let out : List ℕ = x.result.out in
    calls.report (saying x.result.answer (get_or out 4 0)) (get_or out 2 0) (get_or out 3 0)
    (stands_at x (stands (get_or out 0 0) (get_or out 1 0) ring (get_or out 5 0) w (get_or out 6 0)))

-- the flag comes out as 0 or 1
abbrev pub Flagged : List ℕ → Type 0
Flagged out = get_or out 6 0 ≤ 1

-- an address, the used words, the mode, the place, the writable groups and the source flag go in; the answer and `out` are what the rules say of the parts lent
abbrev pub Hears : (State → calls.Report) → (Parts → Parts) → ℕ → ℕ → ℕ → ℕ → ℕ → ℕ → ℕ → Lent → Type 0
Hears f parts pc used ring place w source answer out =
    Flagged out.exit.now × Returns (heard ring w) f (parts unmapped) (stands pc used ring place w source) (record { answer = answer; out = out.exit.now })

-- a reply as a report: one step where it was done, none where it was refused
abbrev pub tallied : calls.Reply → ℕ → ℕ → calls.Report
tallied (calls.done t) d n = calls.report (saying 0 d) 1 n t
tallied (calls.refused a t) d n = calls.report (saying a.number d) 0 n t

unfoldable pub counted : Outcome → calls.Report
counted o = tallied o.reply o.address o.stores

abbrev pub one_step : State → calls.Report
one_step s = counted (stepping calls.instruction s)

abbrev pub one_back : State → calls.Report
one_back s = counted (backing s)

-- ---- the viewer: an offset and a length

-- memory 0 is the pad, memory 1 VDP RAM; no other has a byte
abbrev pub bytes_of : ℕ → List ℕ → List ℕ → List ℕ
bytes_of n p v = pick (eqb n 0) p (pick (eqb n 1) v [])

-- what the rules show of it
unfoldable pub shown : ℕ → List ℕ → List ℕ → ℕ → ℕ → List ℕ
shown n p v at len = pick (eqb n 0) (calls.view calls.cpu_ram p v at len) (pick (eqb n 1) (calls.view calls.vdp_ram p v at len) [])

-- the bytes that an offset and a length name
abbrev pub named : ℕ → ℕ → List ℕ → List ℕ
named o n xs = take n (drop o xs)

-- the offset and the length of what is shown: the address asked for, or 0 where nothing is
abbrev pub spot : ℕ → List ℕ → List ℕ
spot at s = pick (eqb (length s) 0) 0 at ∷ length s ∷ []

-- an offset and a length name the bytes that the rules show, of the memory's own
pub record Shows (memory : ℕ) (p v : List ℕ) (at len offset n : ℕ) : Type 0 where
  pub bytes : named offset n (bytes_of memory p v) ≡ shown memory p v at len
  pub place : offset ∷ n ∷ [] ≡ spot at (shown memory p v at len)
