-- Each contract of the calls for C determines what it speaks of: two outcomes that it allows are equal, every lent byte, the answer and all of `out`.
use Rattle.std.proofs.Common.{◌≡◌, refl, ◌∙◌, ap, sym, not, List, [], ◌∷◌, ℕ, zero, suc, arith, eqb, length, get_or}
use Rattle.rules.specs.Machine.{pick, State}
use Rattle.rules.specs.Calls.{Report}
use Rattle.ring.proofs.Turned.{turned_back}
use Rattle.bench.specs.Meaning.{Returned, returned, Tells}
use Rattle.bench.proofs.Replies.{returned_of}
use Rattle.culprit.specs.Culprit.{Wrote}
use Rattle.export.specs.Meaning.{Numbers, heard, Flagged, Shows}
use Rattle.export.specs.Ticks.{Sounded, sounded}
use Rattle.export.specs.Who.{numbers_of}

-- `out` is an array of seven, the last of them a flag
seven : (l : List ℕ) → length l ≡ 7 → Flagged l
    → get_or l 0 0 ∷ get_or l 1 0 ∷ get_or l 2 0 ∷ get_or l 3 0 ∷ get_or l 4 0 ∷ get_or l 5 0 ∷ pick (not (eqb (get_or l 6 0) 0)) 1 0 ∷ [] ≡ l
seven [] e f = absurd (omega arith)
seven (a ∷ []) e f = absurd (omega arith)
seven (a ∷ b ∷ []) e f = absurd (omega arith)
seven (a ∷ b ∷ c ∷ []) e f = absurd (omega arith)
seven (a ∷ b ∷ c ∷ d ∷ []) e f = absurd (omega arith)
seven (a ∷ b ∷ c ∷ d ∷ x ∷ []) e f = absurd (omega arith)
seven (a ∷ b ∷ c ∷ d ∷ x ∷ y ∷ []) e f = absurd (omega arith)
seven (a ∷ b ∷ c ∷ d ∷ x ∷ y ∷ zero ∷ []) e f = refl
seven (a ∷ b ∷ c ∷ d ∷ x ∷ y ∷ suc zero ∷ []) e f = refl
seven (a ∷ b ∷ c ∷ d ∷ x ∷ y ∷ suc (suc n) ∷ []) e f = absurd (omega (arith, f))
seven (a ∷ b ∷ c ∷ d ∷ x ∷ y ∷ z ∷ m ∷ l) e f = absurd (omega arith)

-- what is returned can be read off the report that it makes
numbers : Returned Numbers → List ℕ → Returned Numbers
numbers x l =
    record {
      image = x.image;
      pad = x.pad;
      vram = x.vram;
      regs = x.regs;
      journal = x.journal;
      result = record { answer = x.result.answer; out = l };
    }

read : Report → Returned Numbers
read r =
    let s : State = r.end in
    returned_of s.mem (record { answer = r.answer.number; out = s.pc ∷ s.mem.used ∷ r.steps ∷ r.stores ∷ r.answer.address ∷ s.mem.place ∷ pick s.source 1 0 ∷ [] })

-- which is so of seven numbers, the last a flag
abbrev Told : Returned Numbers → Type 0
Told x = (length x.result.out ≡ 7) × Flagged x.result.out

read_heard : (ring w : ℕ) (x : Returned Numbers) → Told x → read (heard ring w x) ≡ x
unfolding read heard numbers
read_heard ring w x e =
    ap (λ (j : List ℕ). returned x.image x.pad x.vram x.regs j (read (heard ring w x)).result)
    (turned_back (not (eqb ring 0)) (get_or x.result.out 5 0) x.journal)
    ∙ ap (numbers x) (seven x.result.out e.0 e.1)

read_same : (ring w : ℕ) {x y : Returned Numbers} → Told x → Told y → heard ring w x ≡ heard ring w y → x ≡ y
read_same ring w {x} {y} e k h = sym (read_heard ring w x e) ∙ ap read h ∙ read_heard ring w y k

-- a step, a run, a step back
pub heard_determined : (ring w : ℕ) {f : State → Report} {s : State} {x y : Returned Numbers} → Told x → Told y
    → Tells (heard ring w) f s x → Tells (heard ring w) f s y → x ≡ y
heard_determined ring w e k h l = read_same ring w e k (h.is ∙ sym l.is)

-- a tick: the number of bytes sent and the output too
pub tick_determined : (ring w : ℕ) {f : State → Sounded} {s : State} {n m : ℕ} {o p : List ℕ} {x y : Returned Numbers} → Told x → Told y
    → Tells (sounded ring w n o) f s x → Tells (sounded ring w m p) f s y → (x ≡ y) × (n ≡ m) × (o ≡ p)
tick_determined ring w {n = n} {m} {o} {p} {x} {y} e k h l =
    let same : sounded ring w n o x ≡ sounded ring w m p y = h.is ∙ sym l.is in (
      read_same ring w e k (ap (λ (z : Sounded). z.report) same),
      ap (λ (z : Sounded). z.sent) same,
      ap (λ (z : Sounded). z.output) same,
    )

-- the viewer
pub shows_determined : {m : ℕ} {p v : List ℕ} {at len o n o₂ n₂ : ℕ} → Shows m p v at len o n → Shows m p v at len o₂ n₂ → o ∷ n ∷ [] ≡ o₂ ∷ n₂ ∷ []
shows_determined e k = e.place ∙ sym k.place

-- who wrote a cell
pub who_determined : (w : Wrote) {x y : Numbers} → x ≡ numbers_of w → y ≡ numbers_of w → x ≡ y
who_determined w e k = e ∙ sym k
