-- What is told of an input, in steps: nothing, one step after another, and a line.
-- Assumes nothing.
use Rattle.std.proofs.Common.{◌≡◌, refl, sym, ap, ◌∙◌, Bool, true, false, List, [], ◌++◌, append_assoc, ℕ, suc, ◌+◌, ◌-◌, ◌≤◌, ◌<◌, arith, add-one, length, take, drop, Result, Ok, Err, OnErr, is_ok}
use Rattle.rules.specs.Machine.{State}
use Rattle.lines.specs.Lines.{Line, sets, jumps, runs, bad}
use Rattle.lines.specs.Shown.{bad_line}
use Rattle.desk.specs.Desk.{printed, says, heard, told}
use Rattle.desk.specs.Meaning.{printed_by, Obeyed, Heads, Point, point, Tells, Onward, Turned, Said, Spoken}
use Rattle.desk.specs.declared.obey.BadLine.{BadLine}
use Rattle.desk.specs.declared.turns.Place.{Place}
use Rattle.desk.proofs.Cut.{never}

-- ---- steps

pub tells_none : {ended : Bool} {p : Point} → Tells ended p [] true p
tells_none = record { is = λ rest _. refl }

pub tells_then : {ended good : Bool} {p q r : Point} {x y : List ℕ} → Tells ended p x true q → Tells ended q y good r → Tells ended p (x ++ y) good r
tells_then {x = x} {y = y} f g = record { is = λ rest e. f.is rest e ∙ rw (g.is rest e, append_assoc) }

-- a step that prints no byte
pub tells_quiet : {ended good : Bool} {p q : Point} (buffer : List ℕ) (n : ℕ) → n ≡ 0 → good ≡ true → Tells ended p (take n buffer) good q → Tells ended p [] true q
tells_quiet buffer n e g t = record { is = λ rest f. t.is rest f ∙ rw (e, g) }

-- ---- a line

quiet_says : (k : ℕ) (l : Line) (s : State) → [] ≡ printed k l s → true ≡ says l
unfolding bad_line
quiet_says k (sets p at bs) s e = refl
quiet_says k (jumps n) s e = refl
quiet_says k (runs n) s e = refl
quiet_says k bad s e = let wrong : ◌≡◌ {A = ℕ} 0 1 = cc in absurd (omega arith)

module _ {k : ℕ} {l : Line} {s s₁ : State} {buffer : List ℕ} {r : Result ℕ BadLine} (o : Obeyed k l s s₁ buffer r) where
  -- one that prints nothing says something
  pub quiet_good : printed_by r ≡ 0 → is_ok r ≡ true
  quiet_good e = o.taken ∙ sym (quiet_says k l s (sym (ap (λ (n : ℕ). take n buffer) e) ∙ o.prints.is))

  -- and so one that says nothing prints
  pub loud_bad : is_ok r ≡ false → printed_by r ≡ 0 → ⊥
  loud_bad f e = never (quiet_good e) f

pub tells_line : {ended : Bool} {text : List ℕ} {at end next k : ℕ} {s s₁ : State} {buffer : List ℕ} {r : Result ℕ BadLine} → Heads ended text at end next
    → Obeyed (k + 1) (heard (take (end - at) (drop at text))) s s₁ buffer r
    → Tells ended (point k (drop at text) s) (take (printed_by r) buffer) (is_ok r) (point (k + 1) (drop next text) s₁)
unfolding told
tells_line {k = k} {s = s} h o =
    record { is = λ rest e. h.same (suc k) s rest e ∙ rw (o.prints.is, o.taken, o.leaves, add-one) }

-- ---- some text

pub said_none : {ended : Bool} {p : Point} → Said ended p true p
said_none = record { text = []; tells = tells_none }

module _ {ended : Bool} {p m q : Point} {buffer : List ℕ} {r : Result ℕ BadLine} (s : Said ended p true m) (t : Turned ended m q buffer r) where
  pub said_on : Said ended p (is_ok r) q
  said_on = record { text = s.text ++ take (printed_by r) buffer; tells = tells_then s.tells t.tells }

  pub spoken_bad : is_ok r ≡ false → Spoken ended p (is_ok r) q
  spoken_bad f = record { said = said_on; waits = λ e. never e f }

-- ---- places

pub here : {text : List ℕ} {p : Place} → p.from ≤ length text → Onward text p p
here h = record { within = h; lines = omega arith; bytes = omega arith; still = λ _. refl }

module _ {text : List ℕ} {p q : Place} where
  pub line_on : {q₁ : Place} → Onward text p q → q.from < q₁.from → q₁.from ≤ length text → q₁.number ≡ q.number + 1 → Onward text p q₁
  line_on o h l e = record { within = l; lines = omega (arith, o.lines); bytes = omega (arith, o.bytes); still = λ f. absurd (omega (arith, o.lines)) }

  pub further : {r : Place} → Onward text p q → Onward text q r → Onward text p r
  further {r} o f =
      record {
        within = f.within;
        lines = omega (arith, o.lines, f.lines);
        bytes = omega (arith, o.bytes, f.bytes);
        still = λ e. f.still (omega (arith, o.lines, f.lines)) ∙ o.still (omega (arith, o.lines, f.lines));
      }

-- ---- there and here

-- nothing was printed up to a place, and then a line is obeyed
module _ {ended : Bool} {text : List ℕ} {p q : Place} {x : Point} {s s₁ : State} {end next : ℕ} {buffer : List ℕ} {r : Result ℕ BadLine}
    (o : Onward text p q × Tells ended x [] true (point q.number (drop q.from text) s)) (h : Heads ended text q.from end next)
    (l : Obeyed (q.number + 1) (heard (take (end - q.from) (drop q.from text))) s s₁ buffer r) where
  abbrev after : Point
  after = point (q.number + 1) (drop next text) s₁

  past : Onward text p (record { from = next; number = q.number + 1 })
  past = line_on o.0 h.moves h.reaches refl

  pub line_turns : x.lines ≡ p.number → (printed_by r ≡ 0 → ⊥) → Onward text p (record { from = next; number = q.number + 1 }) × Turned ended x after buffer r
  line_turns e n = (
    past,
    record {
      tells = tells_then o.1 (tells_line h l);
      fits = l.prints.fits;
      waits = λ z. absurd (n z);
      moves = λ _. omega (arith, o.0.lines);
    },
  )

  pub line_quiet : printed_by r ≡ 0 → Onward text p (record { from = next; number = q.number + 1 }) × Tells ended x [] true after
  line_quiet e = (past, tells_then o.1 (tells_quiet buffer (printed_by r) e (quiet_good l e) (tells_line h l)))

-- some text, and then a turn
pub said_there : {ended : Bool} {text buffer : List ℕ} {p q r : Place} {x y z : Point} {t : Result ℕ BadLine}
    → Onward text p q × Said ended x true y → Onward text q r × Turned ended y z buffer t → Onward text p r × Said ended x (is_ok t) z
said_there s t = (further s.0 t.0, said_on s.1 t.1)

-- and no more, after a line that says nothing
pub spoken_there : {ended : Bool} {text buffer : List ℕ} {p q r : Place} {x y z : Point} {t : Result ℕ BadLine}
    → Onward text p q × Said ended x true y → Onward text q r × Turned ended y z buffer t → is_ok t ≡ false → Onward text p r × Spoken ended x (is_ok t) z
spoken_there s t e = (further s.0 t.0, spoken_bad s.1 t.1 e)

-- what is told up to some place, where a text can't be written
pub broken : {T E : Type 0} (B : Place → Bool → Type 0) (r : Result T E) (q : Place) (good : Bool) → B q good
    → OnErr r ((p : Place) × ((b : Bool) × B p b))
broken B (Ok x) q good t = tt
broken B (Err e) q good t = (q, (good, t))
