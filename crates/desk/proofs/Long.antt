-- The limit on a line's length takes nothing away but leading zeros of a `run`: any other line that is longer says nothing anyway.
-- Assumes nothing.
use Rattle.std.proofs.Common.{◌≡◌, refl, sym, ◌∙◌, Bool, true, false, List, ⊎_elim, Option, None, Some, ℕ, suc, ◌+◌, ◌≤◌, ◌<◌, arith, leb, eqb, length, get_or, drop, length-drop, cond}
use Rattle.std.proofs.lemmas.Bool.{lt-leb, eqb-false}
use Rattle.lines.specs.Digits.{byte_count, bytes, begins}
use Rattle.lines.specs.Lines.{Part, grom, pad, vdp, reg, Line, sets, bad, tab, opening, pc_opening, run_opening, places, size, placed, set_line, go_line, line_of}
use Rattle.lines.proofs.Reading.{two_each, pc_other}
use Rattle.lines.proofs.Widths.{either, bounds}
use Rattle.desk.specs.Desk.{longest, heard}
use Rattle.desk.proofs.Cut.{heard_long, heard_short}

all_bad : (b : Bool) {x y : Line} → x ≡ bad → y ≡ bad → cond b x y ≡ bad
all_bad true e f = e
all_bad false e f = f

-- more bytes than any part has
past : (b : Bool) (p : Part) (at : ℕ) (s : List ℕ) → 65536 < length s → eqb (byte_count s) 0 ≡ b
    → cond b bad (cond (leb (at + byte_count s) (size p)) (sets p at (bytes s)) bad) ≡ bad
past true p at s h e = refl
past false p at s h e = rw (lt-leb (at + byte_count s) (size p) (omega (arith, two_each s _ refl (eqb-false _ _ e), (bounds p).3)))

placed_past : (p : Part) (y : Option ℕ) (s : List ℕ) → 65536 < length s → placed p y s ≡ bad
unfolding placed
placed_past p None s h = refl
placed_past p (Some at) s h = past (eqb (byte_count s) 0) p at s h refl

set_past : (p : Part) (n : ℕ) (l : List ℕ) → n ≤ 5 → longest < length l → set_line p (drop n l) ≡ bad
unfolding set_line
set_past p n l m h =
    let rest : List ℕ = drop (suc (places p)) (drop n l) in
    let long : 65536 < length rest = omega (arith, length-drop (suc (places p)) (drop n l), length-drop n l, (bounds p).1) in
    all_bad (eqb (get_or (drop n l) (places p) 0) tab) (placed_past p _ rest long) refl

go_past : (l : List ℕ) → longest < length l → begins run_opening l ≡ false → go_line l ≡ bad
unfolding go_line
go_past l h e =
    let long : length (drop 3 l) ≡ 4 → ⊥ = λ n. omega (arith, length-drop 3 l) in
    all_bad (begins pc_opening l) (sym (pc_other (drop 3 l) long)) (rw e)

line_past : (l : List ℕ) → longest < length l → begins run_opening l ≡ false → line_of l ≡ bad
unfolding line_of
line_past l h e =
    all_bad (begins (opening grom) l) (set_past grom 5 l (omega arith) h) (all_bad (begins (opening pad) l) (set_past pad 4 l (omega arith) h)
    (all_bad (begins (opening vdp) l) (set_past vdp 4 l (omega arith) h) (all_bad (begins (opening reg) l) (set_past reg 4 l (omega arith) h)
    (go_past l h e))))

pub heard_whole : (l : List ℕ) → begins run_opening l ≡ false → heard l ≡ line_of l
heard_whole l e = ⊎_elim (λ h. heard_long l h ∙ sym (line_past l h e)) (λ h. heard_short l h) (either longest (length l))
