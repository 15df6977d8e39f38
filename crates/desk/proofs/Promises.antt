-- Pieces and turns, one after the other, come to what a whole input prints.
-- Assumes nothing.
use Rattle.std.proofs.Common.{◌≡◌, refl, sym, ap, ◌∙◌, subst, Bool, true, false, List, [], ◌++◌, append_assoc, append-nil, ℕ}
use Rattle.rules.specs.Machine.{State}
use Rattle.desk.specs.Desk.{cut, told, start, whole}
use Rattle.desk.specs.Meaning.{Follows, Point, point, to_come, Tells, Said, Spoken}
use Rattle.desk.specs.Bytes.{Gains}
use Rattle.desk.specs.Promised.{Obeying, begun, reads, ends, tells, Midway}

-- whatever follows what was read: all that is printed is what was printed, and what is to come
pub so_far : {ended : Bool} {input output : List ℕ} {p : Point} → Obeying ended input output p → (rest : List ℕ) → Follows ended rest
    → whole (input ++ rest) ≡ output ++ to_come p rest
unfolding whole
so_far begun rest f = refl
so_far (reads {input} {p = p} piece o) rest f = rw (append_assoc input piece rest, append_assoc p.left piece rest) (so_far o (piece ++ rest) tt)
so_far (ends o) rest f = so_far o rest tt
so_far (tells o t) rest f = so_far o rest f ∙ rw (t.is rest f, append_assoc)

-- where the input has ended and nothing is left, all is printed
pub at_end : {input output : List ℕ} {p : Point} → Obeying true input output p → p.left ≡ [] → whole input ≡ output
unfolding cut told
at_end {input} o e = ap whole (sym (append-nil input)) ∙ so_far o [] refl ∙ rw (e, append-nil)

-- and so it is after a line that says nothing, whatever follows
pub at_bad : {ended : Bool} {input output text : List ℕ} {p q : Point} → Obeying ended input output p → Tells ended p text false q
    → (rest : List ℕ) → Follows ended rest → whole (input ++ rest) ≡ output ++ text
at_bad o t rest f = so_far o rest f ∙ rw (t.is rest f, append-nil)

-- a text that is handed over whole: what is said of it is all that it prints
pub all_said : {text : List ℕ} {q : Point} (good : Bool) (s : Spoken true (point 0 text start) good q) → whole text ≡ s.said.text
all_said {text} true s = at_end (tells (ends (reads text begun)) s.said.tells) ((s.waits refl).none refl)
all_said {text} false s = ap whole (sym (append-nil text)) ∙ at_bad (ends (reads text begun)) s.said.tells [] refl

-- ---- the program's loop

pub midway_none : {s : State} → s ≡ start → Midway (point 0 [] s)
midway_none e = rw e (record { input = []; output = []; obeying = begun })

-- a piece more is read
pub midway_read : {k n : ℕ} {u v : List ℕ} {s : State} → Midway (point k u s) → Gains u v n → Midway (point k v s)
midway_read {k} {s = s} h g =
    record {
      input = h.input ++ g.more;
      output = h.output;
      obeying = subst (λ (x : List ℕ). Obeying false (h.input ++ g.more) h.output (point k x s)) (sym g.is) (reads g.more h.obeying);
    }

pub midway_on : {ended good : Bool} {p q : Point} → Midway p → ended ≡ false → good ≡ true → Said ended p good q → Midway q
midway_on h e g s = record { input = h.input; output = h.output ++ s.text; obeying = tells h.obeying (rw (e, g) at s.tells) }
