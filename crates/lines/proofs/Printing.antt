-- A text is put together piece after piece, from a place of a buffer on.
-- Assumes nothing.
use Rattle.std.proofs.Common.{◌≡◌, refl, sym, ◌∙◌, subst, List, [], ◌∷◌, ◌++◌, ℕ, ◌+◌, ◌≤◌, zero-add, add-one, arith, length}
use Rattle.std.proofs.Common.{take, drop, length-append, eq-eqb, ne_eqb, ◌⊎◌, ⊎_elim}
use Rattle.std.proofs.Math.Seq.{take-append_seam}
use Rattle.lines.specs.Digits.{laid, digits_of, show_hex}
use Rattle.lines.specs.Lines.{Part, places}
use Rattle.lines.specs.Shown.{cell_line, changed, Puts, Front}
use Rattle.lines.proofs.Overlay.{laid_append, laid_front}
use Rattle.lines.proofs.Widths.{bounds}

-- ---- the pieces

-- a piece, and another one right after it
pub more : {m n at end past : ℕ} {was mid is a b : List ℕ} → Puts m was at a mid end → Puts n mid end b is past → Puts (m + n) was at (a ++ b) is past
more {at = at} {was = was} {a = a} {b = b} f g =
    record {
      over = rw (laid_append was at a b, ← f.over, ← f.ends) g.over;
      ends = rw length-append (omega (arith, f.ends, g.ends));
      fits = omega (arith, f.fits, g.fits);
    }

-- a bound that is too large
pub within : (n : ℕ) {m at past : ℕ} {was is a : List ℕ} → m ≤ n → Puts m was at a is past → Puts n was at a is past
within n h f = record { over = f.over; ends = f.ends; fits = omega (arith, h, f.fits) }

-- an address, in as many digits as its part has
pub address : (p : Part) (n : ℕ) {w at past : ℕ} {was is : List ℕ} → w ≡ places p
    → Puts w was at (digits_of 16 w n) is past → Puts 4 was at (show_hex (places p) n) is past
unfolding show_hex
address p n e f = rw (← e) (within 4 (omega (arith, e, (bounds p).1)) f)

-- ---- a text that is put bit by bit

-- what is left of a text, put now, gives the whole
pub record Owes (was : List ℕ) (at : ℕ) (text rest is : List ℕ) (past : ℕ) : Type 0 where
  pub over : laid was at text ≡ laid is past rest
  pub ends : at + length text ≡ past + length rest

pub less : {n at past end : ℕ} {was text a rest is next : List ℕ}
    → Owes was at text (a ++ rest) is past → Puts n is past a next end → Owes was at text rest next end
less {past = past} {a = a} {rest = rest} {is = is} o f =
    record { over = o.over ∙ rw (laid_append is past a rest, ← f.over, ← f.ends); ends = omega (arith, o.ends, length-append a rest, f.ends) }

pub paid : {n at past : ℕ} {was text rest is : List ℕ} → rest ≡ [] → Owes was at text rest is past → past ≤ at + n → Puts n was at text is past
unfolding laid
paid {at = at} {past = past} {was = was} {text = text} {is = is} e owed h =
    let o = subst (λ (r : List ℕ). Owes was at text r is past) e owed in
    record { over = sym o.over; ends = omega (arith, o.ends); fits = h }

-- ---- the cells that changed, one by one

module _ (p : Part) (cell b c : ℕ) (was_left is_left : List ℕ) {was is : List ℕ} (e : was ≡ b ∷ was_left) (f : is ≡ c ∷ is_left) where
  changed_same : b ≡ c → changed p cell was is ≡ changed p (cell + 1) was_left is_left
  unfolding changed
  changed_same q = rw (e, f, eq-eqb b c q, add-one)

  changed_other : (b ≡ c → ⊥) → changed p cell was is ≡ cell_line p cell c ++ changed p (cell + 1) was_left is_left
  unfolding changed
  changed_other q = rw (e, f, ne_eqb b c q, add-one)

  -- a cell that is as it was owes nothing
  pub pass : {at past : ℕ} {old text out : List ℕ} → b ≡ c → Owes old at text (changed p cell was is) out past
      → Owes old at text (changed p (cell + 1) was_left is_left) out past
  pass q o = rw (← changed_same q) o

  -- one that is not owes its line
  pub pay : {n at past end : ℕ} {old text out next : List ℕ} → (b ≡ c → ⊥) → Owes old at text (changed p cell was is) out past
      → Puts n out past (cell_line p cell c) next end → Owes old at text (changed p (cell + 1) was_left is_left) next end
  pay {at = at} {past = past} {old = old} {text = text} {out = out} q o f = less (subst (λ (r : List ℕ). Owes old at text r out past) (changed_other q) o) f

-- nothing is left of the one list or of the other
pub changed_end : (p : Part) (cell : ℕ) (was is : List ℕ) → (length was ≡ 0) ⊎ (length is ≡ 0) → changed p cell was is ≡ []
unfolding changed
changed_end p cell [] is h = refl
changed_end p cell (b ∷ was) [] h = refl
changed_end p cell (b ∷ was) (c ∷ is) h = absurd (⊎_elim (λ e. omega arith) (λ e. omega arith) h)

-- ---- what has been put

first_bytes : {n past : ℕ} {was text is : List ℕ} → Puts n was 0 text is past → n ≤ length was → take past is ≡ text
first_bytes {was = was} {text = text} f h =
    let short : length text ≤ length was = omega (arith, f.ends, f.fits, h) in
    rw (f.ends, zero-add, f.over, laid_front was text short) (take-append_seam text (drop (length text) was))

-- at the front of a buffer with room for it, it is the buffer's first bytes
pub front : {n past : ℕ} {was text is : List ℕ} → Puts n was 0 text is past → n ≤ length was → n ≤ length is → Front text is past
front f h k = record { is = first_bytes f h; fits = omega (arith, f.fits, k) }
