-- Laws of the text that is written.
-- Assumes nothing.
use Rattle.std.proofs.Common.{◌≡◌, refl, sym, ap, ◌∙◌, subst, true, false, List, [], ◌∷◌, ◌++◌, ℕ, zero, suc, ◌+◌, ◌-◌, ◌*◌, ◌/◌, ◌%◌, ◌≤◌}
use Rattle.std.proofs.Common.{◌<◌, add-one, arith, length, get_or, take, drop, drop_of_length-le, length-append, length-drop, drop-cons}
use Rattle.std.proofs.Common.{take_at, drop_at, length-take-le, le-leb, le-ltb, lt-ltb, ⊎_elim}
use borrow.Author.Tests.{lt-leb}
use Rattle.lines.proofs.Widths.{either}
use Rattle.lines.specs.Ascii.{ascii}
use Rattle.lines.specs.Digits.{digits_of, show_hex}
use Rattle.lines.specs.Shown.{Puts}
use Rattle.lines.proofs.Overlay.{length_digits}
use Rattle.lines.proofs.Printing.{Owes, less, more}
use Rattle.intelhex.specs.Records.{total}
use Rattle.intelhex.specs.Dump.{show_bytes, check, row, rows, text_of, groups, needs, wrote, write_answer, write_out}

-- ---- the sum

pub total_on : (s : List ℕ) (i t b : ℕ) → i < length s → b ≡ get_or s i 0 → (t + total (drop i s)) % 256 ≡ ((t + b) % 256 + total (drop (i + 1) s)) % 256
unfolding total
total_on s i t b l e = rw (drop-cons s i 0 l, add-one) (omega arith)

pub total_end : (s : List ℕ) (i t : ℕ) → length s ≤ i → t < 256 → (t + total (drop i s)) % 256 ≡ t
unfolding total
total_end s i t l h = rw (drop_of_length-le s l) (omega arith)

-- ---- bytes

bytes_cons : (s : List ℕ) (i : ℕ) → i < length s → show_bytes (drop i s) ≡ digits_of 16 2 (get_or s i 0) ++ show_bytes (drop (i + 1) s)
unfolding show_bytes show_hex
bytes_cons s i l = rw (drop-cons s i 0 l, add-one)

pub pairs_pay : (s : List ℕ) (i b : ℕ) {n at past end : ℕ} {old text out next : List ℕ} → i < length s → b ≡ get_or s i 0
    → Owes old at text (show_bytes (drop i s)) out past
    → Puts n out past (digits_of 16 2 b) next end → Owes old at text (show_bytes (drop (i + 1) s)) next end
pairs_pay s i b {at =
    at} {past = past} {old = old} {text = text} {out = out} l e o f = less
    (subst (λ (r : List ℕ). Owes old at text r out past) (bytes_cons s i l ∙ ap (λ (k : ℕ). digits_of 16 2 k ++ show_bytes (drop (i + 1) s)) (sym e)) o) f

pub pairs_end : (s : List ℕ) (i : ℕ) → length s ≤ i → show_bytes (drop i s) ≡ []
unfolding show_bytes
pairs_end s i l = rw (drop_of_length-le s l)

-- ---- rows

pub more_rest : (bs more : List ℕ) {rest : List ℕ} → length bs ≡ 16 → rest ≡ bs ++ more → length rest ≡ 16 + length more
more_rest bs more l e = ap length e ∙ length-append bs more ∙ ap (λ (n : ℕ). n + length more) l

-- a row, and what is left after it
rows_cons : (n at : ℕ) (bs more : List ℕ) {rest : List ℕ} → length bs ≡ 16 → rest ≡ bs ++ more → n ≡ length rest / 16
    → rows n at rest ≡ row at bs ++ rows (length more / 16) (at + 16) more
unfolding rows
rows_cons n at bs more {rest} l e h =
    let left : n ≡ suc (length more / 16) = omega (arith, h, ap length e, length-append bs more) in
    rw (left, e, take_at bs more 16 l, drop_at bs more 16 l)

pub rows_pay : (at : ℕ) (bs more : List ℕ) {w start past end : ℕ} {old text out next rest : List ℕ} → length bs ≡ 16 → rest ≡ bs ++ more
    → Owes old start text (rows (length rest / 16) at rest) out past → Puts w out past (row at bs) next end
    → Owes old start text (rows (length more / 16) (at + 16) more) next end
rows_pay at bs more {start = start} {past = past} {old = old} {text = text} {out = out} l e o f =
    less (subst (λ (r : List ℕ). Owes old start text r out past) (rows_cons _ at bs more l e refl) o) f

pub rows_end : (n at : ℕ) (rest : List ℕ) → n ≡ 0 → rows n at rest ≡ []
unfolding rows
rows_end n at rest e = rw e

-- ---- a row

checks : (at s t : ℕ) → s ≡ t % 256 → (256 - (16 + at / 256 + at % 256 + s) % 256) % 256 ≡ check (16 + at / 256 + at % 256 + t)
unfolding check
checks at s t e = ap (λ (k : ℕ). (256 - k) % 256) (omega arith)

pub put_check : (at s t : ℕ) {n from past : ℕ} {was is : List ℕ} → s ≡ t % 256
    → Puts n was from (digits_of 16 2 ((256 - (16 + at / 256 + at % 256 + s) % 256) % 256)) is past → Puts n was from
    (show_hex 2 (check (16 + at / 256 + at % 256 + t))) is past
unfolding show_hex
put_check at s t {n =
    n} {from = from} {past = past} {was = was} {is = is} e f = subst (λ (k : ℕ). Puts n was from (digits_of 16 2 k) is past) (checks at s t e) f

-- ---- how long

length_bytes : (bs : List ℕ) → length (show_bytes bs) ≡ 2 * length bs
unfolding show_bytes show_hex
length_bytes [] = refl
length_bytes (b ∷ bs) = rw (length-append, length_digits) (omega (arith, length_bytes bs))

length_row : (at : ℕ) (bs : List ℕ) → length bs ≡ 16 → length (row at bs) ≡ 44
unfolding row show_hex
length_row at bs h = simp (length-append, length_digits, length_bytes) (omega arith)

length_rows : (k at : ℕ) (bs : List ℕ) → 16 * k ≤ length bs → length (rows k at bs) ≡ k * 44
unfolding rows
length_rows zero at bs h = refl
length_rows (suc k) at bs h =
    let first : length (row at (take 16 bs)) ≡ 44 = length_row at (take 16 bs) (length-take-le 16 bs (omega arith)) in
    rw (length-append, first, length_rows k (at + 16) (drop 16 bs) (omega (arith, length-drop 16 bs))) (omega arith)

-- ---- the whole call

module _ (image out : List ℕ) where
  pub write_unlent : groups (length image) ≡ false → (wrote 11 0 ≡ write_answer (length image) (length out)) × (out ≡ write_out image out)
  unfolding write_answer write_out
  write_unlent g = (rw g, rw g)

  module _ (g : groups (length image) ≡ true) where
    pub write_short : length out < needs (length image) → (wrote 31 0 ≡ write_answer (length image) (length out)) × (out ≡ write_out image out)
    unfolding write_answer write_out
    write_short h =
        let no = lt-leb (needs (length image)) (length out) h in
        (rw (g, no), rw (g, no))

    pub write_done : (mid is : List ℕ) (past count : ℕ) → needs (length image) ≤ length out
        → Puts (length image / 16 * 44) out 0 (rows (length image / 16) 0 image) mid past → Puts 12 mid past (ascii ":00000001FF\n") is count
        → (wrote 0 count ≡ write_answer (length image) (length out)) × (is ≡ write_out image out)
    unfolding write_answer write_out text_of
    write_done mid is past count h f l =
        let yes = le-leb (needs (length image)) (length out) h in
        let long : count ≡ needs (length image) = omega (arith, f.ends, l.ends, length_rows (length image / 16) 0 image (omega arith)) in
        (rw (g, yes) (ap (λ (k : ℕ). wrote 0 k) long), rw (g, yes) (more f l).over)

pub groups_most : (n : ℕ) → groups n ≡ true → n ≤ 65536
unfolding groups
groups_most n e =
    ⊎_elim (λ l. let f : groups n ≡ false = rw (le-ltb n 8192 (omega arith), lt-ltb 65536 n l) in let wrong : ◌≡◌ {A = ℕ} 0 1 = cc in absurd (omega arith))
    (λ l. l) (either 65536 n)

-- of an image of whole groups
pub length_text : (image : List ℕ) → length image % 8192 ≡ 0 → length (text_of image) ≡ needs (length image)
unfolding text_of
length_text image h = rw (length-append, length_rows (length image / 16) 0 image (omega arith))
