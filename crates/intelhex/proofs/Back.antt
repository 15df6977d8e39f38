-- Written and read back, an image is the same.
-- Assumes nothing.
use Rattle.std.proofs.Common.{◌≡◌, refl, sym, ap, ◌∙◌, Bool, true, false, cond, List, [], ◌∷◌, ◌++◌, append_assoc, append-nil, map, ℕ}
use Rattle.std.proofs.Common.{zero, suc, ◌+◌, ◌*◌, ◌/◌, ◌%◌, ◌≤◌, ◌<◌, mod-lt, arith}
use Rattle.std.proofs.Common.{eqb, ltb, length, set, take, drop, replicate, length-append, length-drop, length-set}
use Rattle.std.proofs.Common.{take-append-drop, drop-set-lt, drop-drop, take_at, take_all, length-take-le, lt-ltb, le-leb, eq-eqb, eqb-true}
use Rattle.std.proofs.Math.ListN.{length-replicate}
use Rattle.std.proofs.Math.Seq.{sets, sets-eq}
use Rattle.std.proofs.Common.{true≢false, eqb-true}
use Rattle.lines.proofs.Numerals.{tested}
use Rattle.lines.specs.Ascii.{ascii}
use Rattle.lines.specs.Digits as lines
use Rattle.lines.specs.Digits.{glyph, digits_of, show_hex, laid}
use Rattle.intelhex.specs.Lines.{lf, cr, feeds, onto, lines_of}
use Rattle.intelhex.specs.Records.{Record, holds, end, value, all_digits, pair, pairs, formed, fields, total, checked, ends, typed, record_of, records}
use Rattle.intelhex.proofs.Saying.{as_records}
use Rattle.intelhex.proofs.Writing.{groups_most}
use Rattle.intelhex.specs.Meaning.{Bytes, none, one}
use Rattle.intelhex.specs.Dump.{told, idle, trial, judged, filled, zeros, groups, read_answer, image_of, read_image, show_bytes, check, row, rows, text_of}

-- ---- a line that has no feed in it

pub data Clean : List ℕ → Type 0 where
  blank : Clean []
  char : {c : ℕ} {cs : List ℕ} → eqb lf c ≡ false → eqb cr c ≡ false → Clean cs → Clean (c ∷ cs)

clean_append : {s t : List ℕ} → Clean s → Clean t → Clean (s ++ t)
clean_append blank d = d
clean_append (char l r c) d = char l r (clean_append c d)

onto_line : (c : ℕ) (cs l : List ℕ) (ls : List (List ℕ)) → eqb lf c ≡ false → eqb cr c ≡ false → lines_of cs ≡ l ∷ ls → lines_of (c ∷ cs) ≡ (c ∷ l) ∷ ls
unfolding onto lines_of
onto_line c cs l ls f r e = rw (f, r, e)

first_line : (rest : List ℕ) → lines_of (lf ∷ rest) ≡ [] ∷ lines_of rest
unfolding lines_of
first_line rest = refl

pub lines_clean : (s rest : List ℕ) → Clean s → lines_of (s ++ lf ∷ rest) ≡ s ∷ lines_of rest
lines_clean [] rest d = first_line rest
lines_clean (c ∷ s) rest (char l r d) = onto_line c (s ++ lf ∷ rest) s (lines_of rest) l r (lines_clean s rest d)

-- ---- digits

-- each digit is neither LF nor CR, and says its number
good : ℕ → Bool
good k = cond (eqb lf (glyph k)) false (cond (eqb cr (glyph k)) false (eqb (value (glyph k)) k))

split3 : (a b c : Bool) → cond a false (cond b false c) ≡ true → (a ≡ false) × (b ≡ false) × (c ≡ true)
split3 true b c t = absurd (true≢false (sym t))
split3 false true c t = absurd (true≢false (sym t))
split3 false false c t = (refl, refl, t)

all_good : (k : ℕ) → k < 16 → good k ≡ true
unfolding good glyph value lines.digit lines.before
all_good k h = tested good 16 refl k h

parts : (k : ℕ) → k < 16 → (eqb lf (glyph k) ≡ false) × (eqb cr (glyph k) ≡ false) × (eqb (value (glyph k)) k ≡ true)
unfolding good
parts k h = split3 (eqb lf (glyph k)) (eqb cr (glyph k)) (eqb (value (glyph k)) k) (all_good k h)

value_glyph : (k : ℕ) → k < 16 → value (glyph k) ≡ k
value_glyph k h = eqb-true _ _ (parts k h).2

low : (n : ℕ) → n % 16 < 16
low n = mod-lt n (omega arith)

abbrev d1 : ℕ → ℕ
d1 b = glyph (b / 16 % 16)

abbrev d0 : ℕ → ℕ
d0 b = glyph (b % 16)

two : (b : ℕ) (t : List ℕ) → show_hex 2 b ++ t ≡ d1 b ∷ d0 b ∷ t
unfolding show_hex digits_of
two b t = refl

four : (a : ℕ) (t : List ℕ) → a < 65536 → show_hex 4 a ++ t ≡ d1 (a / 256) ∷ d0 (a / 256) ∷ d1 (a % 256) ∷ d0 (a % 256) ∷ t
unfolding show_hex digits_of
four a t h =
    let e3 : a / 16 / 16 / 16 % 16 ≡ a / 256 / 16 % 16 = omega arith in
    let e2 : a / 16 / 16 % 16 ≡ a / 256 % 16 = omega arith in
    let e1 : a / 16 % 16 ≡ a % 256 / 16 % 16 = omega arith in
    let e0 : a % 16 ≡ a % 256 % 16 = omega arith in
    rw (e3, e2, e1, e0)

pair_back : (b : ℕ) → b < 256 → pair (d1 b) (d0 b) ≡ b
unfolding pair
pair_back b h = rw (value_glyph (b / 16 % 16) (low (b / 16)), value_glyph (b % 16) (low b)) (omega arith)

digit_ok : (k : ℕ) → k < 16 → value (glyph k) < 16
digit_ok k h = omega (arith, value_glyph k h)

bytes_append : {s t : List ℕ} → Bytes s → Bytes t → Bytes (s ++ t)
bytes_append none d = d
bytes_append (one l c) d = one l (bytes_append c d)

shown_cons : (b : ℕ) (bs : List ℕ) → show_bytes (b ∷ bs) ≡ d1 b ∷ d0 b ∷ show_bytes bs
unfolding show_bytes
shown_cons b bs = two b (show_bytes bs)

pairs_shown : {bs : List ℕ} → Bytes bs → pairs (show_bytes bs) ≡ bs
unfolding pairs show_bytes
pairs_shown none = refl
pairs_shown (one {b} {bs} l d) = rw (two b (show_bytes bs), pair_back b l, pairs_shown d)

digits_shown : (bs : List ℕ) → all_digits (show_bytes bs) ≡ true
unfolding all_digits show_bytes
digits_shown [] = refl
digits_shown (b ∷ bs) =
    rw (two b (show_bytes bs), lt-ltb _ _ (digit_ok (b / 16 % 16) (low (b / 16))), lt-ltb _ _ (digit_ok (b % 16) (low b))) (digits_shown bs)

even_shown : (bs : List ℕ) → length (show_bytes bs) ≡ 2 * length bs
unfolding show_bytes
even_shown [] = refl
even_shown (b ∷ bs) = rw (two b (show_bytes bs)) (omega (arith, even_shown bs))

clean_shown : (bs : List ℕ) → Clean (show_bytes bs)
unfolding show_bytes
clean_shown [] = blank
clean_shown (b ∷ bs) =
    let h = parts (b / 16 % 16) (low (b / 16)) in
    let l = parts (b % 16) (low b) in
    rw (two b (show_bytes bs)) (char h.0 h.1 (char l.0 l.1 (clean_shown bs)))

shown_append : (s t : List ℕ) → show_bytes (s ++ t) ≡ show_bytes s ++ show_bytes t
unfolding show_bytes
shown_append [] t = refl
shown_append (b ∷ s) t = rw (shown_append s t) (sym (append_assoc (show_hex 2 b) (show_bytes s) (show_bytes t)))

again : (s : List ℕ) → map record_of (lines_of s) ≡ records s
unfolding records
again s = refl

-- ---- a row

abbrev sum_of : ℕ → List ℕ → ℕ
sum_of at bs = check (16 + at / 256 + at % 256 + total bs)

abbrev full : ℕ → List ℕ → List ℕ
full at bs = 16 ∷ at / 256 ∷ at % 256 ∷ 0 ∷ (bs ++ sum_of at bs ∷ [])

last_two : (c : ℕ) (rest : List ℕ) → show_bytes (c ∷ []) ++ rest ≡ show_hex 2 c ++ rest
unfolding show_bytes
last_two c rest = rw (two c [], two c rest)

tail_shown : (bs : List ℕ) (c : ℕ) (rest : List ℕ) → show_bytes (bs ++ c ∷ []) ++ rest ≡ show_bytes bs ++ (show_hex 2 c ++ rest)
tail_shown bs c rest =
    ap (λ (l : List ℕ). l ++ rest) (shown_append bs (c ∷ [])) ∙ append_assoc (show_bytes bs) (show_bytes (c ∷ [])) rest ∙ ap
    (λ (l : List ℕ). show_bytes bs ++ l) (last_two c rest)

head_shown : (a b : ℕ) (t : List ℕ) → show_bytes (16 ∷ a ∷ b ∷ 0 ∷ t) ≡ 49 ∷ 48 ∷ d1 a ∷ d0 a ∷ d1 b ∷ d0 b ∷ 48 ∷ 48 ∷ show_bytes t
unfolding glyph
head_shown a b t = rw (shown_cons 16 (a ∷ b ∷ 0 ∷ t), shown_cons a (b ∷ 0 ∷ t), shown_cons b (0 ∷ t), shown_cons 0 t)

spread : (at : ℕ) (bs rest : List ℕ)
    → row at bs ++ rest ≡ 58 ∷ 49 ∷ 48 ∷ (show_hex 4 at ++ (48 ∷ 48 ∷ (show_bytes bs ++ (show_hex 2 (sum_of at bs) ++ (lf ∷ rest)))))
unfolding row
spread at bs rest = simp append_assoc

flat : (at : ℕ) (bs rest : List ℕ) → at < 65536 → row at bs ++ rest ≡ (58 ∷ show_bytes (full at bs)) ++ lf ∷ rest
flat at bs rest h =
    spread at bs rest ∙ rw (
      four at (48 ∷ 48 ∷ (show_bytes bs ++ (show_hex 2 (sum_of at bs) ++ (lf ∷ rest)))) h,
      head_shown (at / 256) (at % 256)
          (bs ++ sum_of at bs ∷ []),
      tail_shown bs (sum_of at bs) (lf ∷ rest),
    )

total_append : (s t : List ℕ) → total (s ++ t) ≡ total s + total t
unfolding total
total_append [] t = omega arith
total_append (b ∷ s) t = omega (arith, total_append s t)

total_full : (at : ℕ) (bs : List ℕ) → total (full at bs) % 256 ≡ 0
unfolding total check
total_full at bs = rw (total_append bs (sum_of at bs ∷ [])) (omega arith)

module _ (at : ℕ) (bs : List ℕ) (h : at < 65536) (l : length bs ≡ 16) where
  checked_full : checked (full at bs) ≡ true
  unfolding checked
  checked_full =
      let long : length (full at bs) ≡ 21 = omega (arith, length-append bs (sum_of at bs ∷ [])) in
      rw (eq-eqb (length (full at bs)) 21 long, total_full at bs)

  typed_full : typed (full at bs) ≡ holds at bs
  unfolding typed
  typed_full =
      let there : at / 256 * 256 + at % 256 ≡ at = omega arith in
      rw (there, take_at bs (sum_of at bs ∷ []) 16 l)

small : (n : ℕ) → check n < 256
unfolding check
small n = omega arith

full_bytes : (at : ℕ) (bs : List ℕ) → at < 65536 → Bytes bs → Bytes (full at bs)
full_bytes at bs h d =
    let count : 16 < 256 = omega arith in
    let high : at / 256 < 256 = omega arith in
    let low : at % 256 < 256 = omega arith in
    let kind : 0 < 256 = omega arith in
    one count (one high (one low (one kind (bytes_append d (one (small (16 + at / 256 + at % 256 + total bs)) none)))))

form : (bs : List ℕ) → Bytes bs → checked bs ≡ true → record_of (58 ∷ show_bytes bs) ≡ typed bs
unfolding record_of formed fields
form bs d k =
    let even : (2 * length bs) % 2 ≡ 0 = omega arith in
    rw (even_shown bs, even, digits_shown bs, pairs_shown d, k)

row_record : (at : ℕ) (bs rest : List ℕ) → at < 65536 → length bs ≡ 16 → Bytes bs → records (row at bs ++ rest) ≡ holds at bs ∷ records rest
row_record at bs rest h l d =
    let line : List ℕ = 58 ∷ show_bytes (full at bs) in
    ap records (flat at bs rest h) ∙ as_records (line ++ lf ∷ rest) line (lines_of rest) (lines_clean line rest (char refl refl (clean_shown (full at bs))))
    ∙ ap (λ (r : Record). r ∷ map record_of (lines_of rest)) (form (full at bs) (full_bytes at bs h d) (checked_full at bs h l) ∙ typed_full at bs h l)
    ∙ ap (λ (rs : List Record). holds at bs ∷ rs) (again rest)

-- ---- all rows, and the end record

abbrev fin : List ℕ
fin = ascii ":00000001FF\n"

fin_record : records fin ≡ end ∷ []
unfolding lines.before lines.digit feeds onto lines_of value all_digits pair pairs formed fields total checked ends typed record_of records
fin_record = refl

bytes_take : (k : ℕ) {bs : List ℕ} → Bytes bs → Bytes (take k bs)
bytes_take zero d = none
bytes_take (suc k) none = none
bytes_take (suc k) (one l d) = one l (bytes_take k d)

bytes_drop : (k : ℕ) {bs : List ℕ} → Bytes bs → Bytes (drop k bs)
bytes_drop zero d = d
bytes_drop (suc k) none = none
bytes_drop (suc k) (one l d) = bytes_drop k d

rows_record : (k at : ℕ) (bs : List ℕ) → at < 65536 → 16 ≤ length bs → Bytes bs
    → records (rows (suc k) at bs ++ fin) ≡ holds at (take 16 bs) ∷ records (rows k (at + 16) (drop 16 bs) ++ fin)
unfolding rows
rows_record k at bs h l d =
    ap records (append_assoc (row at (take 16 bs)) (rows k (at + 16) (drop 16 bs)) fin) ∙ row_record at (take 16 bs) (rows k (at + 16) (drop 16 bs) ++ fin) h
    (length-take-le 16 bs l) (bytes_take 16 d)

none_rows : (at : ℕ) (bs : List ℕ) → records (rows zero at bs ++ fin) ≡ end ∷ []
unfolding rows
none_rows at bs = fin_record

-- ---- nothing is named twice

pieces : (a b : Bool) → cond a b false ≡ true → (a ≡ true) × (b ≡ true)
pieces true b e = (refl, e)
pieces false b e = let wrong : ◌≡◌ {A = ℕ} 0 1 = cc in absurd (omega arith)

idle_head : (f : ℕ) (fs : List ℕ) → idle (f ∷ fs) ≡ true → (eqb f 0 ≡ true) × (idle fs ≡ true)
unfolding idle
idle_head f fs e = pieces (eqb f 0) (idle fs) e

idle_take : (k : ℕ) (fs : List ℕ) → idle fs ≡ true → idle (take k fs) ≡ true
unfolding idle
idle_take zero fs e = refl
idle_take (suc k) [] e = refl
idle_take (suc k) (f ∷ fs) e = rw (idle_head f fs e).0 (idle_take k fs (idle_head f fs e).1)

idle_drop : (k : ℕ) (fs : List ℕ) → idle fs ≡ true → idle (drop k fs) ≡ true
idle_drop zero fs e = e
idle_drop (suc k) [] e = e
idle_drop (suc k) (f ∷ fs) e = idle_drop k fs (idle_head f fs e).1

idle_zeros : (n : ℕ) → idle (zeros n) ≡ true
unfolding idle
idle_zeros zero = refl
idle_zeros (suc n) = idle_zeros n

pub length_laid : (xs : List ℕ) (at : ℕ) (bs : List ℕ) → length (laid xs at bs) ≡ length xs
unfolding laid
length_laid xs at [] = refl
length_laid xs at (b ∷ bs) = length_laid (set xs at b) (suc at) bs ∙ length-set xs at b

drop_laid : (xs : List ℕ) (at : ℕ) (bs : List ℕ) (j : ℕ) → at + length bs ≤ j → drop j (laid xs at bs) ≡ drop j xs
unfolding laid
drop_laid xs at [] j h = refl
drop_laid xs at (b ∷ bs) j h = drop_laid (set xs at b) (suc at) bs j (omega arith) ∙ drop-set-lt j xs at b (omega arith)

free : (flags : List ℕ) (at : ℕ) → at + 16 ≤ length flags → idle (drop at flags) ≡ true → trial flags at 16 ≡ 0
unfolding trial
free flags at h e = rw (le-leb (at + 16) (length flags) h, idle_take 16 (drop at flags) e)

named : List ℕ → ℕ → List ℕ
named flags at = laid flags at (replicate 16 1)

still_idle : (flags : List ℕ) (at : ℕ) → idle (drop at flags) ≡ true → idle (drop (at + 16) (named flags at)) ≡ true
unfolding named
still_idle flags at e = rw (drop_laid flags at (replicate 16 1) (at + 16) (omega arith), ← drop-drop 16 at flags) (idle_drop 16 (drop at flags) e)

judged_row : (flags : List ℕ) (n at : ℕ) (bs : List ℕ) (rs : List Record) → length bs ≡ 16 → trial flags at 16 ≡ 0
    → judged flags n (holds at bs ∷ rs) ≡ judged (named flags at) (suc n) rs
unfolding judged named
judged_row flags n at bs rs l t = rw (l, t)

judged_fin : (flags : List ℕ) (n : ℕ) → judged flags n (end ∷ []) ≡ told 0 0
unfolding judged
judged_fin flags n = refl

sound : (k at n : ℕ) (bs flags : List ℕ) → length bs ≡ 16 * k → Bytes bs → at + 16 * k ≤ 65536 → length flags ≡ at + 16 * k → idle (drop at flags) ≡ true
    → judged flags n (records (rows k at bs ++ fin)) ≡ told 0 0
unfolding named
sound zero at n bs flags l d h f e = rw (none_rows at bs) (judged_fin flags n)
sound (suc k) at n bs flags l d h f e =
    ap (judged flags n) (rows_record k at bs (omega arith) (omega arith) d)
    ∙ judged_row flags n at (take 16 bs) (records (rows k (at + 16) (drop 16 bs) ++ fin)) (length-take-le 16 bs (omega arith)) (free flags at (omega arith) e)
    ∙ sound k (at + 16) (suc n) (drop 16 bs) (named flags at) (omega (arith, length-drop 16 bs)) (bytes_drop 16 d) (omega arith)
    (omega (arith, length_laid flags at (replicate 16 1))) (still_idle flags at e)

-- ---- and every byte is there

sets_laid : (xs : List ℕ) (at : ℕ) (bs : List ℕ) → laid xs at bs ≡ sets xs at bs
unfolding laid
sets_laid xs at [] = refl
sets_laid xs at (b ∷ bs) = sets_laid (set xs at b) (suc at) bs

laid_eq : (xs : List ℕ) (at : ℕ) (bs : List ℕ) → at + length bs ≤ length xs → laid xs at bs ≡ take at xs ++ bs ++ drop (at + length bs) xs
laid_eq xs at bs h = sets_laid xs at bs ∙ sets-eq bs xs at h

filled_row : (img : List ℕ) (at : ℕ) (bs : List ℕ) (rs : List Record) → filled img (holds at bs ∷ rs) ≡ filled (laid img at bs) rs
unfolding filled
filled_row img at bs rs = refl

filled_fin : (img : List ℕ) → filled img (end ∷ []) ≡ img
unfolding filled
filled_fin img = refl

front : (img : List ℕ) (at : ℕ) (bs : List ℕ) → length bs ≡ 16 → at + 16 ≤ length img → take (at + 16) (laid img at bs) ≡ take at img ++ bs
front img at bs l h =
    ap (take (at + 16)) (laid_eq img at bs (omega arith))
    ∙ take_at (take at img ++ bs) (drop (at + length bs) img) (at + 16) (length-append (take at img) bs ∙ omega (arith, length-take-le at img (omega arith)))

empty : (bs : List ℕ) → length bs ≡ 0 → bs ≡ []
empty [] h = refl
empty (b ∷ bs) h = absurd (omega arith)

whole : (k at : ℕ) (bs img : List ℕ) → length bs ≡ 16 * k → Bytes bs → at + 16 * k ≤ 65536 → length img ≡ at + 16 * k
    → filled img (records (rows k at bs ++ fin)) ≡ take at img ++ bs
whole zero at bs img l d h f =
    ap (filled img) (none_rows at bs) ∙ filled_fin img ∙ sym
    (ap (λ (t : List ℕ). take at img ++ t) (empty bs l) ∙ append-nil (take at img) ∙ take_all at img (omega arith))
whole (suc k) at bs img l d h f =
    ap (filled img) (rows_record k at bs (omega arith) (omega arith) d)
    ∙ filled_row img at (take 16 bs) (records (rows k (at + 16) (drop 16 bs) ++ fin))
    ∙ whole k (at + 16) (drop 16 bs) (laid img at (take 16 bs)) (omega (arith, length-drop 16 bs)) (bytes_drop 16 d) (omega arith)
    (omega (arith, length_laid img at (take 16 bs)))
    ∙ ap (λ (t : List ℕ). t ++ drop 16 bs) (front img at (take 16 bs) (length-take-le 16 bs (omega arith)) (omega arith))
    ∙ append_assoc (take at img) (take 16 bs) (drop 16 bs) ∙ ap (λ (t : List ℕ). take at img ++ t) (take-append-drop 16 bs)

-- ---- "Written and read back, an image is the same"

inner : (a b c : Bool) → cond a false (cond b false c) ≡ true → c ≡ true
inner true b c e = let wrong : ◌≡◌ {A = ℕ} 0 1 = cc in absurd (omega arith)
inner false true c e = let wrong : ◌≡◌ {A = ℕ} 0 1 = cc in absurd (omega arith)
inner false false c e = e

pub divides : (n : ℕ) → groups n ≡ true → n % 8192 ≡ 0
unfolding groups
divides n e = eqb-true (n % 8192) 0 (inner (ltb n 8192) (ltb 65536 n) (eqb (n % 8192) 0) e)

module _ (image : List ℕ) (d : Bytes image) (g : groups (length image) ≡ true) where
  size : length image ≡ 16 * (length image / 16)
  size = omega (arith, divides (length image) g)

  pub told_back : read_answer (length image) (text_of image) ≡ told 0 0
  unfolding read_answer text_of
  told_back =
      rw g (sound (length image / 16) 0 1 image (zeros (length image)) size d (omega (arith, groups_most (length image) g, size))
      (length-replicate (length image) 0 ∙ size ∙ omega arith) (idle_zeros (length image)))

  all_there : filled (zeros (length image)) (records (text_of image)) ≡ image
  unfolding text_of
  all_there =
      whole (length image / 16) 0 image (zeros (length image)) size d (omega (arith, groups_most (length image) g, size))
      (length-replicate (length image) 0 ∙ size ∙ omega arith)

  pub read_back : (was : List ℕ) → length was ≡ length image → read_image was (text_of image) ≡ image
  unfolding read_image image_of
  read_back was l = rw (l, g, told_back) (all_there)
