-- What was printed is read back: `hex_back` and `decimal_back` for numbers, `pc_back` for the program address, and `cell_back` for a changed cell.
-- Assumes nothing.
use Rattle.std.proofs.Common.{◌≡◌, refl, sym, ap, ◌∙◌, Bool, true, false, cond, List, [], ◌∷◌, ◌++◌, append_assoc, Option, Some, None, ℕ}
use Rattle.std.proofs.Common.{zero, suc, ◌+◌, ◌*◌, ◌/◌, ◌%◌, ◌^◌, ◌≤◌, ◌<◌, add-one, pow-suc, mod-lt, div-lt_iff_lt-mul, div-add-mod'}
use Rattle.std.proofs.Common.{arith, ltb, length, get_or, take, length-append, take_at, drop_at, lt-ltb, le-leb}
use Rattle.std.proofs.Math.Nat.{pow-zero}
use Rattle.std.proofs.Math.Seq.{get_or_at}
use Rattle.lines.specs.Digits.{digit, glyph, numeral_from, numeral, up_to, digits_of, width, show_decimal, show_hex, byte_of, bytes, all_hex, byte_count, begins}
use Rattle.lines.specs.Lines.{Part, grom, pad, vdp, reg, sets, jumps, tab, places, size, set_line, jumping, go_line, line_of}
use Rattle.lines.specs.Shown.{pc_text, cell_text}
use Rattle.lines.proofs.Numerals.{digit_glyph, number_start}
use Rattle.lines.proofs.Overlay.{length_digits}
use Rattle.lines.proofs.Reading.{pc_read, placed_in}
use Rattle.lines.proofs.Widths.{width_holds, width_some, bounds}

-- ---- numbers

-- digits after a number that others say
onward : ℕ → Option ℕ → List ℕ → Option ℕ
onward base None t = None
onward base (Some v) t = numeral_from base v t

either_way : (base : ℕ) (b : Bool) (x y : Option ℕ) (t : List ℕ) → x ≡ onward base y t → cond b x None ≡ onward base (cond b y None) t
unfolding onward
either_way base true x y t e = e
either_way base false x y t e = refl

in_two : (base v : ℕ) (s t : List ℕ) → numeral_from base v (s ++ t) ≡ onward base (numeral_from base v s) t
unfolding numeral_from onward
in_two base v [] t = refl
in_two base v (c ∷ s) t = either_way base (ltb (digit c) base) _ _ t (in_two base (v * base + digit c) s t)

-- one digit more
one_more : (base n : ℕ) → 1 ≤ base → base ≤ 16 → numeral_from base (n / base) (glyph (n % base) ∷ []) ≡ Some n
unfolding numeral_from
one_more base n h l =
    let rest : n % base < base = mod-lt n h in
    rw (digit_glyph (n % base) (omega arith), lt-ltb (n % base) base rest, div-add-mod' n base)

digits_back : (base d n : ℕ) → 1 ≤ base → base ≤ 16 → n < base ^ d → numeral_from base 0 (digits_of base d n) ≡ Some n
unfolding digits_of numeral_from onward
digits_back base zero n h l b =
    let nought : 0 ≡ n = omega (arith, rw (pow-zero base) at b) in
    ap (λ (k : ℕ). Some k) nought
digits_back base (suc d) n h l b =
    let less : n / base < base ^ d = (div-lt_iff_lt-mul {k = base} {x = n} {y = base ^ d} h).1 (rw (pow-suc base d) at b) in
    rw (in_two base 0 (digits_of base d (n / base)) (glyph (n % base) ∷ []), digits_back base d (n / base) h l less) (one_more base n h l)

numeral_back : (base d n : ℕ) → 1 ≤ base → base ≤ 16 → 1 ≤ d → n < base ^ d → numeral base (digits_of base d n) ≡ Some n
numeral_back base d n h l w b =
    number_start base (digits_of base d n) (λ e. omega (arith, length_digits base d n)) ∙ digits_back base d n h l b

pub hex_back : (d n : ℕ) → 1 ≤ d → n < 16 ^ d → numeral 16 (show_hex d n) ≡ Some n
unfolding show_hex
hex_back d n w b = numeral_back 16 d n (omega arith) (omega arith) w b

pub decimal_back : (n : ℕ) → numeral 10 (show_decimal n) ≡ Some n
unfolding show_decimal
decimal_back n = numeral_back 10 (width n) n (omega arith) (omega arith) (width_some n) (width_holds n)

-- ---- the program address

length_hex : (d n : ℕ) → length (show_hex d n) ≡ d
unfolding show_hex
length_hex d n = length_digits 16 d n

not_past : (limit n : ℕ) → n ≤ limit → Some n ≡ up_to limit (Some n)
unfolding up_to
not_past limit n h = rw (le-leb n limit h)

pub pc_back : (n : ℕ) → n < 65536 → line_of (pc_text n) ≡ jumps n
unfolding pc_text line_of go_line begins jumping
pc_back n h =
    let read : numeral 16 (show_hex 4 n) ≡ Some n = hex_back 4 n (omega arith) h in
    sym (pc_read (show_hex 4 n) (Some n) (length_hex 4 n) (rw read (not_past 65535 n (omega arith))))

-- ---- a cell

two_digits : (b : ℕ) → byte_count (show_hex 2 b) ≡ 1
unfolding show_hex digits_of byte_count all_hex
two_digits b =
    let high : digit (glyph (b / 16 % 16)) < 16 = omega (arith, digit_glyph (b / 16 % 16) (omega arith)) in
    let low : digit (glyph (b % 16)) < 16 = omega (arith, digit_glyph (b % 16) (omega arith)) in
    rw (lt-ltb _ _ high, lt-ltb _ _ low)

one_byte : (b : ℕ) → b < 256 → bytes (show_hex 2 b) ≡ b ∷ []
unfolding show_hex digits_of bytes byte_of
one_byte b h =
    let whole : (b / 16 % 16 * 16 + b % 16) % 256 ≡ b = omega arith in
    rw (digit_glyph (b / 16 % 16) (omega arith), digit_glyph (b % 16) (omega arith), whole)

set_back : (p : Part) (at b : ℕ) → at < size p → b < 256 → set_line p (show_hex (places p) at ++ (tab ∷ []) ++ show_hex 2 b) ≡ sets p at (b ∷ [])
unfolding set_line
set_back p at b h l =
    let front = show_hex (places p) at in
    let long : length front ≡ places p = length_hex (places p) at in
    let past : length (front ++ (tab ∷ [])) ≡ suc (places p) = length-append front (tab ∷ []) ∙ ap (λ (n : ℕ). n + 1) long ∙ add-one (places p) in
    let read : numeral 16 front ≡ Some at = hex_back (places p) at (bounds p).0 (omega (arith, (bounds p).2)) in
    let tabbed : get_or (front ++ (tab ∷ []) ++ show_hex 2 b) (places p) 0 ≡ tab = rw append_assoc (get_or_at front tab (show_hex 2 b) 0 (places p) long) in
    let fore : take (places p) (front ++ (tab ∷ []) ++ show_hex 2 b) ≡ front = rw append_assoc (take_at front (tab ∷ show_hex 2 b) (places p) long) in
    let one : 1 ≡ byte_count (show_hex 2 b) = sym (two_digits b) in
    rw (tabbed, fore, drop_at (front ++ (tab ∷ [])) (show_hex 2 b) (suc (places p)) past, read)
    (sym (placed_in p at (show_hex 2 b) 1 one (omega arith) (omega arith)) ∙ ap (sets p at) (one_byte b l))

pub cell_back : (p : Part) (at b : ℕ) → at < size p → b < 256 → line_of (cell_text p at b) ≡ sets p at (b ∷ [])
unfolding cell_text line_of begins
cell_back grom at b h l = set_back grom at b h l
cell_back pad at b h l = set_back pad at b h l
cell_back vdp at b h l = set_back vdp at b h l
cell_back reg at b h l = set_back reg at b h l
