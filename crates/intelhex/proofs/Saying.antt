-- What a line says, test by test.
-- Assumes nothing.
use Rattle.std.proofs.Common.{◌≡◌, refl, sym, ap, ◌∙◌, Bool, true, false, true≢false, cond, Option, Some, None, List, [], ◌∷◌, map, ℕ}
use Rattle.std.proofs.Common.{◌+◌, ◌-◌, ◌*◌, ◌/◌, ◌%◌, ◌≤◌, ◌<◌, eqb, length, get_or, take, drop, length-take, length-drop, arith, eq-eqb, drop-drop, take-take}
use Rattle.std.proofs.Common.{ne_eqb, eqb-true}
use Rattle.std.proofs.lemmas.List.{drop-take}
use Rattle.std.specs.Cmp.Lexicographic.{pointwise}
use Rattle.intelhex.specs.Lines.{lines_of}
use Rattle.intelhex.specs.Records as format
use Rattle.intelhex.specs.Records.{all_digits, pair, pairs, formed, fields, count, total, checked, ends, typed, record_of, records}
use Rattle.intelhex.specs.Meaning.{Within, Reaches, Says, Cuts, Turn}
use Rattle.intelhex.specs.declared.line.Bytes.{Bytes}
use Rattle.intelhex.specs.declared.line.Record.{Record}
use Rattle.intelhex.specs.declared.line.Record.TheVariants.{Holds, End}
use Rattle.intelhex.proofs.Cutting.{alike}
use Rattle.intelhex.proofs.Forming.{length_pairs, take_pairs, drop_pairs, pairs_at_lem}

-- ---- a line's form

-- what `strip_prefix` tests
colon : (s : List ℕ) → pointwise eqb (take 1 s) (58 ∷ []) ≡ eqb (get_or s 0 0) 58
colon [] = refl
colon (c ∷ s) = alike (eqb c 58)

module _ (s : List ℕ) where
  pub formed_not : pointwise eqb (take 1 s) (58 ∷ []) ≡ false → formed s ≡ false
  unfolding formed
  formed_not e = rw (sym (colon s) ∙ e)

  module _ (c : pointwise eqb (take 1 s) (58 ∷ []) ≡ true) (digits : List ℕ) (e : digits ≡ drop 1 s) where
    pub formed_odd : (length digits % 2 ≡ 0 → ⊥) → formed s ≡ false
    unfolding formed
    formed_odd h = rw (sym (colon s) ∙ c, ← e, ne_eqb (length digits % 2) 0 h)

    pub formed_even : length digits % 2 ≡ 0 → formed s ≡ all_digits digits
    unfolding formed
    formed_even h = rw (sym (colon s) ∙ c, ← e, eq-eqb (length digits % 2) 0 h)

-- ---- its count and its sum

module _ (digits : List ℕ) where
  pub checked_few : length digits / 2 < 5 → false ≡ checked (pairs digits)
  unfolding checked
  checked_few h = rw (ne_eqb (length (pairs digits)) (count (pairs digits) + 5) (λ e. omega (arith, length_pairs digits)))

  module _ (n : ℕ) (long : 5 ≤ length digits / 2) (c : n ≡ pair (get_or digits 0 0) (get_or digits 1 0)) where
    pub counted : count (pairs digits) ≡ n
    counted = pairs_at_lem 0 digits (omega arith) ∙ sym c

    pub checked_not : (length digits / 2 ≡ n + 5 → ⊥) → false ≡ checked (pairs digits)
    unfolding checked
    checked_not h = rw (length_pairs digits, counted, ne_eqb (length digits / 2) (n + 5) h)

    pub checked_sum : length digits / 2 ≡ n + 5 → (sum : ℕ) → sum ≡ total (pairs digits) % 256 → eqb sum 0 ≡ checked (pairs digits)
    unfolding checked
    checked_sum h sum t = rw (length_pairs digits, counted, eq-eqb (length digits / 2) (n + 5) h, t)

-- ---- its record

pub both : (a b : Bool) → cond a b false ≡ true → (a ≡ true) × (b ≡ true)
both true b e = (refl, e)
both false b e = absurd (true≢false (sym e))

module _ (digits : List ℕ) (k : checked (pairs digits) ≡ true) where
  full : length (pairs digits) ≡ count (pairs digits) + 5
  unfolding checked
  full = eqb-true (length (pairs digits)) (count (pairs digits) + 5) (both (eqb (length (pairs digits)) (count (pairs digits) + 5)) (eqb (total (pairs digits) % 256) 0) k).0

  pub long : 5 ≤ length digits / 2
  long = omega (arith, full, length_pairs digits)

pub says_bad : (s : List ℕ) → format.bad ≡ record_of s → Says s None
says_bad s e = record { means = e; within = tt }

pub unformed : (s : List ℕ) → formed s ≡ false → Says s None
unfolding record_of
unformed s f = says_bad s (rw f)

module _ (s digits : List ℕ) (f : formed s ≡ true) (e : digits ≡ drop 1 s) where
  same : fields s ≡ pairs digits
  unfolding fields
  same = ap pairs (sym e)

  even_of : (a b c : Bool) (n : ℕ) → eqb n 0 ≡ b → cond a (cond b c false) false ≡ true → n ≡ 0
  even_of true true c n q h = eqb-true n 0 q
  even_of true false c n q h = absurd (true≢false (sym h))
  even_of false b c n q h = absurd (true≢false (sym h))

  even : length digits % 2 ≡ 0
  unfolding formed
  even = rw e (even_of (eqb (get_or s 0 0) 58) (eqb (length (drop 1 s) % 2) 0) (all_digits (drop 1 s)) (length (drop 1 s) % 2) refl f)

  pub unchecked : checked (pairs digits) ≡ false → Says s None
  unfolding record_of
  unchecked k = says_bad s (rw (f, same, k))

  module _ (k : checked (pairs digits) ≡ true) (n high low kind : ℕ) (c : n ≡ pair (get_or digits 0 0) (get_or digits 1 0))
      (p : high ≡ pair (get_or digits 2 0) (get_or digits 3 0)) (q : low ≡ pair (get_or digits 4 0) (get_or digits 5 0))
      (r : kind ≡ pair (get_or digits 6 0) (get_or digits 7 0)) where
    held : count (pairs digits) ≡ n
    held = counted digits n (long digits k) c

    field : (i : ℕ) → i < 5 → get_or (pairs digits) i 0 ≡ pair (get_or digits (2 * i) 0) (get_or digits (2 * i + 1) 0)
    field i h = pairs_at_lem i digits (omega (arith, long digits k))

    -- as long as it should be
    whole : length digits ≡ 2 * n + 10
    whole = omega (arith, full digits k, length_pairs digits, held, even)

    body : (m : ℕ) → m ≡ 2 * n → take n (drop 4 (pairs digits)) ≡ pairs (take m (drop 8 digits))
    body m h = rw (drop_pairs 4 digits, take_pairs n (drop 8 digits), h)

    form : (m : ℕ) → m ≡ 2 * n → record_of s ≡ cond (eqb kind 0) (format.holds (high * 256 + low) (pairs (take m (drop 8 digits)))) (cond (ends kind n (high * 256 + low)) format.end format.bad)
    unfolding record_of typed
    form m h =
        rw (f, same, k, held, body m h, field 1 (omega arith), field 2 (omega arith), field 3 (omega arith), p, q, r)

    pub rec_bytes : (b : Bytes) (m : ℕ) → b.address ≡ high * 256 + low → b.digits.now ≡ take m (drop 8 digits) → m ≡ length digits - 2 - 8 → kind ≡ 0
        → high < 256 → low < 256 → n < 256 → Says s (Some (Holds b))
    rec_bytes b m a d h z hi lo small =
        let twice : m ≡ 2 * n = omega (arith, h, whole) in
        let many : length b.digits.now ≡ 2 * n = ap length d ∙ omega (arith, length-take m (drop 8 digits), length-drop 8 digits, whole, twice) in
        let tenth : drop 8 digits ≡ drop 9 s = ap (drop 8) e ∙ drop-drop 8 1 s in
        let line : length s - 1 ≡ length digits = sym (ap length e ∙ length-drop 1 s) in
        record {
          means = rw (a, d) (sym (form m twice ∙ rw (eq-eqb kind 0 z)));
          within = (
            record {
              place = rw (many, ← twice, ← tenth) (sym d);
              inside = omega (arith, many, whole, line);
              each = omega (arith, many);
              most = omega (arith, many);
            },
            omega (arith, a),
          );
        }

    pub rec_end : kind ≡ 1 → n ≡ 0 → high * 256 + low ≡ 0 → Says s (Some End)
    unfolding ends
    rec_end z e a =
        let some : kind ≡ 0 → ⊥ = λ t. omega arith in
        record {
          means = sym (form (2 * n) refl ∙ rw (ne_eqb kind 0 some, eq-eqb kind 1 z, eq-eqb n 0 e, eq-eqb (high * 256 + low) 0 a));
          within = tt;
        }

    other : (kind ≡ 0 → ⊥) → ends kind n (high * 256 + low) ≡ false → Says s None
    other z e = says_bad s (sym (form (2 * n) refl ∙ rw (ne_eqb kind 0 z, e)))

    pub rec_kind : (kind ≡ 0 → ⊥) → (kind ≡ 1 → ⊥) → Says s None
    unfolding ends
    rec_kind z o = other z (rw (ne_eqb kind 1 o))

    pub rec_long : kind ≡ 1 → (n ≡ 0 → ⊥) → Says s None
    unfolding ends
    rec_long o h = other (λ t. omega arith) (rw (eq-eqb kind 1 o, ne_eqb n 0 h))

    pub rec_placed : kind ≡ 1 → n ≡ 0 → (high * 256 + low ≡ 0 → ⊥) → Says s None
    unfolding ends
    rec_placed o e a = other (λ t. omega arith) (rw (eq-eqb kind 1 o, eq-eqb n 0 e, ne_eqb (high * 256 + low) 0 a))

-- ---- the records of a text

pub empty : records [] ≡ []
unfolding records lines_of
empty = refl

pub as_records : (s l : List ℕ) (ls : List (List ℕ)) → lines_of s ≡ l ∷ ls → records s ≡ record_of l ∷ map record_of ls
unfolding records
as_records s l ls e = rw e

rest_records : (s : List ℕ) → map record_of (lines_of s) ≡ records s
unfolding records
rest_records s = refl

-- what stands within the first line of a text stands within the text
module _ (text line : List ℕ) (start : take (length line) text ≡ line) (h : length line ≤ length text) where
  within_text : (digits : List ℕ) → Within line digits → Within text digits
  within_text digits w =
      let some : length line ≡ 9 + (length line - 9) = omega (arith, w.inside) in
      let tenth : drop 9 line ≡ take (length line - 9) (drop 9 text) =
      ap (drop 9) (sym start ∙ ap (λ (k : ℕ). take k text) some) ∙ drop-take 9 (length line - 9) text in
      let room : length digits ≤ length line - 9 = omega (arith, w.inside) in
      record {
        place = sym (take-take (length digits) (length line - 9) (drop 9 text) room) ∙ ap (take (length digits)) (sym tenth) ∙ w.place;
        inside = omega (arith, w.inside, h);
        each = w.each;
        most = w.most;
      }

  reaches_text : (r : Option Record) → Reaches line r → Reaches text r
  reaches_text None w = tt
  reaches_text (Some (Holds b)) w = (within_text b.digits.now w.0, w.1)
  reaches_text (Some End) w = tt

-- a line cut off, and its record
pub turn : {text line left : List ℕ} {r : Option Record} → Cuts text line left → Says line r → Turn text r left
turn {text} {line} {left} {r} c s =
    record {
      means = as_records text line (lines_of left) c.lines ∙ rw (rest_records left) (ap (λ (x : format.Record). x ∷ records left) (sym s.means));
      within = reaches_text text line c.start (omega (arith, c.apart)) r s.within;
      end = c.end;
      on = c.on;
    }
