-- Journal words read back, and stores undone: what a refused step has taken, put back word by word, is the state before it with 0 in those words.
use mathlib.Core.Path.{◌≡◌, refl, ◌∙◌, ap, ap₂, sym}
use mathlib.Core.Bool.{Bool, true, false}
use mathlib.Core.List.{List, [], ◌∷◌}
use mathlib.Core.Logic.{◌≢◌}
use Prim.Native.Nat.{ℕ, zero, suc, ◌+◌, ◌*◌, ◌/◌, ◌%◌, ◌^◌, ◌≤◌, ◌<◌}
use native.Mathlib.Nat.{le_refl, lt_of_lt_of_le, div-eq_of_lt}
use native.Mathlib.Omega.{arith}
use native.Mathlib.Decide.{ℕ_discrete}
use lib.Dec.{ltb, lit≤}
use lib.Pow.{pow_mono}
use lib.ListN.{length, get_or, set, length-set}
use lib.Seq.{set-set, set-get_or, set_comm, get_or-set_same, get_or-set_other}
use borrow.Author.Tests.{eqb-true, ltb-true, ltb-false}
use Rattle.rules.specs.Machine.{bit, Kind, cpu, vdp, register, grom, reach, Area, extent, writable, Mem, mem, area, cells, put, beside}
use Rattle.rules.specs.Journal.{kind_number, word, mark_word, lay, Store, word_of, make, Note, stood, mark, nothing, stood_in, note_of, note, restore, zero_top, undo_top, undo, blank, blanked}
use Rattle.rules.specs.Demands.{Bytes}
use Rattle.rules.proofs.Stores.{Sound, Made, none, one, put_cells}

-- ---- a word is read back as it was laid

pub reach_small : (k : Kind) → reach k ≤ 16384
reach_small cpu = lit≤ tt
reach_small vdp = lit≤ tt
reach_small register = lit≤ tt
reach_small grom = lit≤ tt

-- a bit that is set in a byte is one of its eight
bit_of_byte : (n w : ℕ) → w < 256 → bit n w ≡ true → n < 8
unfolding bit
bit_of_byte n w h e = go (ltb n 8) refl
  where
    go : (c : Bool) → ltb n 8 ≡ c → n < 8
    go true l = ltb-true n 8 l
    go false l =
        let big : 2 ^ 8 ≤ 2 ^ n = pow_mono (ltb-false n 8 l) in
        let none : w / 2 ^ n ≡ 0 = div-eq_of_lt (lt_of_lt_of_le h big) in
        absurd (omega (arith, eqb-true (w / 2 ^ n % 2) 1 e))

pub bit_beyond : (n w : ℕ) → w < 256 → 8 ≤ n → bit n w ≡ false
bit_beyond n w h l = go (bit n w) refl
  where
    go : (c : Bool) → bit n w ≡ c → c ≡ false
    go true e = absurd (omega (arith, bit_of_byte n w h e))
    go false e = refl

-- so a cell that may be stored into has an address of 16 bits
pub stored_small : (z : Area) (k : Kind) (a : ℕ) → z.groups < 256 → a < extent z k → writable z k a ≡ true → a < 65536
stored_small z cpu a b h e = omega arith
stored_small z vdp a b h e = omega arith
stored_small z register a b h e = omega arith
stored_small z grom a b h e = omega (arith, bit_of_byte (a / 8192) z.groups b e)

pub note_of_kind : (k : Kind) (low : ℕ) → note_of (kind_number k) low ≡ stood_in k low
note_of_kind cpu low = refl
note_of_kind vdp low = refl
note_of_kind register low = refl
note_of_kind grom low = refl

pub note_word : (k : Kind) (a b : ℕ) → a < 65536 → b < 256 → note (word k a b) ≡ stood k a b
unfolding note word
note_word k a b h l =
    let top : (kind_number k * 2 ^ 29 + a * 256 + b) / 2 ^ 29 ≡ kind_number k = omega arith in
    let low : (kind_number k * 2 ^ 29 + a * 256 + b) % 2 ^ 29 ≡ a * 256 + b = omega arith in
    let x : (a * 256 + b) / 256 ≡ a = omega arith in
    let y : (a * 256 + b) % 256 ≡ b = omega arith in
    ap₂ note_of top low ∙ note_of_kind k (a * 256 + b) ∙ ap₂ (stood k) x y

pub note_mark : (a : ℕ) → a < 131072 → note (mark_word a) ≡ mark a
unfolding note mark_word
note_mark a h =
    let top : (3 * 2 ^ 29 + a) / 2 ^ 29 ≡ 3 = omega arith in
    let low : (3 * 2 ^ 29 + a) % 2 ^ 29 ≡ a = omega arith in
    rw (top, low)

-- ---- bytes stay bytes

bytes_set : (l : List ℕ) (j b : ℕ) → ((i : ℕ) → get_or l i 0 < 256) → b < 256 → (i : ℕ) → get_or (set l j b) i 0 < 256
bytes_set [] j b h l i = h i
bytes_set (x ∷ xs) zero b h l zero = l
bytes_set (x ∷ xs) zero b h l (suc i) = h (suc i)
bytes_set (x ∷ xs) (suc j) b h l zero = h zero
bytes_set (x ∷ xs) (suc j) b h l (suc i) = bytes_set xs j b (λ n. h (suc n)) l i

pub bytes_put : (l : Kind) (a b : ℕ) (m : Mem) → b < 256 → Bytes m → Bytes (put l a b m)
bytes_put l a b m x h = (
  λ k n. put_cells (λ y z. ((i : ℕ) → get_or z i 0 < 256) → (i : ℕ) → get_or y i 0 < 256) (λ y p. p) a b (λ y p. bytes_set y a b p x) k l m (h.0 k) n,
  h.1,
)

bytes_make : (s : Store) (m : Mem) → Sound s m → Bytes m → Bytes (make s m)
bytes_make s m h b = bytes_put s.kind s.at s.new m h.byte b

pub bytes_after : {m m' : Mem} {ss : List Store} → Made m ss m' → Bytes m → Bytes m'
bytes_after none b = b
bytes_after {m} (one {s} h t) b = bytes_after t (bytes_make s m h b)

pub old_byte_lem : (s : Store) (m : Mem) → Sound s m → Bytes m → s.old < 256
old_byte_lem s m h b = rw h.was (b.0 s.kind s.at)

-- so the word of a store that was made is read back
pub note_store : (s : Store) (m : Mem) → Sound s m → Bytes m → note (word_of s) ≡ stood s.kind s.at s.old
note_store s m h b =
    note_word s.kind s.at s.old (stored_small (area m) s.kind s.at b.1 h.inside h.allowed) (old_byte_lem s m h b)

-- ---- which words `blank` sets to 0

-- those below it stay
pub blank_below : (n i : ℕ) (l : List ℕ) (j : ℕ) → j < i → get_or (blank n i l) j 0 ≡ get_or l j 0
blank_below zero i l j h = refl
blank_below (suc n) i l j h =
    let ne : j ≢ i = omega arith in
    get_or-set_other (blank n (suc i) l) i j 0 0 ne ∙ blank_below n (suc i) l j (omega arith)

-- those above it stay
pub blank_above : (n i : ℕ) (l : List ℕ) (j : ℕ) → i + n ≤ j → get_or (blank n i l) j 0 ≡ get_or l j 0
blank_above zero i l j h = refl
blank_above (suc n) i l j h =
    let ne : j ≢ i = omega arith in
    get_or-set_other (blank n (suc i) l) i j 0 0 ne ∙ blank_above n (suc i) l j (omega arith)

zeroed : (l : List ℕ) (i : ℕ) → get_or (set l i 0) i 0 ≡ 0
zeroed [] i = refl
zeroed (x ∷ xs) zero = refl
zeroed (x ∷ xs) (suc i) = zeroed xs i

-- and each of them is 0
pub blank_within : (n i : ℕ) (l : List ℕ) (j : ℕ) → i ≤ j → j < i + n → get_or (blank n i l) j 0 ≡ 0
blank_within zero i l j h k = absurd (omega arith)
blank_within (suc n) i l j h k = go (ℕ_discrete j i) (λ x. blank_within n (suc i) l j x)
  where
    go : Dec (j ≡ i) → (suc i ≤ j → j < suc i + n → get_or (blank n (suc i) l) j 0 ≡ 0) → get_or (set (blank n (suc i) l) i 0) j 0 ≡ 0
    go (yes e) f = rw e (zeroed (blank n (suc i) l) i)
    go (no ne) f = get_or-set_other (blank n (suc i) l) i j 0 0 ne ∙ f (omega arith) (omega arith)

pub length_blank : (n i : ℕ) (l : List ℕ) → length (blank n i l) ≡ length l
length_blank zero i l = refl
length_blank (suc n) i l = length-set (blank n (suc i) l) i 0 ∙ length_blank n (suc i) l

pub set_blank : (n i : ℕ) (l : List ℕ) (j w z : ℕ) → j < i → set (blank n i (set l j w)) j z ≡ set (blank n i l) j z
set_blank zero i l j w z h = set-set l j w z
set_blank (suc n) i l j w z h =
    let ne : i ≢ j = omega arith in
    set_comm (blank n (suc i) (set l j w)) i j 0 z ne
    ∙ ap (λ (x : List ℕ). set x i 0) (set_blank n (suc i) l j w z (omega arith))
    ∙ sym (set_comm (blank n (suc i) l) i j 0 z ne)

-- ---- the rollback: from the top word down, each word's cell gets back what stood there

put_back : (k : Kind) (a b : ℕ) (m : Mem) → put k a (get_or (cells k m) a 0) (put k a b m) ≡ m
put_back k a b m = go k (set-set (cells k m) a b _ ∙ set-get_or (cells k m) a 0)
  where
    go : (k : Kind) → set (set (cells k m) a b) a (get_or (cells k m) a 0) ≡ cells k m → put k a (get_or (cells k m) a 0) (put k a b m) ≡ m
    go cpu e = ap (λ (l : List ℕ). mem m.image m.groups l m.vram m.regs m.journal m.used m.older m.place m.ring) e
    go vdp e = ap (λ (l : List ℕ). mem m.image m.groups m.pad l m.regs m.journal m.used m.older m.place m.ring) e
    go register e = ap (λ (l : List ℕ). mem m.image m.groups m.pad m.vram l m.journal m.used m.older m.place m.ring) e
    go grom e = ap (λ (l : List ℕ). mem l m.groups m.pad m.vram m.regs m.journal m.used m.older m.place m.ring) e

pub restore_beside : (x : Note) (j : List ℕ) (u : ℕ) (m : Mem) → restore x (beside j u m) ≡ beside j u (restore x m)
restore_beside (stood k a b) j u m = refl
restore_beside (mark a) j u m = refl
restore_beside nothing j u m = refl

-- a word laid on top, with n blank words above it: it is read and taken off
pub undo_lay : (n w : ℕ) (x : Note) (m : Mem) → note w ≡ x → m.used < length m.journal
    → undo_top (suc m.used) (blanked n (lay w m)) ≡ beside (blank (suc n) m.used m.journal) m.used (restore x m)
unfolding undo_top
undo_lay n w x m e h =
    let u : ℕ = m.used in
    let j : List ℕ = blank n (suc u) (set m.journal u w) in
    let top : get_or j u 0 ≡ w = blank_below n (suc u) (set m.journal u w) u (le_refl (suc u)) ∙ get_or-set_same m.journal u w 0 h in
    ap (λ (y : Note). zero_top u (restore y (beside j (suc u) m))) (ap note top ∙ e)
    ∙ ap (zero_top u) (restore_beside x j (suc u) m)
    ∙ ap (λ (l : List ℕ). beside l u (restore x m)) (set_blank n (suc u) m.journal u w 0 (le_refl (suc u)))

undo_make : (n : ℕ) (s : Store) (m : Mem) → Bytes m → Sound s m → undo_top (suc m.used) (blanked n (make s m)) ≡ blanked (suc n) m
undo_make n s m b h =
    let k : Kind = s.kind in
    undo_lay n (word_of s) (stood k s.at s.old) (put k s.at s.new m) (note_store s m h b) h.word_left
    ∙ ap (λ (x : Mem). beside (blank (suc n) m.used m.journal) m.used x)
    (ap (λ (y : ℕ). put k s.at y (put k s.at s.new m)) h.was ∙ put_back k s.at s.new m)

pub rollback : {m m' : Mem} {ss : List Store} → Bytes m → Made m ss m' → undo (length ss) m' ≡ blanked (length ss) m
unfolding undo
rollback b none = refl
rollback {m} b (one {s} {ss} h t) =
    ap (λ (x : Mem). undo_top x.used x) (rollback (bytes_make s m h b) t) ∙ undo_make (length ss) s m b h
