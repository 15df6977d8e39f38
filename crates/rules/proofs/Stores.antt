-- A list of stores: what it does to the cells, the journal and the used count.
use mathlib.Core.Path.{◌≡◌, refl, ◌∙◌, ap, ap₂, sym}
use mathlib.Core.Bool.{true}
use mathlib.Core.List.{List, [], ◌∷◌, ◌++◌, map, append-nil}
use Prim.Native.Nat.{ℕ, ◌+◌, ◌≤◌, ◌<◌}
use native.Mathlib.Omega.{arith}
use lib.ListN.{length, get_or, set, take, length-set}
use lib.Seq.{sets, take-suc-set, take-set-le, append_snoc}
use Rattle.rules.specs.Machine.{Kind, cpu, vdp, register, grom, upon, area_of, extent, writable, Mem, area, cells, put}
use Rattle.rules.specs.Journal.{lay, Store, word_of, make, older_words}
use Rattle.rules.specs.Rules.{Out, got, stopped}

-- the memories that an execution leaves
abbrev pub mem_of : {A : Type 0} → Out A → Mem
mem_of (got a pc m) = m
mem_of (stopped n m) = m

-- a store can be made
pub record Sound (s : Store) (m : Mem) : Type 0 where
  pub inside : s.at < extent (area m) s.kind
  pub allowed : writable (area m) s.kind s.at ≡ true
  pub byte : s.new < 256
  pub word_left : m.used < length m.journal
  pub was : s.old ≡ get_or (cells s.kind m) s.at 0

-- `Made m ss m'`: from m, the stores ss, each sound where it is made, lead to m'
pub data Made : Mem → List Store → Mem → Type 0 where
  none : {m : Mem} → Made m [] m
  one : {s : Store} {ss : List Store} {m m' : Mem} → Sound s m → Made (make s m) ss m' → Made m (s ∷ ss) m'

pub made_append : {m₀ m₁ m₂ : Mem} {ss ts : List Store} → Made m₀ ss m₁ → Made m₁ ts m₂ → Made m₀ (ss ++ ts) m₂
made_append none k = k
made_append (one h t) k = one h (made_append t k)

-- ---- what a list of stores leaves

-- what is so of each of four is so of the one that a kind picks
upon_any : {A : Type 0} (Q : A → Type 0) (k : Kind) {x y z t : A} → Q x → Q y → Q z → Q t → Q (upon k x y z t)
upon_any Q cpu x y z t = x
upon_any Q vdp x y z t = y
upon_any Q register x y z t = z
upon_any Q grom x y z t = t

-- a memory that a byte is put into has one cell set, and the others stay
pub put_cells : (P : List ℕ → List ℕ → Type 0) → ((x : List ℕ) → P x x) → (a b : ℕ) → ((x : List ℕ) → P (set x a b) x)
    → (k l : Kind) (m : Mem) → P (cells k (put l a b m)) (cells k m)
put_cells P same a b put cpu l m = upon_any (λ x. P x m.pad) l (put _) (same _) (same _) (same _)
put_cells P same a b put vdp l m = upon_any (λ x. P x m.vram) l (same _) (put _) (same _) (same _)
put_cells P same a b put register l m = upon_any (λ x. P x m.regs) l (same _) (same _) (put _) (same _)
put_cells P same a b put grom l m = upon_any (λ x. P x m.image) l (same _) (same _) (same _) (put _)

-- the writable groups stay
pub groups_after : {m m' : Mem} {ss : List Store} → Made m ss m' → m'.groups ≡ m.groups
groups_after none = refl
groups_after (one h t) = groups_after t

-- and so do the words of older steps, their place and the mode
pub older_after : {m m' : Mem} {ss : List Store} → Made m ss m' → m'.older ≡ m.older
older_after none = refl
older_after (one h t) = older_after t

pub place_after : {m m' : Mem} {ss : List Store} → Made m ss m' → m'.place ≡ m.place
place_after none = refl
place_after (one h t) = place_after t

pub ring_after : {m m' : Mem} {ss : List Store} → Made m ss m' → m'.ring ≡ m.ring
ring_after none = refl
ring_after (one h t) = ring_after t

pub older_words_after : {m m' : Mem} {ss : List Store} → m.older ≤ m.used → Made m ss m' → older_words m' ≡ older_words m
older_words_after l none = refl
older_words_after {m} l (one {s} h t) = older_words_after (omega arith) t ∙ take-set-le m.older m.journal m.used (word_of s) l

-- used: one word more for each
pub used_after : {m m' : Mem} {ss : List Store} → Made m ss m' → m'.used ≡ m.used + length ss
used_after none = omega arith
used_after (one h t) = omega (arith, used_after t)

-- the journal: their words are laid from `used` on, and no other word changes
pub journal_after : {m m' : Mem} {ss : List Store} → Made m ss m' → m'.journal ≡ sets m.journal m.used (map word_of ss)
journal_after none = refl
journal_after (one h t) = journal_after t

-- so the used words are those that were, and then those of the stores
pub words_after : {m m' : Mem} {ss : List Store} → Made m ss m' → take m'.used m'.journal ≡ take m.used m.journal ++ map word_of ss
words_after none = sym (append-nil _)
words_after {m} (one {s} {ss} h t) =
    words_after t ∙ ap (λ (l : List ℕ). l ++ map word_of ss) (take-suc-set m.journal m.used (word_of s) h.word_left)
    ∙ append_snoc (take m.used m.journal) (word_of s) (map word_of ss)

-- the cells: the bytes are put into them, one after the other
abbrev pub put_all : List Store → Mem → Mem
put_all [] m = m
put_all (s ∷ ss) m = put_all ss (put s.kind s.at s.new m)

put_all_lay : (ss : List Store) (w : ℕ) (m : Mem) → put_all ss (lay w m) ≡ lay w (put_all ss m)
put_all_lay [] w m = refl
put_all_lay (s ∷ ss) w m = put_all_lay ss w (put s.kind s.at s.new m)

pub cells_after : {m m' : Mem} {ss : List Store} (k : Kind) → Made m ss m' → cells k m' ≡ cells k (put_all ss m)
cells_after k none = refl
cells_after {m} k (one {s} {ss} h t) =
    cells_after k t ∙ ap (cells k) (put_all_lay ss (word_of s) (put s.kind s.at s.new m))

-- the lengths: none changes
length_put : (k l : Kind) (a b : ℕ) (m : Mem) → length (cells k (put l a b m)) ≡ length (cells k m)
length_put k l a b m = put_cells (λ x y. length x ≡ length y) (λ x. refl) a b (λ x. length-set x a b) k l m

pub lengths_after : {m m' : Mem} {ss : List Store} (k : Kind) → Made m ss m' → length (cells k m') ≡ length (cells k m)
lengths_after k none = refl
lengths_after {m} k (one {s} h t) = lengths_after k t ∙ length_put k s.kind s.at s.new m

-- so what of GROM there is stays, though its bytes may not
pub area_after : {m m' : Mem} {ss : List Store} → Made m ss m' → area m' ≡ area m
area_after t = ap₂ area_of (lengths_after grom t) (groups_after t)

pub journal_length : {m m' : Mem} {ss : List Store} → Made m ss m' → length m'.journal ≡ length m.journal
journal_length none = refl
journal_length {m} (one {s} h t) = journal_length t ∙ length-set m.journal m.used (word_of s)

-- and no more words are used than there are
pub used_fits : {m m' : Mem} {ss : List Store} → Made m ss m' → m.used ≤ length m.journal → m'.used ≤ length m'.journal
used_fits none h = h
used_fits {m} (one {s} k t) h = used_fits t (rw (length-set m.journal m.used (word_of s)) k.word_left)
