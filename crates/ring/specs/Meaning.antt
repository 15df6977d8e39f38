-- What the journal's words and the book beside them say, in the words of the rules.
use Rattle.std.specs.Prelude.{◌≡◌, Bool, true, false, List, [], ◌∷◌, Option, None, Some, ℕ, ◌+◌, ◌-◌, ◌%◌, ◌^◌, ltb, length, get_or, take}
use Rattle.std.specs.Borrow.{MutBor}
use denote.Triple.Both.{Both}
use Rattle.rules.specs.Machine.{pick, Mem, mem}
use Rattle.rules.specs.Journal.{turned, until_mark, place_on, forget, lay}
use Rattle.rules.specs.Rules.{room, spare}
use Rattle.ring.specs.declared.book.Book.{Book}

-- the caller's words and their book, beside the cells of any machine
abbrev pub booked : List ℕ → Book → Mem → Mem
booked j b x =
    mem x.image x.groups x.pad x.vram x.regs (turned b.ring b.place j) b.used b.older b.place b.ring

-- where among the caller's n words the i-th of the journal stands
unfoldable pub slot_of : Bool → ℕ → ℕ → ℕ → ℕ
slot_of ring a n i = pick ring ((a + i) % n) i

-- the words and the book become what a function makes of them
abbrev pub Becomes : (Mem → Mem) → Both (MutBor (List ℕ)) (MutBor (List ℕ)) → Book → Book → Type 0
Becomes f j b c = (x : Mem) → booked j.exit.now c x ≡ f (booked j.entry.now b x)

-- ---- a step in a ring. Its words are laid from the first free place on, and over older words where no other place is left: so what the rules have dropped is
-- told by how many there are

-- a journal beside no cells
abbrev pub alone : List ℕ → ℕ → ℕ → ℕ → Bool → Mem
alone l u o a ring = mem [] 0 [] [] [] l u o a ring

-- of o older words in a journal of n, k words are laid over so many; and so many are left
abbrev pub laid_over : ℕ → ℕ → ℕ → ℕ
laid_over n o k = o + k - n

abbrev pub left : ℕ → ℕ → ℕ → ℕ
left n o k = o - laid_over n o k

-- those, and the step's: l are the words from the step's first on, round to it, and a is where the oldest stood when it began
abbrev pub left_of : List ℕ → ℕ → ℕ → ℕ → Mem
left_of l o k a =
    alone (turned true (length l - left (length l) o k) l) (left (length l) o k + k) (left (length l) o k) (place_on (laid_over (length l) o k) (length l) a) true

-- the first of those left may be the rest of a step that was laid over
abbrev pub rest : List ℕ → ℕ → ℕ → ℕ → ℕ
rest l o k a = pick (ltb 0 (laid_over (length l) o k)) (until_mark (take (left_of l o k a).older (left_of l o k a).journal)) 0

-- "whole oldest steps"
abbrev pub ringed : List ℕ → ℕ → ℕ → ℕ → Mem
ringed l o k a = forget (rest l o k a) (left_of l o k a)

-- ---- the ring beside the journal: the place of the step's first word, and the number of older words. A plain journal has none

-- as a list, of that place, if there is one, and that number
abbrev pub listed : Option ℕ → ℕ → List ℕ
listed None o = []
listed (Some first) o = first ∷ o ∷ []

unfoldable pub rings : List ℕ → Bool
rings r = ltb 1 (length r)

-- the words from the step's first on
unfoldable pub own : List ℕ → List ℕ → List ℕ
own j r = turned true (get_or r 0 0 % 2 ^ 61) j

-- the journal as the rules have it, when a step has come to u: its own words in a ring, all in a plain journal. What a plain journal has for o and a stays
unfoldable pub seen : List ℕ → List ℕ → ℕ → ℕ → ℕ → Mem
seen j r o a u = pick (rings r) (ringed (own j r) (get_or r 1 0) u a) (alone j u o a false)

-- beside the cells of any machine
abbrev pub carrying : Mem → Mem → Mem
carrying s x = mem x.image x.groups x.pad x.vram x.regs s.journal s.used s.older s.place s.ring

-- room is left or made for a word w, and it is laid
abbrev pub Laid : ℕ → Mem → Mem → Type 0
Laid w m c = (room (spare m) ≡ true) × (c ≡ lay w (spare m))

abbrev pub Lays : ℕ → Both (MutBor (List ℕ)) (MutBor (List ℕ)) → Option ℕ → ℕ → Type 0
Lays w j first u = (o a : ℕ) → Laid w (seen j.entry.now (listed first o) o a u) (seen j.exit.now (listed first o) o a (u + 1))

-- what is beside a journal of n words where a step begins by the book b
abbrev pub lent_by : ℕ → Book → List ℕ
lent_by n b = pick b.ring ((b.place + b.used) % n ∷ b.used ∷ []) []

-- the book of that journal at the end of such a step
abbrev pub Closes : Both (MutBor (List ℕ)) (MutBor (List ℕ)) → Book → ℕ → Book → Type 0
Closes j b u c =
    booked j.exit.now c (alone [] 0 0 0 false) ≡ seen j.entry.now (lent_by (length j.entry.now) b) b.used b.place u
