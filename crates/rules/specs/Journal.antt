-- 01, "What a call says": the journal's words, how a store lays one, and how they are read and taken off again.
use Rattle.std.specs.Prelude.{Bool, false, List, [], ◌∷◌, ◌++◌, ℕ, zero, suc, ◌+◌, ◌-◌, ◌*◌, ◌/◌, ◌%◌, ◌^◌, ltb, eqb, length, get_or, set, take, drop, replicate}
use Rattle.rules.specs.Machine.{pick, ◌also◌, Kind, cpu, vdp, register, grom, upon, Area, extent, writable, Mem, mem, cells, put, beside}

-- ---- "Journal words: kind times .., plus for kinds 0 (CPU), 1 (VDP), 2 (register) the address times 256 plus the byte that stood there"

-- 02, item 9: "a fourth memory, kind 4"
abbrev pub kind_number : Kind → ℕ
kind_number k = upon k 0 1 2 4

-- "so its words change: kind times 2^29"

unfoldable pub word : Kind → ℕ → ℕ → ℕ
word k a b = kind_number k * 2 ^ 29 + a * 256 + b

-- "kind 3 is a mark and carries the old pc in its low 16 bits"; 02, item 10: "The source flag .. is bit 16 of the mark word"
unfoldable pub mark_word : ℕ → ℕ
mark_word a = 3 * 2 ^ 29 + a

-- ---- a store

-- a word onto the journal
abbrev pub lay : ℕ → Mem → Mem
lay w m = beside (set m.journal m.used w) (suc m.used) m

-- one byte store: the cell, the byte that it puts there, and the byte that stood there
pub record Store : Type 0 where
  pub kind : Kind
  pub at : ℕ
  pub new : ℕ
  pub old : ℕ

abbrev pub store_of : Kind → ℕ → ℕ → Mem → Store
store_of k a b m = record { kind = k; at = a; new = b; old = get_or (cells k m) a 0 }

abbrev pub word_of : Store → ℕ
word_of s = word s.kind s.at s.old

-- the byte into its cell, its word onto the journal
abbrev pub make : Store → Mem → Mem
make s m = lay (word_of s) (put s.kind s.at s.new m)

-- ---- what a word says

pub data Note : Type 0 where
  -- the byte b stood in a cell
  stood : Kind → ℕ → ℕ → Note
  -- a step began at this address, with this source flag above it
  mark : ℕ → Note
  -- there is no such kind
  nothing : Note

-- of a store's word, by the 29 bits under its kind: the address is all that stands above the byte
abbrev pub stood_in : Kind → ℕ → Note
stood_in k low = stood k (low / 256) (low % 256)

-- by its kind and the 29 bits under it
abbrev pub note_of : ℕ → ℕ → Note
note_of zero low = stood_in cpu low
note_of (suc zero) low = stood_in vdp low
note_of (suc (suc zero)) low = stood_in register low
note_of (suc (suc (suc zero))) low = mark low
note_of (suc (suc (suc (suc zero)))) low = stood_in grom low
note_of (suc (suc (suc (suc (suc n))))) low = nothing

unfoldable pub note : ℕ → Note
note w = note_of (w / 2 ^ 29) (w % 2 ^ 29)

-- not "names no cell (pad above >DF, register above 7, VDP above >3FFF) or has a surplus bit": a surplus bit of a store's word is an address out of reach.
-- 02, item 9: nor of "kinds 5 to 7 and kind 4 outside those groups or beyond the image"
abbrev pub sound : Area → Note → Bool
sound z (stood k a b) = ltb a (extent z k) also writable z k a
sound z (mark a) = ltb a 131072
sound z nothing = false

-- ---- words taken off: "takes words from the top down .., restores each, .. zeroes them"

-- a cell gets back the byte that stood there
abbrev pub restore : Note → Mem → Mem
restore (stood k a b) m = put k a b m
restore (mark a) m = m
restore nothing m = m

-- the word at u is zeroed, and no longer used
abbrev pub zero_top : ℕ → Mem → Mem
zero_top u m = beside (set m.journal u 0) u m

-- the top word, where u are used
unfoldable pub undo_top : ℕ → Mem → Mem
undo_top zero m = m
undo_top (suc u) m = zero_top u (restore (note (get_or m.journal u 0)) m)

-- the top n words
unfoldable pub undo : ℕ → Mem → Mem
undo zero m = m
undo (suc n) m = undo_top (undo n m).used (undo n m)

-- ---- words set to 0

-- n words from i on
abbrev pub blank : ℕ → ℕ → List ℕ → List ℕ
blank zero i l = l
blank (suc n) i l = set (blank n (suc i) l) i 0

-- the n words above the used ones: "the journal words it had taken become 0"
abbrev pub blanked : ℕ → Mem → Mem
blanked n m = beside (blank n m.used m.journal) m.used m

-- ---- 02, item 5: whole oldest steps are dropped

-- the caller's words as a journal has them: from the place of the oldest kept word on, and round to it; where no step is dropped, as they stand
unfoldable pub turned : Bool → ℕ → List ℕ → List ℕ
turned ring a j = pick ring (drop (a % length j) j ++ take (a % length j) j) j

-- the used words; and those of the steps before the one that is being made
abbrev pub used_words : Mem → List ℕ
used_words m = take m.used m.journal

abbrev pub older_words : Mem → List ℕ
older_words m = take m.older m.journal

-- "kind 3 is a mark", sound or not
unfoldable pub marks : ℕ → Bool
marks w = eqb (w / 2 ^ 29) 3

-- how many words come before the next mark
abbrev pub until_mark : List ℕ → ℕ
until_mark [] = 0
until_mark (w ∷ ws) = pick (marks w) 0 (suc (until_mark ws))

-- how many words the oldest step has: the first, and those before the next mark. "Lent words with no mark below them are dropped together, as one oldest step."
abbrev pub oldest : List ℕ → ℕ
oldest [] = 0
oldest (w ∷ ws) = suc (until_mark ws)

-- n places on, in a journal of c words: after the last comes the first
abbrev pub place_on : ℕ → ℕ → ℕ → ℕ
place_on zero c a = a
place_on (suc n) c a = place_on n c ((a + 1) % c)

-- the n oldest words are dropped: "Words of dropped steps that aren't yet reused hold 0"
abbrev pub forget : ℕ → Mem → Mem
forget n m =
    mem m.image m.groups m.pad m.vram m.regs (drop n m.journal ++ replicate n 0) (m.used - n) (m.older - n)
    (place_on n (length m.journal) m.place) m.ring
