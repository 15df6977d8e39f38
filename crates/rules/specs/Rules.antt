-- How a rule is written: as a program over six actions, in `do` notation, so that an instruction can be read line by line beside its sentence.
use Rattle.std.specs.Prelude.{Bool, true, false, List, [], ◌∷◌, ◌++◌, ℕ, ◌+◌, ◌%◌, ltb, length, get_or}
use Rattle.rules.specs.Machine.{pick, ◌also◌, Kind, grom, extent, writable, Mem, area, cells, onward, joined}
use Rattle.rules.specs.Answers.{Why, Answer, answer_for, off_grom, no_room, read_only, outside}
use Rattle.rules.specs.Journal.{Store, store_of, make, older_words, oldest, forget}

-- ---- the language

-- all that a rule can do to the machine
pub data Act : Type 0 where
  -- the byte at pc, which moves on
  next : Act
  -- where pc is
  ask : Act
  -- pc set
  jump : ℕ → Act
  -- the byte in a cell
  load : Kind → ℕ → Act
  -- a byte into a cell
  store : Kind → ℕ → ℕ → Act
  -- 02, item 10: a byte to an output, which leaves the machine as it is
  send : ℕ → Act

-- a value, a refusal, or an action and how the rule goes on with what it gives
pub data Rule (A : Type 0) : Type 0 where
  give : A → Rule A
  refuse : Why → Rule A
  act : Act → (ℕ → Rule A) → Rule A

-- a rule that gives no value
abbrev pub Deed : Type 0
Deed = Rule (Unit {0})

-- one rule after the other
infixl 1 ◌>>=◌
unfoldable pub ◌>>=◌ : {A B : Type 0} → Rule A → (A → Rule B) → Rule B
◌>>=◌ (give a) f = f a
◌>>=◌ (refuse why) f = refuse why
◌>>=◌ (act q k) f = act q (λ v. k v >>= f)

infixl 1 ◌>>◌
abbrev pub ◌>>◌ : {A B : Type 0} → Rule A → Rule B → Rule B
◌>>◌ r s = r >>= (λ _. s)

-- ---- what it does

-- what a rule leaves: its value, pc and memories; or a refusal, and the memories as they then stood
pub data Out (A : Type 0) : Type 0 where
  got : A → ℕ → Mem → Out A
  stopped : Answer → Mem → Out A

-- "Then a step's reads and stores go in the order of this paper; the first cause met is the answer."
abbrev pub then : {A B : Type 0} → Out A → (A → ℕ → Mem → Out B) → Out B
then (got a pc m) k = k a pc m
then (stopped n m) k = stopped n m

-- a journal word is left
abbrev pub room : Mem → Bool
room m = ltb m.used (length m.journal)

-- 02, item 5: "when a step needs room, let whole oldest steps be dropped and their words used again, as few as will do": where none is left, the oldest
-- step's are, which is enough. The step's own words are never dropped
unfoldable pub spare : Mem → Mem
spare m = pick (room m) m (pick (m.ring also ltb 0 m.older) (forget (oldest (older_words m)) m) m)

-- one action on a program address and the memories. "For one store, 4, 5, .. or 13 comes before 10." 02, item 9: 24 "just after 6 for that byte, both before 10"
unfoldable pub perform : Act → ℕ → Mem → Out ℕ
perform next pc m = pick (ltb pc (length m.image)) (got (get_or m.image pc 0) (onward pc) m) (stopped (answer_for (off_grom pc)) m)
perform ask pc m = got pc pc m
perform (jump a) pc m = got 0 (a % 65536) m
perform (load k a) pc m = pick (ltb a (extent (area m) k)) (got (get_or (cells k m) a 0) pc m) (stopped (answer_for (outside k a)) m)
perform (store k a b) pc m =
    pick (ltb a (extent (area m) k))
    (pick (writable (area m) k a)
    (pick (room (spare m)) (got 0 pc (make (store_of k a (b % 256) m) (spare m))) (stopped (answer_for no_room) (spare m)))
    (stopped (answer_for read_only) m))
    (stopped (answer_for (outside k a)) m)
perform (send b) pc m = got 0 pc m

unfoldable pub exec : {A : Type 0} → Rule A → ℕ → Mem → Out A
exec (give a) pc m = got a pc m
exec (refuse why) pc m = stopped (answer_for why) m
exec (act q k) pc m = then (perform q pc m) (λ v pc₁ m₁. exec (k v) pc₁ m₁)

-- a rule after what went before it
unfoldable pub after : {A B : Type 0} → Out A → Rule B → Out B
after o r = then o (λ _ pc m. exec r pc m)

-- a value beside what went before it, as the contracts of the code have it
unfoldable pub valued : {A : Type 0} → A → Out (Unit {0}) → Out A
valued v (got a pc m) = got v pc m
valued v (stopped n m) = stopped n m

-- ---- the stores that it makes, in their order

unfoldable pub act_stores : Act → Mem → List Store
act_stores next m = []
act_stores ask m = []
act_stores (jump a) m = []
act_stores (load k a) m = []
act_stores (store k a b) m =
    pick (ltb a (extent (area m) k)) (pick (writable (area m) k a) (pick (room (spare m)) (store_of k a (b % 256) m ∷ []) []) []) []
act_stores (send b) m = []

abbrev pub stores_then : {A : Type 0} → Out A → (A → ℕ → Mem → List Store) → List Store
stores_then (got a pc m) f = f a pc m
stores_then (stopped n m) f = []

unfoldable pub stores : {A : Type 0} → Rule A → ℕ → Mem → List Store
stores (give a) pc m = []
stores (refuse why) pc m = []
stores (act q k) pc m = act_stores q m ++ stores_then (perform q pc m) (λ v pc₁ m₁. stores (k v) pc₁ m₁)

-- ---- the bytes that it sends, in their order

unfoldable pub act_sent : Act → List ℕ
act_sent next = []
act_sent ask = []
act_sent (jump a) = []
act_sent (load k a) = []
act_sent (store k a b) = []
act_sent (send b) = b ∷ []

abbrev pub sent_then : {A : Type 0} → Out A → (A → ℕ → Mem → List ℕ) → List ℕ
sent_then (got a pc m) f = f a pc m
sent_then (stopped n m) f = []

unfoldable pub sent : {A : Type 0} → Rule A → ℕ → Mem → List ℕ
sent (give a) pc m = []
sent (refuse why) pc m = []
sent (act q k) pc m = act_sent q ++ sent_then (perform q pc m) (λ v pc₁ m₁. sent (k v) pc₁ m₁)

-- by a rule after what went before it
unfoldable pub sends : {A B : Type 0} → Out A → Rule B → List ℕ
sends o r = sent_then o (λ _ pc m. sent r pc m)

-- ---- the words of which the instructions are made

abbrev pub next_byte : Rule ℕ
next_byte = act next give

abbrev pub here : Rule ℕ
here = act ask give

abbrev pub goto : ℕ → Deed
goto a = act (jump a) (λ _. give tt)

abbrev pub peek : Kind → ℕ → Rule ℕ
peek k a = act (load k a) give

-- the GROM byte at an address
abbrev pub grom_byte : ℕ → Rule ℕ
grom_byte a = peek grom a

abbrev pub poke : Kind → ℕ → ℕ → Deed
poke k a b = act (store k a b) (λ _. give tt)

abbrev pub emit : ℕ → Deed
emit b = act (send b) (λ _. give tt)

-- a refusal, unless a test holds
unfoldable pub need : Bool → Why → Deed
need true why = give tt
need false why = refuse why

-- the two bytes at pc, as a word
unfoldable pub next_word : Rule ℕ
next_word = do
  high ← next_byte
  low ← next_byte
  give (joined high low)

-- a word in two cells
unfoldable pub peek_word : Kind → ℕ → Rule ℕ
peek_word k a = do
  high ← peek k a
  low ← peek k (a + 1)
  give (joined high low)
