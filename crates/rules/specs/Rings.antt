-- Facts of 02, item 5: calls over a small journal, and the answers, the words and the place that must come out.
use Rattle.std.specs.Prelude.{Bool, true, false, List, [], ◌∷◌, ◌++◌, ℕ, eqb, replicate}
use Rattle.rules.specs.Machine.{◌also◌, cpu, vdp, register, size, group, mem, State, state}
use Rattle.rules.specs.Journal.{turned}
use Rattle.rules.specs.Calls.{instruction, answer, left}
use Rattle.rules.specs.Demands.{Op, forth, aback, reply}
use Rattle.rules.specs.Cards.{Code, code, burnt}

-- a journal as the caller has it
pub record Book : Type 0 where
  pub words : List ℕ
  pub used : ℕ
  pub place : ℕ

abbrev pub book : List ℕ → ℕ → ℕ → Book
book ws u a = record { words = ws; used = u; place = a }

pub record Case : Type 0 where
  -- given: the image's bytes, pc, whether steps are dropped, the journal, and the calls
  pub image : Code
  pub from : ℕ
  pub ring : Bool
  pub lent : Book
  pub calls : List Op
  -- to come out: the answer of each call, pc, and the journal
  pub answers : List ℕ
  pub pc : ℕ
  pub left : Book

-- ---- the test

abbrev pub equal : List ℕ → List ℕ → Bool
equal [] [] = true
equal [] (y ∷ ys) = false
equal (x ∷ xs) [] = false
equal (x ∷ xs) (y ∷ ys) = eqb x y also equal xs ys

abbrev pub comes_out : Case → State → Bool
comes_out c s =
    eqb s.pc c.pc also eqb s.mem.used c.left.used also eqb s.mem.place c.left.place
    also equal s.mem.journal (turned c.ring s.mem.place c.left.words)

-- the calls, one after the other, each with its answer
abbrev pub answering : Case → List Op → List ℕ → State → Bool
answering c [] [] s = comes_out c s
answering c [] (a ∷ rest) s = false
answering c (o ∷ os) [] s = false
answering c (o ∷ os) (a ∷ rest) s = eqb (answer (reply o s)).number a also answering c os rest (left (reply o s))

-- other cells 0, an image of one group
abbrev pub given : Case → State
given c =
    state c.from false (mem (burnt (c.image ∷ []) (replicate group 0)) 0 (replicate (size cpu) 0) (replicate (size vdp) 0) (replicate (size register) 0)
    (turned c.ring c.lent.place c.lent.words) c.lent.used c.lent.used c.lent.place c.ring)

unfoldable pub passes : Case → Bool
passes c = answering c c.calls c.answers (given c)

unfoldable pub every_passes : List Case → Bool
every_passes [] = true
every_passes (c ∷ cs) = passes c also every_passes cs

-- ---- the facts

-- INC of 00, which takes three words, and BR to 0, which takes two, again and again: their marks, and the words of the status and of 00
abbrev pub loop : Code
loop = code 4 0x90004000 0

abbrev pub inc : ℕ
inc = 0x60000000

abbrev pub br : ℕ
br = 0x60000002

abbrev pub stat : ℕ
stat = 0x7CC4

abbrev pub going : ℕ → Bool → Book → List Op → List ℕ → ℕ → Book → Case
going pc ring lent calls answers pc₁ left =
    record { image = loop; from = pc; ring = ring; lent = lent; calls = calls; answers = answers; pc = pc₁; left = left }

-- n steps, n step-backs, n accepted calls
abbrev pub steps : ℕ → List Op
steps n = replicate n (forth instruction)

abbrev pub backs : ℕ → List Op
backs n = replicate n aback

abbrev pub fine : ℕ → List ℕ
fine n = replicate n 0

abbrev pub empty : ℕ → Book
empty n = book (replicate n 0) 0 0

abbrev pub ring_facts : List Case
ring_facts =
    -- seven words. "when a step needs room": the third step's last word takes the room of the first, and the fourth fills the journal and drops none
    going 0 true (empty 7) (steps 2) (fine 2) 0 (book (inc ∷ 0x7C00 ∷ 0 ∷ br ∷ stat ∷ 0 ∷ 0 ∷ []) 5 0)
    ∷ going 0 true (empty 7) (steps 3) (fine 3) 2 (book (1 ∷ 0 ∷ 0 ∷ br ∷ stat ∷ inc ∷ stat ∷ []) 5 3)
    ∷ going 0 true (empty 7) (steps 4) (fine 4) 0 (book (1 ∷ br ∷ stat ∷ br ∷ stat ∷ inc ∷ stat ∷ []) 7 3)
    -- "Words of dropped steps that aren't yet reused hold 0": the fifth drops two steps, and needs five words of six
    ∷ going 0 true (empty 7) (steps 5) (fine 5) 2 (book (0 ∷ br ∷ stat ∷ inc ∷ stat ∷ 2 ∷ 0 ∷ []) 5 1)
    -- "stepping back past the oldest answers 12"
    ∷ going 0 true (empty 7) (steps 5 ++ backs 3) (fine 7 ++ 12 ∷ []) 2 (book (replicate 7 0) 0 1)
    -- exactly full: none is dropped
    ∷ going 0 true (empty 5) (steps 2) (fine 2) 0 (book (inc ∷ 0x7C00 ∷ 0 ∷ br ∷ stat ∷ []) 5 0)
    -- "On request": else the third is refused, and the place is not looked at
    ∷ going 0 false (book (replicate 7 0) 0 9) (steps 3) (0 ∷ 0 ∷ 10 ∷ []) 0 (book (inc ∷ 0x7C00 ∷ 0 ∷ br ∷ stat ∷ 0 ∷ 0 ∷ []) 5 9)
    -- "a refused step, 10 included, has still lost them": in two words BR is kept, and INC needs three
    ∷ going 2 true (empty 2) (steps 2) (0 ∷ 10 ∷ []) 0 (book (0 ∷ 0 ∷ []) 0 0)
    ∷ going 2 false (empty 2) (steps 2) (0 ∷ 10 ∷ []) 0 (book (br ∷ 0x7C00 ∷ []) 2 0)
    ∷ going 0 true (empty 0) (steps 1) (10 ∷ []) 0 (empty 0)
    -- "Lent words with no mark below them are dropped together, as one oldest step."
    ∷ going 0 true (book (7 ∷ 8 ∷ 9 ∷ br ∷ 6 ∷ []) 5 0) (steps 1) (fine 1) 2 (book (inc ∷ 0x7C00 ∷ 0 ∷ br ∷ 6 ∷ []) 5 3)
    -- "11 if not 0 and past the journal"
    ∷ going 0 true (book (replicate 7 0) 0 7) (forth instruction ∷ aback ∷ []) (11 ∷ 11 ∷ []) 0 (book (replicate 7 0) 0 7)
    ∷ []
