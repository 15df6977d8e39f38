-- 02, item 13, "Worn corners that don't matter": the addresses of the image that "the rules read during the run", in their order. They are collected as the stores are.
use Rattle.std.specs.Prelude.{Bool, List, [], ◌∷◌, ◌++◌, ℕ, zero, suc, ltb, eqb, length, set}
use Rattle.rules.specs.Machine.{pick, upon, Mem, State, address, at_rest}
use Rattle.rules.specs.Answers.{answer_for, wrong_length}
use Rattle.rules.specs.Rules.{Act, next, ask, jump, load, store, send, Rule, give, refuse, act, Out, got, stopped, perform}
use Rattle.rules.specs.Opcodes.{class_of}
use Rattle.rules.specs.Tasks.{Plan, halt, go, plan_of}
use Rattle.rules.specs.Calls.{instruction, fits, Reply, done, refused, left, take_mark, step, Report, report, run}

-- ---- by an action

-- the byte at an address of the image: beyond it there is nothing to read
abbrev pub look : ℕ → Mem → List ℕ
look a m = pick (ltb a (length m.image)) (a ∷ []) []

-- A store reads nothing: the byte that stood there goes into the journal, and no rule sees it.
unfoldable pub act_reads : Act → ℕ → Mem → List ℕ
act_reads next pc m = look pc m
act_reads ask pc m = []
act_reads (jump a) pc m = []
act_reads (load k a) pc m = upon k [] [] [] (look a m)
act_reads (store k a b) pc m = []
act_reads (send b) pc m = []

-- ---- by a rule

abbrev pub reads_then : {A : Type 0} → Out A → (A → ℕ → Mem → List ℕ) → List ℕ
reads_then (got a pc m) f = f a pc m
reads_then (stopped n m) f = []

unfoldable pub reads : {A : Type 0} → Rule A → ℕ → Mem → List ℕ
reads (give a) pc m = []
reads (refuse why) pc m = []
reads (act q k) pc m = act_reads q pc m ++ reads_then (perform q pc m) (λ v pc₁ m₁. reads (k v) pc₁ m₁)

-- by a rule after what went before it
unfoldable pub reads_after : {A B : Type 0} → Out A → Rule B → List ℕ
reads_after o r = reads_then o (λ _ pc m. reads r pc m)

-- ---- by a step

-- past its opcode
unfoldable pub begin_reads : ℕ → Plan → ℕ → Mem → List ℕ
begin_reads a (halt why) pc₁ m = []
begin_reads a (go r) pc₁ m = reads_then (take_mark a pc₁ m) (λ _ pc₂ m₂. reads r pc₂ m₂)

-- its opcode and what follows, whether it is done or refused
unfoldable pub attempt_reads : State → List ℕ
attempt_reads s =
    act_reads next s.pc (at_rest s.mem)
    ++ reads_then (perform next s.pc (at_rest s.mem)) (λ op pc₁ m. begin_reads (address s) (plan_of s.source (class_of op)) pc₁ m)

-- nothing, where test 11 fails
unfoldable pub step_reads : State → List ℕ
step_reads s = pick (fits s.mem) (attempt_reads s) []

-- ---- by a run

-- after a step that was refused goes none, but its own reads count
abbrev pub reads_onto : Reply → List ℕ → List ℕ
reads_onto (done t) l = l
reads_onto (refused a t) l = []

unfoldable pub run_reads : ℕ → State → List ℕ
run_reads zero s = []
run_reads (suc n) s = step_reads s ++ reads_onto (step instruction s) (run_reads n (left (step instruction s)))

-- ---- a run that "says which bytes it read, into a lent map of one byte for each image byte"

-- 1 at each of these addresses: the other bytes stay, so that a map of zeros says what was read, and one lent again gathers several runs
unfoldable pub marked : List ℕ → List ℕ → List ℕ
marked [] z = z
marked (a ∷ l) z = marked l (set z a 1)

-- "11 for a wrong length"
abbrev pub map_fits : List ℕ → State → Bool
map_fits z s = eqb (length z) (length s.mem.image)

-- "what it answers is what `run` answers"
unfoldable pub mapped_run : ℕ → List ℕ → State → Report
mapped_run n z s = pick (map_fits z s) (run n s) (report (answer_for wrong_length) 0 0 s)

-- and the map that it leaves
unfoldable pub map_left : ℕ → List ℕ → State → List ℕ
map_left n z s = pick (map_fits z s) (marked (run_reads n s) z) z
