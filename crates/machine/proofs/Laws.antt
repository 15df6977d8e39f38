-- One call after the other: what a rule leaves of a machine, as equations from left to right.
use Rattle.std.proofs.Common.{◌≡◌, refl, ap, Bool, true, false, List, ◌++◌, append-nil, ℕ, suc, ◌+◌, ◌-◌, ◌≤◌, ◌<◌, mod-eq_of_lt, arith}
use Rattle.rules.specs.Answers as answers
use Rattle.rules.specs.Answers.{Answer, answer_for}
use Rattle.rules.specs.Machine.{pick, ◌also◌}
use Rattle.rules.specs.Rules.{Rule, give, ◌>>=◌, Out, got, stopped, then, exec, perform, need, here, goto}
use Rattle.rules.specs.Reads.{act_reads, reads, reads_then, marked}
use Rattle.rules.specs.Calls.{take_mark}
use Rattle.rules.proofs.Laws as laws
use Rattle.rules.proofs.Reading.{reads_then_lem, marked_append}
use Rattle.machine.specs.declared.state.Machine.{Machine}
use Rattle.machine.specs.Meaning.{Held, State, kept, rest_of, ending, End, done, failed, run, took}

-- ---- one after the other

unfoldable pub andthen : {A B : Type 0} → End A → (A → Rule B) → End B
andthen (done v s) f = run (f v) s
andthen (failed n x) f = failed n x

pub andthen_done : {A B : Type 0} (v : A) (s : State) (f : A → Rule B) → andthen (done v s) f ≡ run (f v) s
unfolding andthen
andthen_done v s f = refl

pub andthen_failed : {A B : Type 0} (n : Answer) (x : Held) (f : A → Rule B) → andthen (failed n x) f ≡ failed n x
unfolding andthen
andthen_failed n x f = refl

pub run_bind : {A B : Type 0} (r : Rule A) (f : A → Rule B) (s : State) → run (r >>= f) s ≡ andthen (run r s) f
unfolding run andthen
run_bind {A} {B} r f s =
    rw (laws.exec_then r f s.pc s.rest.mem, reads_then_lem r f s.pc s.rest.mem) (go (exec r s.pc s.rest.mem) (reads r s.pc s.rest.mem))
  where
    go : (o : Out A) (l : List ℕ)
        → ending (then o (λ a pc m. exec (f a) pc m)) (marked (l ++ reads_then o (λ a pc m. reads (f a) pc m)) s.rest.map)
        ≡ andthen (ending o (marked l s.rest.map)) f
    go (got v pc m) l = ap (ending (exec (f v) pc m)) (marked_append l _ s.rest.map)
    go (stopped n m) l = ap (λ (k : List ℕ). failed n (record { mem = m; map = marked k s.rest.map })) (append-nil l)

pub run_here : {B : Type 0} (f : ℕ → Rule B) (s : State) → run (here >>= f) s ≡ run (f s.pc) s
unfolding run exec reads ◌>>=◌ perform act_reads
run_here f s = refl

pub run_give : {A : Type 0} (v : A) (s : State) → run (give v) s ≡ done v s
unfolding run exec reads marked
run_give v s = refl

pub run_met : {A : Type 0} (why : answers.Why) (f : Unit {0} → Rule A) (s : State) → run (need true why >>= f) s ≡ run (f tt) s
unfolding need ◌>>=◌
run_met why f s = refl

pub run_unmet : {A : Type 0} (why : answers.Why) (f : Unit {0} → Rule A) (s : State) → run (need false why >>= f) s ≡ failed (answer_for why) s.rest
unfolding need ◌>>=◌ run exec reads marked
run_unmet why f s = refl

pub run_goto : {a : ℕ} (s : State) → a < 65536 → run (goto a) s ≡ done tt (record s { pc = a })
unfolding run exec reads marked perform act_reads
run_goto s l = rw (mod-eq_of_lt l) refl

-- pc set plays no part in the rest
pub rest_of_pc : (m : Machine) (x : ℕ) → rest_of (record m { pc = x }) ≡ rest_of m
unfolding rest_of
rest_of_pc m x = refl

pub kept_pc : (m : Machine) (x : ℕ) → kept (record m { pc = x }) ≡ kept m
unfolding kept
kept_pc m x = refl

-- from left to right: what a function that calls others in a row needs
pub ruleset steps = (rest_of_pc, kept_pc, run_goto, run_bind, run_here, run_give, run_met, run_unmet, andthen_done, andthen_failed)

-- ---- one of two rules, by a test that is known

pub run_picked : {A : Type 0} (c : Bool) (r q : Rule A) (s : State) → c ≡ true → run (pick c r q) s ≡ run r s
run_picked c r q s h = rw h refl

pub run_passed : {A : Type 0} (c : Bool) (r q : Rule A) (s : State) → c ≡ false → run (pick c r q) s ≡ run q s
run_passed c r q s h = rw h refl

pub ruleset choosing = (steps, run_picked, run_passed)

-- and two tests in one

pub also_met : (b : Bool) → (true also b) ≡ b
unfolding ◌also◌
also_met b = refl

pub also_unmet : (b : Bool) → (false also b) ≡ false
unfolding ◌also◌
also_unmet b = refl

pub ruleset testing = (also_met, also_unmet)

-- ---- a loop that counts up, of a rule by how many turns are left

pub one_less : (n i : ℕ) → i < n → n - i ≡ suc (n - (i + 1))
one_less n i h = omega arith

pub none_less : (n i : ℕ) → n ≤ i → n - i ≡ 0
none_less n i h = omega arith

pub ruleset looping = (steps, one_less, none_less)

-- ---- and back: what the rules' own words say

abbrev pub out_of : {A : Type 0} → End A → Out A
out_of (done v s) = got v s.pc s.rest.mem
out_of (failed n x) = stopped n x.mem

pub exec_is : {A : Type 0} (r : Rule A) (s : State) → exec r s.pc s.rest.mem ≡ out_of (run r s)
unfolding run
exec_is {A = A} r s = go (exec r s.pc s.rest.mem) _
  where
    go : (o : Out A) (z : List ℕ) → o ≡ out_of (ending o z)
    go (got w pc m) z = refl
    go (stopped n m) z = refl

abbrev pub map_of : {A : Type 0} → End A → List ℕ
map_of (done v s) = s.rest.map
map_of (failed n x) = x.map

pub marks_is : {A : Type 0} (r : Rule A) (s : State) → marked (reads r s.pc s.rest.mem) s.rest.map ≡ map_of (run r s)
unfolding run
marks_is {A = A} r s = go (exec r s.pc s.rest.mem) _
  where
    go : (o : Out A) (z : List ℕ) → z ≡ map_of (ending o z)
    go (got w pc m) z = refl
    go (stopped n m) z = refl

-- the same of a mark that is taken
pub took_out : (a : ℕ) (s : State) → take_mark a s.pc s.rest.mem ≡ out_of (took a s)
unfolding took
took_out a s = go (take_mark a s.pc s.rest.mem)
  where
    go : (o : Out (Unit {0})) → o ≡ out_of (ending o s.rest.map)
    go (got w pc m) = refl
    go (stopped n m) = refl

pub took_map : (a : ℕ) (s : State) → s.rest.map ≡ map_of (took a s)
unfolding took
took_map a s = go (take_mark a s.pc s.rest.mem)
  where
    go : (o : Out (Unit {0})) → s.rest.map ≡ map_of (ending o s.rest.map)
    go (got w pc m) = refl
    go (stopped n m) = refl
