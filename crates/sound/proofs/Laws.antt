-- The laws of `machine`'s steps for rules that send: one call after the other, a rule that sends nothing, and a byte sent.
use Rattle.std.proofs.Common.{◌≡◌, refl, ◌∙◌, ap, List, [], ◌∷◌, ◌++◌, ℕ, suc, ◌+◌, ◌≤◌, ◌<◌, arith, length, set, drop, length-append, ltb, lt-ltb, le-ltb}
use Rattle.rules.specs.Answers.{Answer, answer_for, output_full}
use Rattle.rules.specs.Machine.{Kind, cpu}
use Rattle.rules.specs.Rules.{Rule, give, ◌>>=◌, exec, sent, sent_then, act_sent, perform, need, emit, peek, peek_word, poke}
use Rattle.rules.specs.Reads.{reads, act_reads, marked}
use Rattle.rules.specs.Operands.{poke_word}
use Rattle.rules.specs.Sound.{Source, Due, list_byte, leap, opened, closed}
use Rattle.rules.proofs.Sending.{sent_then_lem, Quiet, quiet_sent, quiet_peek, quiet_poke, quiet_byte, quiet_word, quiet_poke_word, quiet_leap, quiet_opened, quiet_closed, quiet_then, gives}
use Rattle.machine.specs.Meaning.{Held, State, End, done, failed, run}
use Rattle.machine.proofs.Laws.{andthen, run_bind, exec_is, out_of}
use Rattle.machine.proofs.Laws as machine
use Rattle.sound.specs.declared.list.Output.{Output}
use Rattle.sound.specs.Meaning.{Stays, Written, laid, writing, Heard, played, refused, joining, plays, book}

-- ---- the output

laid_append : (k : ℕ) (xs ys o : List ℕ) → laid k (xs ++ ys) o ≡ laid (k + length xs) ys (laid k xs o)
unfolding laid
laid_append k [] ys o =
    let z : k ≡ k + 0 = omega arith in
    ap (λ (n : ℕ). laid n ys o) z
laid_append k (x ∷ xs) ys o =
    let z : suc k + length xs ≡ k + suc (length xs) = omega arith in
    laid_append (suc k) xs ys (set o k x) ∙ ap (λ (n : ℕ). laid n ys (laid (suc k) xs (set o k x))) z

writing_append : (xs ys : List ℕ) (o : Written) → writing (xs ++ ys) o ≡ writing ys (writing xs o)
unfolding writing
writing_append xs ys o =
    let z : o.used + length (xs ++ ys) ≡ o.used + length xs + length ys = omega (arith, length-append xs ys) in
    rw (laid_append o.used xs ys o.bytes, z) refl

pub writing_none : (o : Written) → writing [] o ≡ o
unfolding writing laid
writing_none o =
    let z : o.used + 0 ≡ o.used = omega arith in
    ap (λ (n : ℕ). record { bytes = o.bytes; used = n }) z

-- ---- one after the other

unfoldable pub andthen_plays : {A B : Type 0} → Heard A → (A → Rule B) → Heard B
andthen_plays (played v s o) f = plays (f v) s o
andthen_plays (refused n x o) f = refused n x o

pub andthen_played : {A B : Type 0} (v : A) (s : State) (o : Written) (f : A → Rule B) → andthen_plays (played v s o) f ≡ plays (f v) s o
unfolding andthen_plays
andthen_played v s o f = refl

pub andthen_refused : {A B : Type 0} (n : Answer) (x : Held) (o : Written) (f : A → Rule B) → andthen_plays (refused n x o) f ≡ refused n x o
unfolding andthen_plays
andthen_refused n x o f = refl

pub plays_bind : {A B : Type 0} (r : Rule A) (f : A → Rule B) (s : State) (o : Written) → plays (r >>= f) s o ≡ andthen_plays (plays r s o) f
unfolding plays andthen_plays andthen
plays_bind {A} {B} r f s o =
    rw (run_bind r f s, sent_then_lem r f s.pc s.rest.mem, exec_is r s) (go (run r s) (sent r s.pc s.rest.mem))
  where
    go : (e : End A) (l : List ℕ) → joining (andthen e f) (writing (l ++ sent_then (out_of e) (λ a pc m. sent (f a) pc m)) o) ≡ andthen_plays (joining e (writing l o)) f
    go (done v t) l = ap (joining (run (f v) t)) (writing_append l _ o)
    go (failed n x) l = ap (refused n x) (writing_append l [] o ∙ writing_none _)

pub plays_give : {A : Type 0} (v : A) (s : State) (o : Written) → plays (give v) s o ≡ played v s o
unfolding plays run exec reads marked sent
plays_give v s o = ap (played v s) (writing_none o)

-- ---- a rule that sends nothing leaves the output as it is

quietly : {A : Type 0} {r : Rule A} → Quiet r → (s : State) (o : Written) → plays r s o ≡ joining (run r s) o
unfolding plays
quietly {r = r} q s o = rw (quiet_sent q s.pc s.rest.mem) (ap (joining (run r s)) (writing_none o))

module _ (s : State) (o : Written) where
  pub plays_peek : (k : Kind) (a : ℕ) → plays (peek k a) s o ≡ joining (run (peek k a) s) o
  plays_peek k a = quietly (quiet_peek k a) s o

  pub plays_poke : (k : Kind) (a b : ℕ) → plays (poke k a b) s o ≡ joining (run (poke k a b) s) o
  plays_poke k a b = quietly (quiet_poke k a b) s o

  pub plays_peek_word : (a : ℕ) → plays (peek_word cpu a) s o ≡ joining (run (peek_word cpu a) s) o
  plays_peek_word a = quietly (quiet_word a) s o

  pub plays_poke_word : (k : Kind) (a w : ℕ) → plays (poke_word k a w) s o ≡ joining (run (poke_word k a w) s) o
  plays_poke_word k a w = quietly (quiet_poke_word k a w) s o

  pub plays_byte : (v : Source) (a : ℕ) → plays (list_byte v a) s o ≡ joining (run (list_byte v a) s) o
  plays_byte v a = quietly (quiet_byte v a) s o

  pub plays_leap : (v : Source) (a : ℕ) (to : Source) → plays (leap v a to) s o ≡ joining (run (leap v a to) s) o
  plays_leap v a to = quietly (quiet_leap v a to) s o

  pub plays_opened : (v : Source) → plays (opened v) s o ≡ joining (run (opened v) s) o
  plays_opened v = quietly (quiet_opened v) s o

  pub plays_closed : (v : Source) → plays (closed v) s o ≡ joining (run (closed v) s) o
  plays_closed v = quietly (quiet_closed v) s o

  pub plays_book : (v : Source) (d : Due) → plays (book v d) s o ≡ joining (run (book v d) s) o
  unfolding book
  plays_book v d = quietly (quiet_then _ (quiet_poke_word cpu _ _) (λ _. quiet_then _ (quiet_poke cpu _ _) (λ _. quiet_then _ (quiet_closed v) (λ _. gives)))) s o

-- ---- a byte sent

module _ {A : Type 0} (s : State) (o : Written) (left : ℕ) where
  pub plays_room : (f : Unit {0} → Rule A) → 0 < left → plays (need (ltb 0 left) output_full >>= f) s o ≡ plays (f tt) s o
  unfolding need ◌>>=◌
  plays_room f h = rw (lt-ltb 0 left h) refl

  pub plays_full : (f : Unit {0} → Rule A) → left ≤ 0 → plays (need (ltb 0 left) output_full >>= f) s o ≡ refused (answer_for output_full) s.rest o
  unfolding need ◌>>=◌ plays run exec reads marked sent
  plays_full f h = rw (le-ltb 0 left h) (ap (refused (answer_for output_full) s.rest) (writing_none o))

pub plays_emit : (b : ℕ) (s : State) (o : Written) → plays (emit b) s o ≡ played tt s (writing (b ∷ []) o)
unfolding plays run exec reads marked sent act_sent perform act_reads
plays_emit b s o = refl

pub ruleset playing = (
  machine.steps,
  plays_bind,
  andthen_played,
  andthen_refused,
  plays_give,
  plays_peek,
  plays_poke,
  plays_peek_word,
  plays_poke_word,
  plays_byte,
  plays_leap,
  plays_opened,
  plays_closed,
  plays_book,
  plays_room,
  plays_full,
  plays_emit,
)

-- ---- a whole: what was sent stands first, and the rest is as it was

laid_past : (k x : ℕ) (bs o : List ℕ) → laid (suc k) bs (x ∷ o) ≡ x ∷ laid k bs o
unfolding laid
laid_past k x [] o = refl
laid_past k x (b ∷ bs) o = laid_past (suc k) x bs (set o k b)

pub laid_first : (bs o : List ℕ) → length bs ≤ length o → laid 0 bs o ≡ bs ++ drop (length bs) o
unfolding laid
laid_first [] o h = refl
laid_first (b ∷ bs) [] h = absurd (omega arith)
laid_first (b ∷ bs) (x ∷ o) h = laid_past 0 b bs o ∙ ap (λ (l : List ℕ). b ∷ l) (laid_first bs o (omega arith))

-- ---- an output that stays, through one call and another
pub stays_on : {o p q : Output} → Stays o p → Stays p q → Stays o q
stays_on x y = record { same = y.same ∙ x.same; long = y.long ∙ x.long; fits = λ h. y.fits (x.fits h) }
