-- The actions of the rules, one law for each way out: a byte read, a word laid, a store, a mark.
use Rattle.std.proofs.Common.{◌≡◌, refl, Bool, true, false, ℕ, ◌*◌, ◌+◌, ◌^◌, ◌≤◌, ◌<◌, mod-eq_of_lt, length, get_or, [], ◌∷◌, ◌++◌, ltb, lt-ltb, le-ltb}
use Rattle.rules.specs.Machine.{pick, grom, extent, writable, Mem, area, cells, put, onward}
use Rattle.rules.specs.Answers.{Answer, answer_for, no_room, read_only, off_grom, outside}
use Rattle.rules.specs.Journal.{kind_number, word, mark_word, lay}
use Rattle.rules.specs.Rules.{Out, got, stopped, then, room, spare, perform, exec, next_byte, peek, poke}
use Rattle.rules.specs.Reads.{act_reads, reads, reads_then, marked}
use Rattle.rules.specs.Calls.{take_mark}
use Rattle.machine.specs.Meaning.{kind_of, Held, State, End, done, failed, ending, run, laid, took, with_mem, put_in, mark_in}
use Rattle.machine.specs.declared.memory.Memory.{Memory}
use Rattle.machine.specs.declared.memory.Memory.TheVariants.{Cpu, Vdp, Register, Grom}

-- ---- a byte read

pub peek_far : (k : Memory) (a : ℕ) (s : State) → extent (area s.rest.mem) (kind_of k) ≤ a
    → run (peek (kind_of k) a) s ≡ failed (answer_for (outside (kind_of k) a)) s.rest
unfolding run exec perform reads act_reads marked
peek_far Cpu a s h = rw (le-ltb a _ h) refl
peek_far Vdp a s h = rw (le-ltb a _ h) refl
peek_far Register a s h = rw (le-ltb a _ h) refl
peek_far Grom a s h = rw (le-ltb a _ h) refl

pub peeked : (k : Memory) (a : ℕ) (s : State) → a < extent (area s.rest.mem) (kind_of k)
    → run (peek (kind_of k) a) s ≡ done (get_or (cells (kind_of k) s.rest.mem) a 0) (mark_in k a s)
unfolding run exec perform reads act_reads marked
peeked Cpu a s h = rw (lt-ltb a _ h) refl
peeked Vdp a s h = rw (lt-ltb a _ h) refl
peeked Register a s h = rw (lt-ltb a _ h) refl
peeked Grom a s h = rw (lt-ltb a _ h) refl

-- at pc, which moves on
unfoldable pub onto : End ℕ → End ℕ
onto (done v t) = done v (record t { pc = onward t.pc })
onto (failed n x) = failed n x

pub onto_done : (v : ℕ) (t : State) → onto (done v t) ≡ done v (record t { pc = onward t.pc })
unfolding onto
onto_done v t = refl

pub onto_failed : (n : Answer) (x : Held) → onto (failed n x) ≡ failed n x
unfolding onto
onto_failed n x = refl

abbrev byte_at : State → ℕ → Bool → Out ℕ
byte_at s pc c = pick c (got (get_or s.rest.mem.image s.pc 0) pc s.rest.mem) (stopped (answer_for (off_grom s.pc)) s.rest.mem)

abbrev byte_end : State → ℕ → Bool → End ℕ
byte_end s pc c =
    ending (then (byte_at s pc c) (λ v pc₁ m₁. got v pc₁ m₁))
    (marked (pick c (s.pc ∷ []) [] ++ reads_then (byte_at s pc c) (λ v pc₁ m₁. [])) s.rest.map)

pub next_is : (s : State) → run next_byte s ≡ onto (run (peek grom s.pc) s)
unfolding run exec perform reads act_reads marked onto
next_is s = go (ltb s.pc (length s.rest.mem.image))
  where
    go : (c : Bool) → byte_end s (onward s.pc) c ≡ onto (byte_end s s.pc c)
    go true = refl
    go false = refl

pub ruleset reading = (next_is, onto_done, onto_failed)

-- ---- a word laid

module _ (w : ℕ) (s : State) where
  pub laid_full : (room (spare s.rest.mem) ≡ false) × (s.rest.mem ≡ spare s.rest.mem) → laid w s ≡ failed (answer_for no_room) s.rest
  unfolding laid
  laid_full h = rw (h.0, ← h.1) refl

  pub laid_there : {m : Mem} → (room (spare s.rest.mem) ≡ true) × (m ≡ lay w (spare s.rest.mem)) → laid w s ≡ done tt (with_mem s m)
  unfolding laid
  laid_there h = rw (h.0, h.1) refl

pub took_is : (a w : ℕ) (s : State) → w ≡ mark_word a → took a s ≡ laid w s
unfolding took laid take_mark
took_is a w s e = rw e (go (room (spare s.rest.mem)))
  where
    go : (b : Bool)
        → ending (pick b (got (tt {0}) s.pc (lay (mark_word a) (spare s.rest.mem))) (stopped (answer_for no_room) (spare s.rest.mem))) s.rest.map
        ≡ pick b (done tt (with_mem s (lay (mark_word a) (spare s.rest.mem))))
        (failed (answer_for no_room) (with_mem s (spare s.rest.mem)).rest)
    go true = refl
    go false = refl

-- ---- a store

pub poke_far : (k : Memory) (a b : ℕ) (s : State) → extent (area s.rest.mem) (kind_of k) ≤ a
    → run (poke (kind_of k) a b) s ≡ failed (answer_for (outside (kind_of k) a)) s.rest
unfolding run exec perform reads act_reads marked
poke_far k a b s h = rw (le-ltb a _ h) refl

pub poke_barred : (k : Memory) (a b : ℕ) (s : State) → a < extent (area s.rest.mem) (kind_of k) → writable (area s.rest.mem) (kind_of k) a ≡ false
    → run (poke (kind_of k) a b) s ≡ failed (answer_for read_only) s.rest
unfolding run exec perform reads act_reads marked
poke_barred k a b s h f = rw (lt-ltb a _ h, f) refl

-- its word is laid, and the byte put into its cell
unfoldable pub then_put : Memory → ℕ → ℕ → End (Unit {0}) → End (Unit {0})
then_put k a b (done v t) = done tt (put_in k a b t)
then_put k a b (failed n x) = failed n x

pub then_put_done : (k : Memory) (a b : ℕ) (v : Unit {0}) (t : State) → then_put k a b (done v t) ≡ done tt (put_in k a b t)
unfolding then_put
then_put_done k a b v t = refl

pub then_put_failed : (k : Memory) (a b : ℕ) (n : Answer) (x : Held) → then_put k a b (failed n x) ≡ failed n x
unfolding then_put
then_put_failed k a b n x = refl

abbrev stored : State → Bool → Mem → Out ℕ
stored s c m = pick c (got 0 s.pc m) (stopped (answer_for no_room) (spare s.rest.mem))

put_laid : (k : Memory) (a b w : ℕ) (m : Mem) → lay w (put (kind_of k) a b m) ≡ put (kind_of k) a b (lay w m)
put_laid Cpu a b w m = refl
put_laid Vdp a b w m = refl
put_laid Register a b w m = refl
put_laid Grom a b w m = refl

module _ (k : Memory) (a b w : ℕ) (s : State) (h : a < extent (area s.rest.mem) (kind_of k)) (f : writable (area s.rest.mem) (kind_of k) a ≡ true) (l : b < 256)
    (e : w ≡ kind_number (kind_of k) * 2 ^ 29 + a * 256 + get_or (cells (kind_of k) s.rest.mem) a 0) where
  pub put_is : run (poke (kind_of k) a b) s ≡ then_put k a b (laid w s)
  unfolding run exec perform reads act_reads laid word marked then_put
  put_is = rw (lt-ltb a _ h, f, mod-eq_of_lt l, ← e) (go (room (spare s.rest.mem)) _ (put_laid k a b w (spare s.rest.mem)))
    where
      go : (c : Bool) (m : Mem) → m ≡ put (kind_of k) a b (lay w (spare s.rest.mem))
          → ending (then (stored s c m) (λ v pc₁ m₁. got (tt {0}) pc₁ m₁)) (marked (reads_then (stored s c m) (λ v pc₁ m₁. [])) s.rest.map)
          ≡ then_put k a b
          (pick c (done tt (with_mem s (lay w (spare s.rest.mem)))) (failed (answer_for no_room) (with_mem s (spare s.rest.mem)).rest))
      go true m d = rw d refl
      go false m d = refl

pub ruleset storing = (then_put_done, then_put_failed)
