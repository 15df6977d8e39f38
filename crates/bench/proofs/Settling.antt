-- How an attempt is settled: done, or put back word by word.
use Rattle.std.proofs.Common.{◌≡◌, refl, ◌∙◌, ap, ap₂, sym, subst, Bool, false, List, [], Result, Ok, Err, ℕ, suc, ◌-◌, ◌≤◌, ◌<◌, arith, length, length-set, ne_eqb}
use Rattle.rules.specs.Machine.{Mem, State, state, address, over, at_rest}
use Rattle.rules.specs.Answers as answers
use Rattle.rules.specs.Answers.{Answer, answer_for, number}
use Rattle.rules.specs.Journal.{mark_word, Store, undo, forget}
use Rattle.rules.specs.Rules.{Out, got, stopped}
use Rattle.rules.specs.Sound.{Source}
use Rattle.rules.specs.Calls.{Way, attempt, step_stores, done, refused, emptied}
use Rattle.rules.specs.Demands.{Good}
use Rattle.rules.proofs.Stores.{mem_of, used_after, older_after, used_fits}
use Rattle.rules.proofs.Laid.{Late}
use Rattle.rules.proofs.Steps.{Tried, early, late, tried, rollback_step, address_small}
use Rattle.rules.proofs.Replies.{tried_done}
use Rattle.rules.proofs.Opcodes.{never_done}
use Rattle.ring.specs.declared.book.Book.{Book}
use Rattle.ring.specs.Meaning.{alone, booked, seen, listed, lent_by}
use Rattle.machine.specs.declared.answers.Why.{Why}
use Rattle.machine.specs.declared.state.Machine.{Machine}
use Rattle.machine.specs.Meaning as machine
use Rattle.machine.specs.Meaning.{why_of, mem_in, rest_of, left}
use Rattle.bench.specs.declared.at.At.{At}
use Rattle.bench.specs.Meaning.{book_at, rests, returned, outcome, replies, told, refusal, settled, settling, Tells}
use Rattle.bench.specs.Making.{Begun}
use Rattle.machine.proofs.Laws.{out_of}
use Rattle.bench.proofs.Beginning.{said}
use Rattle.bench.proofs.Lending.{closed, long_seen, words_fit}

-- ---- what is known of an attempt, however it ends

module _ (w : Way) (s : State) (u : s.mem.used ≤ length s.mem.journal) where
  ended : {o : Out Source} → attempt w s ≡ o → Tried (address s) (at_rest s.mem) (step_stores w s) o
  ended e = subst (λ (o : Out Source). Tried (address s) (at_rest s.mem) (step_stores w s) o) e (tried w s u)

  -- its own words are above the older ones, and all have room
  own_above : {o : Out Source} → attempt w s ≡ o → (mem_of o).older ≤ (mem_of o).used
  own_above {o} e = go (ended e)
    where
      go : {ss : List Store} {o : Out Source} → Tried (address s) (at_rest s.mem) ss o → (mem_of o).older ≤ (mem_of o).used
      go early = omega arith
      go (late h) = omega (arith, used_after h.makes, older_after h.makes)

  used_stays : {o : Out Source} → attempt w s ≡ o → (mem_of o).used ≤ length (mem_of o).journal
  used_stays {o} e = go (ended e)
    where
      go : {ss : List Store} {o : Out Source} → Tried (address s) (at_rest s.mem) ss o → (mem_of o).used ≤ length (mem_of o).journal
      go early = u
      go (late h) = used_fits h.makes (rw (length-set (forget h.dropped (at_rest s.mem)).journal (forget h.dropped (at_rest s.mem)).used (mark_word (address s))) h.word_left)

  counted : {f : Source} {pc : ℕ} {m : Mem} → attempt w s ≡ got f pc m → m.used - m.older ≡ suc (length (step_stores w s))
  counted {m = m} e =
      let h : Late (address s) (at_rest s.mem) (step_stores w s) m = tried_done (ended e) in
      omega (arith, used_after h.makes, older_after h.makes, h.within)

  -- put back word by word: the words that it had taken are 0, and all else but what it dropped is as before
  put_back : {a : Answer} {m : Mem} → Good s → attempt w s ≡ stopped a m → undo (m.used - m.older) m ≡ over (emptied m) s.mem
  put_back b e = rollback_step (address_small b) b.bytes refl (ended e)

-- ---- how it is settled

module _ (w : Way) (s : State) (u : s.mem.used ≤ length s.mem.journal) {i p v g j : List ℕ} {k : ℕ} where
  settle_done : {f : Source} {pc n : ℕ} {b : Book} → attempt w s ≡ got f pc (machine.mem_of i k p v g j b) → n ≡ b.used - b.older - 1
      → Tells told (settling w) s (returned i p v g j (record { answer = 0; address = 0; stores = n; at = rests pc b k f }))
  unfolding replies
  settle_done {f} {pc} {n} {b} e q =
      let count : n ≡ length (step_stores w s) = omega (arith, counted w s u e) in
      record { is = ap (outcome (done (state pc f (at_rest (machine.mem_of i k p v g j b))))) count ∙ ap (λ (o : Out Source). settled s o (step_stores w s)) (sym e) }

  settle_undone : (at : At) (why : answers.Why) {m : Mem} {c : Book} → s.pc ≡ at.pc → s.source ≡ at.source → Good s → attempt w s ≡ stopped (answer_for why) m
      → machine.mem_of i k p v g j c ≡ undo (m.used - m.older) m
      → Tells told (settling w) s (returned i p v g j (refusal (answer_for why) (rests at.pc c k at.source)))
  unfolding replies
  settle_undone at why {m} {c} f h b e q =
      let x : Mem = machine.mem_of i k p v g j c in
      let back : x ≡ over (emptied m) s.mem = q ∙ put_back w s u b e in
      record {
        is = rw (ne_eqb (number why) 0 (λ e. omega (arith, never_done why))) (
            ap₂ (λ (pc : ℕ) (y : Source). outcome (refused (answer_for why) (state pc y (at_rest x))) 0) (sym f) (sym h)
            ∙ ap (λ (y : Mem). outcome (refused (answer_for why) (state s.pc s.source (at_rest y))) 0) back
            ∙ ap (λ (o : Out Source). settled s o (step_stores w s)) (sym e));
      }

-- ---- the same of a machine

abbrev pub words : Machine → Mem
words m = seen m.journal.now (listed m.first m.older) m.older m.place m.used

module _ {at : At} {m : Machine} {t : Result Bool Why} (b : Begun at m t) where
  -- the attempt, by what the machine says of it
  is : attempt b.way b.from ≡ out_of (left t (machine.state m))
  is = sym (said (attempt b.way b.from) b.map) ∙ ap out_of b.is

  ends : mem_of (out_of (left t (machine.state m))) ≡ mem_in m
  unfolding rest_of
  ends = go t
    where
      go : (t : Result Bool Why) → mem_of (out_of (left t (machine.state m))) ≡ mem_in m
      go (Ok v) = refl
      go (Err why) = refl

  pub own : (words m).older ≤ (words m).used
  own = rw ends at (own_above b.way b.from b.used is)

  pub room : (words m).used ≤ length m.journal.now
  room = rw (ends, long_seen m.journal.now (listed m.first m.older) m.older m.place m.used) at (used_stays b.way b.from b.used is)

  pub few : m.used ≤ length m.journal.now
  few = words_fit m.journal.now (listed m.first m.older) m.older m.place m.used room

  -- the book at the end says what is seen
  pub book : {c a : Book} (j : List ℕ) → a ≡ book_at at → booked j c (alone [] 0 0 0 false) ≡ seen m.journal.now (lent_by (length m.journal.now) a) a.used a.place m.used
      → booked j c (alone [] 0 0 0 false) ≡ words m
  book j e h = closed m.used e b.book.lends h ∙ ap₂ (λ (o a : ℕ). seen m.journal.now (listed m.first m.older) o a m.used) (sym b.book.older) (sym b.book.place)

  pub marked : {v : Source} → t ≡ Ok v → (words m).older < (words m).used
  unfolding rest_of
  marked {v} e = omega (arith, counted b.way b.from b.used (is ∙ ap (λ (t : Result Bool Why). out_of (left t (machine.state m))) e))

  -- with its book and journal at the end
  abbrev closed_mem : List ℕ → Book → Mem
  closed_mem j c = machine.mem_of m.image.now at.writable m.pad.now m.vram.now m.regs.now j c

  same_mem : {c : Book} (j : List ℕ) → booked j c (alone [] 0 0 0 false) ≡ words m → mem_in m ≡ closed_mem j c
  same_mem j e =
      ap (λ (k : ℕ). machine.mem_seen m.image.now k m.pad.now m.vram.now m.regs.now (words m)) b.book.groups
      ∙ ap (λ (x : Mem). machine.mem_seen m.image.now at.writable m.pad.now m.vram.now m.regs.now x) (sym e)

  pub is_done : {c : Book} (j : List ℕ) {v : Source} {n : ℕ} → booked j c (alone [] 0 0 0 false) ≡ words m → t ≡ Ok v → n ≡ c.used - c.older - 1
      → Tells told (settling b.way) b.from (returned m.image.now m.pad.now m.vram.now m.regs.now j (record { answer = 0; address = 0; stores = n; at = rests m.pc c at.writable v }))
  unfolding rest_of
  is_done j {v} e k q =
      settle_done b.way b.from b.used
      (is ∙ ap (λ (t : Result Bool Why). out_of (left t (machine.state m))) k ∙ ap (got v m.pc) (same_mem j e)) q

  pub is_undone : {c d : Book} (j : List ℕ) {i p v g l : List ℕ} (why : Why) {n : ℕ} → booked j c (alone [] 0 0 0 false) ≡ words m → t ≡ Err why → n ≡ c.used - c.older
      → machine.mem_of i at.writable p v g l d ≡ undo n (closed_mem j c)
      → Tells told (settling b.way) b.from (returned i p v g l (refusal (answer_for (why_of why)) (rests at.pc d at.writable at.source)))
  unfolding rest_of
  is_undone {c} j why {n} e k q r =
      settle_undone b.way b.from b.used at (why_of why) b.pc b.source b.good
      (is ∙ ap (λ (t : Result Bool Why). out_of (left t (machine.state m))) k ∙ ap (stopped (answer_for (why_of why))) (same_mem j e))
      (r ∙ ap (λ (n : ℕ). undo n (closed_mem j c)) q)
