-- The attempt of an instruction, from a machine in which a step can begin.
use Rattle.std.proofs.Common.{◌≡◌, refl, ◌∙◌, ap, ap₂, sym, Bool, List, [], ◌++◌, append-nil, Result, Ok, Err, ℕ, arith, length}
use Rattle.rules.specs.Machine as rules
use Rattle.rules.specs.Machine.{Mem, flagged, address, at_rest}
use Rattle.rules.specs.Rules.{Out, got, stopped, then, next, perform, exec, after, sends}
use Rattle.rules.specs.Opcodes.{class_of}
use Rattle.rules.specs.Sound.{Source, tick_rule}
use Rattle.rules.specs.Tasks.{Plan, halt, go, plan_of}
use Rattle.rules.specs.Calls.{Way, instruction, tick, take_mark, begin, attempt, tick_sent}
use Rattle.rules.specs.Reads.{act_reads, reads, reads_then, begin_reads, attempt_reads, marked}
use Rattle.rules.proofs.Reading.{marked_append}
use Rattle.machine.specs.declared.answers.Why.{Why}
use Rattle.machine.specs.declared.state.Machine.{Machine}
use Rattle.machine.specs.Meaning.{State, End, ending, run, took, state, rest_of, mem_in, mem_seen, left, kept, Kept}
use Rattle.machine.proofs.Laws.{out_of, map_of}
use Rattle.ring.specs.Meaning.{seen, listed}
use Rattle.ring.proofs.Turned.{as_long}
use Rattle.bench.specs.declared.at.At.{At}
use Rattle.bench.specs.Meaning.{count_at, marking}
use Rattle.bench.specs.Making.{onto, follow, trying, trying_tick, sends_from, state_in, Booked, Stands, Begun}
use Rattle.bench.proofs.Lending.{ring_at_lem, still_lends}

-- what is left of a state by what the rules' own words say
abbrev pub ends : {A : Type 0} → Out A → List ℕ → State → End A
ends o l s = ending o (marked l s.rest.map)

follow_is : (a : ℕ) (p : Plan) (s : State) → follow a p s ≡ ends (begin a p s.pc s.rest.mem) (begin_reads a p s.pc s.rest.mem) s
unfolding follow onto took run begin begin_reads after marked
follow_is a (halt why) s = refl
follow_is a (go r) s = from (take_mark a s.pc s.rest.mem)
  where
    from : (o : Out (Unit {0})) → onto (ending o s.rest.map) (λ _. run r)
        ≡ ends (then o (λ _ pc m. exec r pc m)) (reads_then o (λ _ pc m. reads r pc m)) s
    from (got v pc m) = refl
    from (stopped n m) = refl

trying_is : (v : Source) (s : State) → at_rest s.rest.mem ≡ s.rest.mem
    → trying v s ≡ ends (attempt instruction (rules.state s.pc v s.rest.mem)) (attempt_reads (rules.state s.pc v s.rest.mem)) s
unfolding trying onto run attempt attempt_reads exec reads
trying_is v s e = rw e (from (perform next s.pc s.rest.mem))
  where
    a : ℕ
    a = flagged s.pc v

    l : List ℕ
    l = act_reads next s.pc s.rest.mem

    from : (o : Out ℕ) → onto (ending (then o (λ op pc m. got op pc m)) (marked (l ++ reads_then o (λ _ _ _. [])) s.rest.map)) (λ op. follow a (plan_of v (class_of op)))
        ≡ ends (then o (λ op pc m. begin a (plan_of v (class_of op)) pc m)) (l ++ reads_then o (λ op pc m. begin_reads a (plan_of v (class_of op)) pc m)) s
    from (got op pc m) =
        let p : Plan = plan_of v (class_of op) in
        ap (λ (k : List ℕ). follow a p (record { pc = pc; rest = record { mem = m; map = marked k s.rest.map } })) (append-nil l)
        ∙ follow_is a p (record { pc = pc; rest = record { mem = m; map = marked l s.rest.map } })
        ∙ ap (ending (begin a p pc m)) (sym (marked_append l (begin_reads a p pc m) s.rest.map))
    from (stopped n m) = refl

-- what is left says both
pub said : {A : Type 0} (o : Out A) (z : List ℕ) → out_of (ending o z) ≡ o
said (got v pc m) z = refl
said (stopped n m) z = refl

noted : {A : Type 0} (o : Out A) (z : List ℕ) → map_of (ending o z) ≡ z
noted (got v pc m) z = refl
noted (stopped n m) z = refl

-- ---- from a machine at `at`

module _ {at : At} {m : Machine} where
  mem_is : (b : Booked at m) → m.used ≡ count_at at → mem_in m ≡ (state_in m at).mem
  mem_is b e =
      ap (λ (k : ℕ). mem_seen m.image.now k m.pad.now m.vram.now m.regs.now (seen m.journal.now (listed m.first m.older) m.older m.place m.used)) b.groups
      ∙ ap (λ (x : Mem). mem_seen m.image.now at.writable m.pad.now m.vram.now m.regs.now x)
      (ap (λ (u : ℕ). seen m.journal.now (listed m.first m.older) m.older m.place u) e
      ∙ ap₂ (λ (o a : ℕ). seen m.journal.now (listed m.first m.older) o a (count_at at)) b.older b.place
      ∙ ring_at_lem b.before b.lends)

  pub still : {n : Machine} → Booked at m → kept n ≡ kept m → Booked at n
  unfolding kept
  still {n} b k =
      let words : length n.journal.now ≡ length m.journal.now = ap (λ (x : Kept). x.words) k in
      record {
        lends = still_lends b.lends (ap₂ listed (ap (λ (x : Kept). x.first) k) (ap (λ (x : Kept). x.older) k)) words;
        before = omega (arith, b.before, words);
        older = ap (λ (x : Kept). x.older) k ∙ b.older;
        place = ap (λ (x : Kept). x.place) k ∙ b.place;
        groups = ap (λ (x : Kept). x.groups) k ∙ b.groups;
      }

module _ {at : At} {m : Machine} (b : Stands at m) where
  abbrev s : rules.State
  s = state_in m at

  mem : mem_in m ≡ s.mem
  mem = mem_is b.book b.used

  -- an attempt has begun, whichever it is
  abbrev pub begun : {t : Result Bool Why} {n : Machine} (w : Way) (z : List ℕ) → ending (attempt w s) z ≡ left t (state n) → kept n ≡ kept m → Begun at n t
  begun w z e k =
      record {
        book = still b.book k;
        way = w;
        from = s;
        pc = refl;
        source = refl;
        good = b.good;
        used = as_long at.ring at.place m.journal.now b.book.before;
        map = z;
        is = e;
      }

  -- an instruction
  pub as_step : {e : End Source} → trying at.source (state m) ≡ e → ending (attempt instruction s) (marking attempt_reads m.map.now s) ≡ e
  unfolding rest_of
  as_step h =
      ap₂ (λ (pc : ℕ) (x : Mem). ends (attempt instruction (rules.state pc at.source x)) (attempt_reads (rules.state pc at.source x)) (state m)) (sym b.pc) (sym mem)
      ∙ sym (trying_is at.source (state m) (ap at_rest mem ∙ sym mem)) ∙ h

  -- a tick
  abbrev pub tick_map : ℕ → List ℕ
  tick_map k = marked (begin_reads (address s) (go (tick_rule k at.source)) at.pc s.mem) m.map.now

  pub as_tick : (k : ℕ) {j : ℕ} {e : End Source} → j ≡ k → trying_tick j at.source (state m) ≡ e → ending (attempt (tick k) s) (tick_map k) ≡ e
  unfolding attempt trying_tick rest_of
  as_tick k {j} q h =
      ap₂ (λ (pc : ℕ) (x : Mem). ends (begin (flagged pc at.source) (go (tick_rule k at.source)) pc x) (begin_reads (flagged pc at.source) (go (tick_rule k at.source)) pc x) (state m))
      (sym b.pc) (sym mem)
      ∙ sym (follow_is (flagged m.pc at.source) (go (tick_rule k at.source)) (state m)) ∙ ap (λ (i : ℕ). trying_tick i at.source (state m)) (sym q) ∙ h

  -- and what it sends
  pub sent_is : (k : ℕ) {j : ℕ} → j ≡ k → sends_from j at.source (state m) ≡ tick_sent k s
  unfolding tick_sent sends_from rest_of
  sent_is k q =
      ap (λ (i : ℕ). sends_from i at.source (state m)) q ∙ ap₂ (λ (pc : ℕ) (x : Mem). sends (take_mark (flagged pc at.source) pc x) (tick_rule k at.source)) b.pc mem

-- the map that it leaves
pub map_left : (o : Out Source) {z : List ℕ} (t : Result Bool Why) (n : Machine) → ending o z ≡ left t (state n) → n.map.now ≡ z
unfolding rest_of
map_left o {z} t n e = of t ∙ sym (ap map_of e) ∙ noted o z
  where
    of : (t : Result Bool Why) → n.map.now ≡ map_of (left t (state n))
    of (Ok v) = refl
    of (Err why) = refl
