-- A step and a step back, past test 11: how each ends, and that the one undoes the other.
use mathlib.Core.Path.{◌≡◌, refl, ◌∙◌, ap, ap₂, sym, subst}
use mathlib.Core.Bool.{Bool, true, false}
use mathlib.Core.List.{List, [], ◌∷◌, map}
use Prim.Native.Nat.{ℕ, zero, suc, ◌+◌, ◌-◌, ◌/◌, ◌%◌, ◌^◌, ◌≤◌, ◌<◌}
use native.Mathlib.Nat.{mod-lt, le_refl}
use native.Mathlib.Omega.{arith}
use lib.Dec.{ltb, lit<}
use lib.ListN.{length, get_or, set, length-set}
use lib.Seq.{sets, get_or-set_same, get_or-set_other}
use borrow.Author.Tests.{lt-ltb}
use Rattle.rules.specs.Machine.{pick, ◌also◌, bit, Kind, Area, extent, writable, Mem, area, State, state, flagged, address, beside, over, at_rest, onward}
use Rattle.rules.specs.Answers.{Answer, answer_for, no_room, off_grom}
use Rattle.rules.specs.Journal.{mark_word, lay, Store, word_of, make, Note, stood, mark, note, undo_top, undo, blank, blanked, forget}
use Rattle.rules.specs.Rules.{Act, next, ask, jump, load, store, send, Rule, Out, got, stopped, then, room, spare, perform, after, stores, stores_then}
use Rattle.rules.specs.Opcodes.{class_of}
use Rattle.rules.specs.Sound.{Source, tick_rule}
use Rattle.rules.specs.Tasks.{Plan, halt, go, plan_of}
use Rattle.rules.specs.Calls.{Way, instruction, tick, Reply, done, refused, take_mark, begin, attempt, taken, emptied, settle, fit_step, begin_stores, step_stores}
use Rattle.rules.specs.Calls.{Find, found, further, seen, scan, back_to, fit_back}
use Rattle.rules.specs.Demands.{Bytes, Good}
use Rattle.rules.proofs.Stores.{mem_of, Made, none, one, used_after, older_after, place_after, ring_after, journal_after, area_after}
use Rattle.rules.proofs.Laid.{Sane, not_found, Late, late_rule}
use Rattle.rules.proofs.Undo.{note_mark, note_store, bytes_after, set_blank, undo_lay, rollback}
use Rattle.rules.proofs.Kept.{Point, Held, by_test, Holds, attempt_holds}

-- ---- the address stays one of 16 bits

abbrev In16 : Point → Type 0
In16 s = s.pc < 65536

abbrev Any : Answer → Type 0
Any a = Unit {0}

in16_act : (q : Act) (s : Point) → In16 s → Held In16 Any (perform q s.pc s.mem)
unfolding perform
in16_act next s h = by_test In16 Any (ltb s.pc (length s.mem.image)) _ _ (omega arith) tt
in16_act ask s h = h
in16_act (jump a) s h = mod-lt a (lit< tt)
in16_act (load k a) s h = by_test In16 Any (ltb a (extent (area s.mem) k)) _ _ h tt
in16_act (store k a b) s h =
    by_test In16 Any (ltb a (extent (area s.mem) k)) _ _
    (by_test In16 Any (writable (area s.mem) k a) _ _ (by_test In16 Any (room (spare s.mem)) _ _ h tt) tt) tt
in16_act (send b) s h = h

in16_mark : (a : ℕ) (s : Point) → In16 s → Held In16 Any (take_mark a s.pc s.mem)
unfolding take_mark
in16_mark a s h = by_test In16 Any (room (spare s.mem)) _ _ h tt

in16 : Holds In16 Any
in16 = record { acts = in16_act; marks = in16_mark; refuses = λ why. tt }

-- ---- how an attempt ends: nothing done, or a mark and then stores

pub data Tried (a : ℕ) (m : Mem) : List Store → Out Source → Type 0 where
  early : {x : Answer} → Tried a m [] (stopped x m)
  late : {ss : List Store} {o : Out Source} → Late a m ss (mem_of o) → Tried a m ss o

module _ (a : ℕ) (m : Mem) (s : Sane m) where
  -- what is taken where a word is left, and where none is
  took : ℕ → Bool → Out (Unit {0})
  took pc₁ c = pick c (got tt pc₁ (lay (mark_word a) (spare m))) (stopped (answer_for no_room) (spare m))

  tried_rule : (r : Rule Source) (pc₁ : ℕ) (c : Bool) → room (spare m) ≡ c
      → Tried a m (stores_then (took pc₁ c) (λ _ pc₂ m₂. stores r pc₂ m₂)) (after (took pc₁ c) r)
  unfolding took after
  tried_rule r pc₁ true e = late (late_rule a pc₁ m r s e)
  tried_rule r pc₁ false e = subst (λ (x : Mem). Tried a m [] (stopped (answer_for no_room) x)) (sym (not_found m s e)) early

  pub tried_begin : (p : Plan) (pc₁ : ℕ) → Tried a m (begin_stores a p pc₁ m) (begin a p pc₁ m)
  unfolding begin begin_stores take_mark took
  tried_begin (halt why) pc₁ = early
  tried_begin (go r) pc₁ = tried_rule r pc₁ _ refl

  tried_next : (v : Source) (pc : ℕ) (c : Bool)
      → Tried a m (stores_then (pick c (got (get_or m.image pc 0) (onward pc) m) (stopped (answer_for (off_grom pc)) m))
      (λ op pc₁ m₁. begin_stores a (plan_of v (class_of op)) pc₁ m₁))
      (then (pick c (got (get_or m.image pc 0) (onward pc) m) (stopped (answer_for (off_grom pc)) m)) (λ op pc₁ m₁. begin a (plan_of v (class_of op)) pc₁ m₁))
  tried_next v pc true = tried_begin (plan_of v (class_of (get_or m.image pc 0))) (onward pc)
  tried_next v pc false = early

pub rest_sane : (m : Mem) → m.used ≤ length m.journal → Sane (at_rest m)
rest_sane m h = record { used = h; older = omega arith }

pub tried : (w : Way) (s : State) → s.mem.used ≤ length s.mem.journal → Tried (address s) (at_rest s.mem) (step_stores w s) (attempt w s)
unfolding attempt step_stores perform
tried instruction s h =
    tried_next (address s) (at_rest s.mem) (rest_sane s.mem h) s.source s.pc (ltb s.pc (length s.mem.image))
tried (tick n) s h = tried_begin (address s) (at_rest s.mem) (rest_sane s.mem h) (go (tick_rule n s.source)) s.pc

-- ---- what a step leaves

-- it was done: a mark, then its stores
pub record Stepped (s : State) (ss : List Store) (t : State) : Type 0 where
  pub end : Mem
  pub late : Late (address s) (at_rest s.mem) ss end
  pub rests : t.mem ≡ at_rest end
  pub good : Good t

abbrev pub Settled : State → List Store → Reply → Type 0
Settled s ss (done t) = Stepped s ss t
Settled s ss (refused n t) = Unit {0}

settle_is : (s : State) (ss : List Store) (o : Out Source) → Good s → Tried (address s) (at_rest s.mem) ss o → Held In16 Any o → Settled s ss (settle s o)
settle_is s ss (got a pc₁ m₁) g (late h) k =
    let b : Bytes m₁ = bytes_after h.makes g.bytes in
    record { end = m₁; late = h; rests = refl; good = record { address = k; bytes = b } }
settle_is s ss (stopped n m₁) g t k = tt

pub settled : (w : Way) (s : State) → Good s → s.mem.used ≤ length s.mem.journal → Settled s (step_stores w s) (fit_step w s)
unfolding fit_step
settled w s g h = settle_is s (step_stores w s) (attempt w s) g (tried w s h) (attempt_holds in16 w s g.address)

-- ---- a step undone

-- the words that were laid, and 0 in their place
blank_laid : (ss : List Store) (j : List ℕ) (u : ℕ) → blank (length ss) u (sets j u (map word_of ss)) ≡ blank (length ss) u j
blank_laid [] j u = refl
blank_laid (s ∷ ss) j u =
    ap (λ (l : List ℕ). set l u 0) (blank_laid ss (set j u (word_of s)) (suc u)) ∙ set_blank (length ss) (suc u) j u (word_of s) 0 (le_refl (suc u))

-- what is left of one that has begun and is refused: what it dropped is gone, and its own words are 0
pub emptied_late : {pc : ℕ} {m m₁ : Mem} {ss : List Store} → m.older ≡ m.used → (h : Late pc m ss m₁)
    → over (emptied m₁) m ≡ blanked (suc (length ss)) (forget h.dropped m)
emptied_late {pc} {m} {m₁} {ss} r h =
    let j : List ℕ = (forget h.dropped m).journal in
    let u : ℕ = m.used - h.dropped in
    let o : m₁.older ≡ u = older_after h.makes ∙ ap (λ (n : ℕ). n - h.dropped) r in
    let own : taken m₁ ≡ suc (length ss) = omega (arith, used_after h.makes, o) in
    let words : blank (taken m₁) m₁.older m₁.journal ≡ blank (suc (length ss)) u j =
    ap (λ (n : ℕ). blank n m₁.older m₁.journal) own ∙ ap₂ (blank (suc (length ss))) o (journal_after h.makes)
    ∙ ap (λ (l : List ℕ). set l u 0) (blank_laid ss (set j u (mark_word pc)) (suc u)) ∙ set_blank (length ss) (suc u) j u (mark_word pc) 0 (le_refl (suc u)) in
    rw (words, o, place_after h.makes, ring_after h.makes, r)

-- the mark and the stores, undone word by word
pub undo_step : {pc : ℕ} (m : Mem) {m' : Mem} {ss : List Store} → pc < 131072 → Bytes m → m.used < length m.journal → Made (lay (mark_word pc) m) ss m'
    → undo (suc (length ss)) m' ≡ blanked (suc (length ss)) m
unfolding undo
undo_step {pc} m {ss = ss} a b h t =
    ap (λ (x : Mem). undo_top x.used x) (rollback b t) ∙ undo_lay (length ss) (mark_word pc) (mark pc) m (note_mark pc a) h

-- so a refused step may be put back word by word: that gives what the rules say of it
pub rollback_step : {pc : ℕ} {m m₁ : Mem} {ss : List Store} {a : Answer} → pc < 131072 → Bytes m → m.older ≡ m.used → Tried pc m ss (stopped a m₁)
    → undo (taken m₁) m₁ ≡ over (emptied m₁) m
unfolding undo
rollback_step {m = m} a b r early =
    let none : m.used - m.older ≡ 0 = omega arith in
    rw (none, r)
rollback_step {m = m} {m₁ = m₁} {ss = ss} a b r (late h) =
    let own : taken m₁ ≡ suc (length ss) = omega (arith, used_after h.makes, older_after h.makes, h.within) in
    ap (λ (n : ℕ). undo n m₁) own ∙ undo_step (forget h.dropped m) a b h.word_left h.makes ∙ sym (emptied_late r h)

-- ---- a step back

module _ (z : Area) where
  pub scan_same : (u : ℕ) (j l : List ℕ) → ((n : ℕ) → n < u → get_or j n 0 ≡ get_or l n 0) → scan z u j ≡ scan z u l
  unfolding scan
  scan_same zero j l h = refl
  scan_same (suc u) j l h = ap₂ (λ (w : ℕ) (f : Find). seen z (note w) f) (h u (le_refl (suc u))) (scan_same u j l (λ n k. h n (omega arith)))

  scan_lay : (u w : ℕ) (j : List ℕ) → u < length j → scan z (suc u) (set j u w) ≡ seen z (note w) (scan z u j)
  unfolding scan
  scan_lay u w j h =
      ap₂ (λ (x : ℕ) (f : Find). seen z (note x) f) (get_or-set_same j u w 0 h)
      (scan_same u (set j u w) j (λ n k. get_or-set_other j u n w 0 (omega arith)))

  -- a sound word: of a store it is passed over, and a mark is found
  seen_store : (k : Kind) (a b : ℕ) (f : Find) → a < extent z k → writable z k a ≡ true → seen z (stood k a b) f ≡ further f
  unfolding ◌also◌
  seen_store k a b f h w = rw (lt-ltb a (extent z k) h, w)

  seen_mark : (pc : ℕ) (f : Find) → pc < 131072 → seen z (mark pc) f ≡ found 1 pc
  seen_mark pc f h = rw (lt-ltb pc 131072 h)

-- stores on top of a mark leave it the newest
scan_made : {m m' : Mem} {ss : List Store} (n pc : ℕ) → Bytes m → Made m ss m' → scan (area m) m.used m.journal ≡ found n pc
    → scan (area m') m'.used m'.journal ≡ found (n + length ss) pc
scan_made n pc b none e =
    let more : n ≡ n + 0 = omega arith in
    e ∙ ap (λ (k : ℕ). found k pc) more
scan_made {m} n pc b (one {s} {ss} h t) e =
    let more : suc n + length ss ≡ n + suc (length ss) = omega arith in
    let z : Area = area m in
    let laid : scan z (suc m.used) (make s m).journal ≡ found (suc n) pc =
    scan_lay z m.used (word_of s) m.journal h.word_left ∙ ap₂ (seen z) (note_store s m h b) e
    ∙ seen_store z s.kind s.at s.old (found n pc) h.inside h.allowed in
    scan_made (suc n) pc (bytes_after (one h none) b) t
    (ap (λ (x : Area). scan x (suc m.used) (make s m).journal) (area_after (one h none)) ∙ laid)
    ∙ ap (λ (k : ℕ). found k pc) more

-- a mark and stores on top of a machine are taken off again
back_made : {pc : ℕ} (m : Mem) {ss : List Store} (t : State) → pc < 131072 → Bytes m → m.used < length m.journal → Made (lay (mark_word pc) m) ss t.mem
    → fit_back t ≡ done (state (pc % 65536) (bit 16 pc) (at_rest (blanked (suc (length ss)) m)))
unfolding fit_back
back_made {pc} m {ss} t l b h k =
    let z : 1 + length ss ≡ suc (length ss) = omega arith in
    let u : ℕ = m.used in
    let w : ℕ = mark_word pc in
    let y : Area = area m in
    let older : Find = scan y u m.journal in
    let newest : scan y (suc u) (set m.journal u w) ≡ found 1 pc =
    scan_lay y u w m.journal h ∙ ap (λ (x : Note). seen y x older) (note_mark pc l) ∙ seen_mark y pc older l in
    let e : scan (area t.mem) t.mem.used t.mem.journal ≡ found (1 + length ss) pc = scan_made 1 pc b k newest in
    ap (λ (f : Find). back_to f t) (e ∙ ap (λ (k : ℕ). found k pc) z)
    ∙ ap (λ (x : Mem). done (state (pc % 65536) (bit 16 pc) (at_rest x))) (undo_step m l b h k)

-- ---- the flag above the address, and both again

pub flagged_small : (pc : ℕ) (v : Bool) → pc < 65536 → flagged pc v < 131072
flagged_small pc true h = omega arith
flagged_small pc false h = omega arith

pub flagged_parts : (pc : ℕ) (v : Bool) (m : Mem) → pc < 65536 → state (flagged pc v % 65536) (bit 16 (flagged pc v)) m ≡ state pc v m
unfolding bit
flagged_parts pc true m h =
    let low : (65536 + pc) % 65536 ≡ pc = omega arith in
    let top : (65536 + pc) / 2 ^ 16 ≡ 1 = omega arith in
    rw (low, top)
flagged_parts pc false m h =
    let low : pc % 65536 ≡ pc = omega arith in
    let top : pc / 2 ^ 16 ≡ 0 = omega arith in
    rw (low, top)

pub address_small : {s : State} → Good s → address s < 131072
address_small {s} g = flagged_small s.pc s.source g.address

-- so a step is taken back to where it began
pub back_late : {s : State} (m : Mem) {ss : List Store} (t : State) → Good s → Bytes m → m.used < length m.journal
    → Made (lay (mark_word (address s)) m) ss t.mem → fit_back t ≡ done (state s.pc s.source (at_rest (blanked (suc (length ss)) m)))
back_late {s} m t g b h k = back_made m t (address_small g) b h k ∙ ap done (flagged_parts s.pc s.source _ g.address)

-- the same stores beside another journal
pub rebase : {m m' : Mem} {ss : List Store} (b : Mem) → b.used + length ss ≤ length b.journal → Made m ss m'
    → Made (over b m) ss (over (beside (sets b.journal b.used (map word_of ss)) (b.used + length ss) b) m')
rebase {m} b l none =
    let z : b.used ≡ b.used + 0 = omega arith in
    subst (λ (n : ℕ). Made (over b m) [] (over (beside b.journal n b) m)) z none
rebase {m} {m'} b l (one {s} {ss} h t) =
    let next : Mem = beside (set b.journal b.used (word_of s)) (suc b.used) b in
    let z : suc b.used + length ss ≡ b.used + suc (length ss) = omega arith in
    let fit : suc b.used + length ss ≤ length next.journal = omega (arith, length-set b.journal b.used (word_of s)) in
    let free : b.used < length b.journal = omega arith in
    one (record { inside = h.inside; allowed = h.allowed; byte = h.byte; word_left = free; was = h.was })
    (subst (λ (n : ℕ). Made (over next (make s m)) ss (over (beside (sets next.journal next.used (map word_of ss)) n next) m')) z (rebase next fit t))
