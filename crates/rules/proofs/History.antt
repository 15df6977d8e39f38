-- Demand 3: any sequence of steps and step-backs, from an empty journal.
-- By induction on the sequence: the cells are those of the accepted steps not taken back, and the used words are the records of those that are kept.
use mathlib.Core.Path.{◌≡◌, refl, ◌∙◌, ap, ap₂, sym, subst}
use mathlib.Core.Bool.{Bool, true, false}
use mathlib.Core.List.{List, [], ◌∷◌, ◌++◌, map}
use Prim.Native.Nat.{ℕ, zero, suc, ◌+◌, ◌-◌, ◌≤◌, ◌<◌}
use native.Mathlib.Omega.{arith}
use lib.ListN.{length, set, take, drop, length-append, length-set, take-append-drop}
use lib.Seq.{sets, sets-eq, take-set-le, take-take, length-take-le, take-append_seam}
use Rattle.rules.specs.Machine.{pick, Mem, mem, State, state, flagged, address, cells, beside, over, at_rest}
use Rattle.rules.specs.Answers.{Answer, answer_for, wrong_length, no_record}
use Rattle.rules.specs.Journal.{mark_word, lay, Store, word_of, blank, blanked, used_words, forget}
use Rattle.rules.specs.Rules.{Out}
use Rattle.rules.specs.Sound.{Source}
use Rattle.rules.specs.Calls.{Way, place_fits, fits, Reply, done, refused, left, settle, fit_step, step, step_stores, scan, fit_back, step_back}
use Rattle.rules.specs.Demands.{Bytes, Good, Accepted, begun_words, dropped_words, Drops, record_of, Op, forth, aback, reply, play, forward, AllAccepted, records, total}
use Rattle.rules.specs.Demands.{Past, past, stay, tally, history, Demand1, Demand2, Demand3}
use Rattle.rules.proofs.Stores.{Made, none, one, lengths_after, journal_length, used_after, ring_after, groups_after}
use Rattle.rules.proofs.Tests.{false_true}
use Rattle.rules.proofs.Forget.{length_forget, take_forget, drops_plain, drops_room}
use Rattle.rules.proofs.Undo.{length_blank}
use Rattle.rules.proofs.Laid.{Late}
use Rattle.rules.proofs.Kept.{point, Both, on, off, rested}
use Rattle.rules.proofs.Alike.{Alike, alike, attempt_alike, step_stores_lem, tick_sent_lem}
use Rattle.rules.proofs.Steps.{Stepped, Settled, address_small, back_late, rebase}
use Rattle.rules.proofs.Fits.{fits_used, fits_place, Like, fits_like, place_fits_lem, step_fit, step_unfit, accepted_fits, step_settled, back_fit}
use Rattle.rules.proofs.Replies.{demand1, demand2}
use Rattle.rules.proofs.Records.{made_marked, Recorded, fitting_all, drops_kept}

-- ---- one step

stepped_of : (s : State) (ss : List Store) (r : Reply) → Settled s ss r → Accepted r → Stepped s ss (left r)
stepped_of s ss (done t) h a = h
stepped_of s ss (refused n t) h a = absurd a

pub stepped : (w : Way) (s : State) → Good s → Accepted (step w s) → Stepped s (step_stores w s) (left (step w s))
stepped w s g a = stepped_of s (step_stores w s) (step w s) (step_settled w s g) a

-- the count of words of older steps is not looked at
abbrev elder : ℕ → Mem → Mem
elder o m = mem m.image m.groups m.pad m.vram m.regs m.journal m.used o m.place m.ring

made_elder : {m m' : Mem} {ss : List Store} (o : ℕ) → Made m ss m' → Made (elder o m) ss (elder o m')
made_elder o none = none
made_elder o (one h t) =
    one (record { inside = h.inside; allowed = h.allowed; byte = h.byte; word_left = h.word_left; was = h.was }) (made_elder o t)

-- A step-back right after an accepted step undoes it: address and memories as before, and 0 in the words that the step took and in those that it dropped.
pub back_undoes : (w : Way) (s : State) (g : Good s) (a : Accepted (step w s)) → fits (left (step w s)).mem ≡ true
    → step_back (left (step w s))
    ≡ done (state s.pc s.source (blanked (suc (length (step_stores w s))) (forget (stepped w s g a).late.dropped (at_rest s.mem))))
back_undoes w s g a f =
    let h : Stepped s (step_stores w s) (left (step w s)) = stepped w s g a in
    let l : Late (address s) (at_rest s.mem) (step_stores w s) h.end = h.late in
    let before : Mem = elder h.end.used (forget l.dropped (at_rest s.mem)) in
    back_fit (left (step w s)) f
    ∙ back_late before (left (step w s)) g g.bytes l.word_left
    (subst (Made (lay (mark_word (address s)) before) (step_stores w s)) (sym h.rests) (made_elder h.end.used l.makes))

-- the used words of a machine that fits
used_length : (m : Mem) → fits m ≡ true → length (used_words m) ≡ m.used
used_length m f = length-take-le m.used m.journal (fits_used m f)

-- a step leaves parts that fit, if they did
like_done : (w : Way) (s t : State) → fits s.mem ≡ true → Stepped s (step_stores w s) t → Demand2 w s t (length (step_stores w s)) → Like s.mem t.mem
like_done w s t f h d =
    let l : Late (address s) (at_rest s.mem) (step_stores w s) h.end = h.late in
    let some : dropped_words w s ≤ length s.mem.journal = omega (arith, (drops_room d.drops).0, used_length s.mem f, fits_used s.mem f) in
    let j : List ℕ = (forget l.dropped s.mem).journal in
    let long : length t.mem.journal ≡ length s.mem.journal =
    ap (λ (m : Mem). length m.journal) h.rests ∙ journal_length l.makes ∙ length-set j (s.mem.used - l.dropped) (mark_word (address s))
    ∙ length_forget l.dropped s.mem.journal (omega (arith, l.within, fits_used s.mem f)) in
    record {
      cells = λ k. ap (λ (m : Mem). length (cells k m)) h.rests ∙ lengths_after k l.makes;
      words = long;
      mode = ap (λ (m : Mem). m.ring) h.rests ∙ ring_after l.makes;
      used = omega (arith, d.used, d.begun, (drops_room d.drops).1, used_length s.mem f);
      place = rw d.place (place_fits_lem s.mem.ring (dropped_words w s) s.mem.place (length s.mem.journal) some (fits_place s.mem f));
    }

blank_take : (n u : ℕ) (l : List ℕ) → take u (blank n u l) ≡ take u l
blank_take n u l = go n u (omega arith)
  where
    go : (n i : ℕ) → u ≤ i → take u (blank n i l) ≡ take u l
    go zero i h = refl
    go (suc n) i h = take-set-le u (blank n (suc i) l) i 0 h ∙ go n (suc i) (omega arith)

like_refused : (w : Way) (s t : State) (a : Answer) → fits s.mem ≡ true → Demand1 w s a t → Like s.mem t.mem
like_refused w s t a f d =
    let some : dropped_words w s ≤ length s.mem.journal = omega (arith, (drops_room d.drops).0, used_length s.mem f, fits_used s.mem f) in
    record {
      cells = λ k. ap length (d.memories k);
      words = ap length d.words ∙ length_blank (begun_words w s) t.mem.used _ ∙ length_forget (dropped_words w s) s.mem.journal some;
      mode = d.mode;
      used = omega (arith, d.used, fits_used s.mem f);
      place = rw d.place (place_fits_lem s.mem.ring (dropped_words w s) s.mem.place (length s.mem.journal) some (fits_place s.mem f));
    }

-- with no word used there is no record
pub back_none : (s : State) → fits s.mem ≡ true → s.mem.used ≡ 0 → step_back s ≡ refused (answer_for no_record) s
unfolding step_back fit_back scan
back_none s f z = rw (f, z)

-- words laid where they stand
sets_there : (j ws : List ℕ) (u : ℕ) → u + length ws ≤ length j → take (u + length ws) j ≡ take u j ++ ws → sets j u ws ≡ j
sets_there j ws u l e = sets-eq ws j u l ∙ ap (λ (x : List ℕ). x ++ drop (u + length ws) j) (sym e) ∙ take-append-drop (u + length ws) j

length_words : (ss : List Store) → length (map word_of ss) ≡ length ss
length_words [] = refl
length_words (s ∷ ss) = ap suc (length_words ss)

-- an accepted step leaves parts that fit
pub fits_after : (w : Way) (s : State) → Good s → Accepted (step w s) → fits (left (step w s)).mem ≡ true
fits_after w s g a = go (step w s) refl (stepped w s g a) a
  where
    f : fits s.mem ≡ true
    f = accepted_fits w s a

    go : (r : Reply) → step w s ≡ r → Stepped s (step_stores w s) (left r) → Accepted r → fits (left r).mem ≡ true
    go (done t) e h b = fits_like (like_done w s t f h (demand2 w s t e)) f
    go (refused x t) e h b = absurd b

-- ---- two machines side by side

-- y has the cells of x, and its own journal
pub record Shares (x y : State) : Type 0 where
  pub pc : y.pc ≡ x.pc
  pub source : y.source ≡ x.source
  pub cells : y.mem ≡ over y.mem x.mem

-- how steps of two such machines end: both are done, and share cells; or both are refused, and s has its cells back
data Matched (s : State) : Reply → Reply → Type 0 where
  dones : {x y : State} → Shares x y → Matched s (done x) (done y)
  refusals : {a b : Answer} {x y : State} → Shares s y → Matched s (refused a x) (refused b y)

settle_matched : (t s : State) {o p : Out Source} → Both Alike (λ a m n. Unit {0}) o p → Matched s (settle t o) (settle s p)
settle_matched t s (on (alike m n l)) = dones (record { pc = refl; source = refl; cells = refl })
settle_matched t s (off h) = refusals (record { pc = refl; source = refl; cells = refl })

step_matched : (w : Way) (t s : State) → fits t.mem ≡ true → fits s.mem ≡ true → s.pc ≡ t.pc → s.source ≡ t.source → Alike (rested t) (rested s)
    → Matched s (step w t) (step w s)
unfolding fit_step
step_matched w t s f k e v h = rw (step_fit w t f, step_fit w s k) (settle_matched t s (attempt_alike w t s (sym e) (sym v) h))

-- at rest: in the ring no word is held, and else as many as are used
pub alike_rest : (t s : State) → Shares t s → fits t.mem ≡ true → fits s.mem ≡ true → s.mem.ring ≡ t.mem.ring
    → length s.mem.journal ≡ length t.mem.journal → (s.mem.ring ≡ false → s.mem.used ≡ t.mem.used) → Alike (rested t) (rested s)
alike_rest t s sh f k r l u =
    let whole : rested s ≡ point t.pc (over (at_rest s.mem) (at_rest t.mem)) = ap₂ point sh.pc (ap at_rest sh.cells) in
    subst (Alike (rested t)) (sym whole) (alike (at_rest t.mem) (at_rest s.mem)
    (record {
      ring = r;
      size = l;
      holding = go s.mem.ring refl;
      fits = (fits_used t.mem f, fits_used s.mem k);
      orderly = (omega arith, omega arith);
    }))
  where
    go : (c : Bool) → s.mem.ring ≡ c
        → pick s.mem.ring (s.mem.used - s.mem.used) s.mem.used ≡ pick t.mem.ring (t.mem.used - t.mem.used) t.mem.used
    go true e =
        let x : s.mem.used - s.mem.used ≡ t.mem.used - t.mem.used = omega arith in
        let y : t.mem.ring ≡ true = sym r ∙ e in
        rw (e, y) x
    go false e =
        let y : t.mem.ring ≡ false = sym r ∙ e in
        rw (e, y) (u e)

-- ---- only steps

module _ (s₀ : State) (g₀ : Good s₀) where
  pub good_forward : (ws : List Way) → AllAccepted ws s₀ → Good (forward ws s₀)
  good_forward [] a = g₀
  good_forward (w ∷ ws) a = (stepped w (forward ws s₀) (good_forward ws a.0) a.1).good

  pub stepped_forward : (w : Way) (ws : List Way) → AllAccepted (w ∷ ws) s₀ → Stepped (forward ws s₀) (step_stores w (forward ws s₀)) (forward (w ∷ ws) s₀)
  stepped_forward w ws a = stepped w (forward ws s₀) (good_forward ws a.0) a.1

  groups_forward : (ws : List Way) → AllAccepted ws s₀ → (forward ws s₀).mem.groups ≡ s₀.mem.groups
  groups_forward [] a = refl
  groups_forward (w ∷ ws) a =
      let h : Stepped (forward ws s₀) (step_stores w (forward ws s₀)) (forward (w ∷ ws) s₀) = stepped_forward w ws a in
      ap (λ (m : Mem). m.groups) h.rests ∙ groups_after h.late.makes ∙ groups_forward ws a.0

  pub ring_forward : (ws : List Way) → AllAccepted ws s₀ → (forward ws s₀).mem.ring ≡ s₀.mem.ring
  ring_forward [] a = refl
  ring_forward (w ∷ ws) a =
      let h : Stepped (forward ws s₀) (step_stores w (forward ws s₀)) (forward (w ∷ ws) s₀) = stepped_forward w ws a in
      ap (λ (m : Mem). m.ring) h.rests ∙ ring_after h.late.makes ∙ ring_forward ws a.0

  -- The count of stores is no invention: where no step is dropped, the journal has grown by a mark for each step and a word for each store.
  pub used_run : s₀.mem.ring ≡ false → (ws : List Way) → AllAccepted ws s₀ → (forward ws s₀).mem.used ≡ s₀.mem.used + length ws + total ws s₀
  used_run e [] a = omega arith
  used_run e (w ∷ ws) a =
      let h : Stepped (forward ws s₀) (step_stores w (forward ws s₀)) (forward (w ∷ ws) s₀) = stepped_forward w ws a in
      omega (
        arith,
        used_run e ws a.0,
        ap (λ (m : Mem). m.used) h.rests,
        used_after h.late.makes,
        drops_plain (ring_forward ws a.0 ∙ e) h.late.few,
      )

  recorded : (ws : List Way) → AllAccepted ws s₀ → Recorded s₀ ws
  recorded [] a = tt
  recorded (w ∷ ws) a =
      let g : Good (forward ws s₀) = good_forward ws a.0 in
      (recorded ws a.0, made_marked (address_small g) g.bytes (stepped_forward w ws a).late.makes)

-- ---- steps and step-backs

module _ (s₀ : State) (g₀ : Good s₀) (f₀ : fits s₀.mem ≡ true) where
  -- the state s is that of these accepted steps, and its used words are the records of the newest k
  record Agrees (ws : List Way) (k : ℕ) (s : State) : Type 0 where
    accepted : AllAccepted ws s₀
    shares : Shares (forward ws s₀) s
    fit : fits s.mem ≡ true
    size : length s.mem.journal ≡ length s₀.mem.journal
    mode : s.mem.ring ≡ s₀.mem.ring
    words : used_words s.mem ≡ records k ws s₀
    within : k ≤ length ws
    all : s₀.mem.ring ≡ false → k ≡ length ws

  agrees_used : {ws : List Way} {k : ℕ} {s : State} → Agrees ws k s → s.mem.used ≡ length (records k ws s₀)
  agrees_used {s = s} h = sym (used_length s.mem h.fit) ∙ ap length h.words

  -- where none is dropped, as many words are used
  agrees_plain : {ws : List Way} {k l : ℕ} {s t : State} → Agrees ws k s → Agrees ws l t → s₀.mem.ring ≡ false → s.mem.used ≡ t.mem.used
  agrees_plain {ws} {k} {l} h i e =
      let z : k ≡ l = h.all e ∙ sym (i.all e) in
      agrees_used h ∙ ap (λ (x : ℕ). length (records x ws s₀)) z ∙ sym (agrees_used i)

  agrees_good : {ws : List Way} {k : ℕ} {s : State} → Agrees ws k s → Good s
  agrees_good {ws} {s = s} h =
      let g : Good (forward ws s₀) = good_forward s₀ g₀ ws h.accepted in
      let m : Bytes s.mem = subst Bytes (sym h.shares.cells) g.bytes in
      record { address = subst (λ (pc : ℕ). pc < 65536) (sym h.shares.pc) g.address; bytes = m }

  agrees_alike : {ws : List Way} {k l : ℕ} {s : State} → Agrees ws k s → Agrees ws l (forward ws s₀) → Alike (rested (forward ws s₀)) (rested s)
  agrees_alike {ws} {s = s} h i =
      alike_rest (forward ws s₀) s h.shares i.fit h.fit (h.mode ∙ sym i.mode) (h.size ∙ sym i.size) (λ e. agrees_plain h i (sym h.mode ∙ e))

  -- what is kept beside the words that a step takes
  module _ (w : Way) {ws : List Way} {k : ℕ} {s : State} (h : Agrees ws k s) where
    kept : ℕ
    kept = stay s₀ w s (past ws k)

    abbrev Dropped : Type 0
    Dropped = Drops s.mem.ring (length s.mem.journal) (begun_words w s) (used_words s.mem) (dropped_words w s)

    kept_words : Dropped → (drop (dropped_words w s) (used_words s.mem) ≡ records kept ws s₀) × (kept ≤ k)
    unfolding kept
    kept_words d = drops_kept s₀ k ws (recorded s₀ g₀ ws h.accepted) h.within h.words d

    kept_all : Dropped → s₀.mem.ring ≡ false → kept ≡ length ws
    unfolding kept
    kept_all d e =
        fitting_all s₀ k ws _ (omega (arith, (drops_room d).1, drops_plain (h.mode ∙ e) d, ap length h.words)) ∙ h.all e

  -- a step that was done
  agrees_done : (w : Way) {ws : List Way} {k : ℕ} {s x y : State} (h : Agrees ws k s) → Alike (rested (forward ws s₀)) (rested s)
      → step w (forward ws s₀) ≡ done x → step w s ≡ done y → Shares x y → Agrees (w ∷ ws) (suc (kept w h)) y
  agrees_done w {ws} {k} {s} {x} {y} h l e q sh =
      let t : State = forward ws s₀ in
      let d : Demand2 w s y (length (step_stores w s)) = demand2 w s y q in
      let st : Stepped s (step_stores w s) y = subst (λ (r : Reply). Stepped s (step_stores w s) (left r)) q (stepped w s (agrees_good h) (subst Accepted (sym q) tt)) in
      let like : Like s.mem y.mem = like_done w s y h.fit st d in
      let marked : address s ≡ address t = ap₂ flagged h.shares.pc h.shares.source in
      let same : record_of w s ≡ record_of w t =
      ap₂ (λ (a : ℕ) (ss : List Store). mark_word a ∷ map word_of ss) marked (sym (step_stores_lem t s (sym h.shares.pc) (sym h.shares.source) l w)) in
      record {
        accepted = (h.accepted, subst Accepted (sym e) tt);
        shares = subst (λ (r : Reply). Shares (left r) y) (sym e) sh;
        fit = fits_like like h.fit;
        size = like.words ∙ h.size;
        mode = like.mode ∙ h.mode;
        words = d.words ∙ ap₂ (λ (a b : List ℕ). a ++ b) (kept_words w h d.drops).0 same;
        within = omega (arith, (kept_words w h d.drops).1, h.within);
        all = λ z. ap suc (kept_all w h d.drops z);
      }

  -- a step that was refused
  agrees_refused : (w : Way) {ws : List Way} {k : ℕ} {s y : State} {a : Answer} (h : Agrees ws k s) → step w s ≡ refused a y → Shares s y → Agrees ws (kept w h) y
  agrees_refused w {ws} {k} {s} {y} {a} h q sh =
      let d : Demand1 w s a y = demand1 w s a y q in
      let like : Like s.mem y.mem = like_refused w s y a h.fit d in
      let some : dropped_words w s ≤ s.mem.used = omega (arith, (drops_room d.drops).0, used_length s.mem h.fit) in
      let left_words : used_words y.mem ≡ drop (dropped_words w s) (used_words s.mem) =
      ap (take y.mem.used) d.words ∙ blank_take (begun_words w s) y.mem.used _ ∙ ap (λ (u : ℕ). take u (forget (dropped_words w s) s.mem).journal) d.used
      ∙ take_forget (dropped_words w s) s.mem.used s.mem.journal some (fits_used s.mem h.fit) in
      record {
        accepted = h.accepted;
        shares = record {
          pc = sh.pc ∙ h.shares.pc;
          source = sh.source ∙ h.shares.source;
          cells = sh.cells ∙ ap (over y.mem) h.shares.cells;
        };
        fit = fits_like like h.fit;
        size = like.words ∙ h.size;
        mode = like.mode ∙ h.mode;
        words = left_words ∙ (kept_words w h d.drops).0;
        within = omega (arith, (kept_words w h d.drops).1, h.within);
        all = kept_all w h d.drops;
      }

  -- after a step, as a tally
  abbrev Agreed : Past → State → Type 0
  Agreed h s = Agrees h.steps h.kept s

  agrees_forth : (w : Way) {ws : List Way} {k l : ℕ} {s : State} → Agrees ws k s → Agrees ws l (forward ws s₀)
      → Agreed (tally s₀ (forth w) s (step w s) (past ws k)) (left (step w s))
  unfolding kept
  agrees_forth w {ws} {k} {l} {s} h i = go (step w (forward ws s₀)) refl (step w s) refl
      (step_matched w (forward ws s₀) s i.fit h.fit h.shares.pc h.shares.source (agrees_alike h i))
    where
      go : (p : Reply) → step w (forward ws s₀) ≡ p → (r : Reply) → step w s ≡ r → Matched s p r → Agreed (tally s₀ (forth w) s r (past ws k)) (left r)
      go p e r q (dones sh) = agrees_done w h (agrees_alike h i) e q sh
      go p e r q (refusals sh) = agrees_refused w h q sh

  -- ---- the newest is taken back

  module _ {w : Way} {ws : List Way} {k : ℕ} {s : State} (h : Agrees (w ∷ ws) (suc k) s) where
    abbrev u : ℕ
    u = length (records k ws s₀)

    abbrev t : State
    t = forward ws s₀

    -- its stores
    abbrev ss : List Store
    ss = step_stores w t

    -- the machine before it, beside the journal of now
    abbrev base : Mem
    base = over (beside s.mem.journal u s.mem) t.mem

    used_now : s.mem.used ≡ u + suc (length ss)
    used_now = agrees_used h ∙ length-append (records k ws s₀) (record_of w t) ∙ ap (λ (x : ℕ). u + suc x) (length_words ss)

    room_now : u + suc (length ss) ≤ length s.mem.journal
    room_now = subst (λ (x : ℕ). x ≤ length s.mem.journal) used_now (fits_used s.mem h.fit)

    words_before : take u s.mem.journal ≡ records k ws s₀
    words_before =
        sym (take-take u s.mem.used s.mem.journal (omega (arith, used_now))) ∙ ap (take u) h.words ∙ take-append_seam (records k ws s₀) (record_of w t)

    base_made : Made (lay (mark_word (address t)) base) ss s.mem
    base_made =
        let p : Stepped t ss (forward (w ∷ ws) s₀) = stepped_forward s₀ g₀ w ws h.accepted in
        let j : List ℕ = s.mem.journal in
        let top : ℕ = mark_word (address t) in
        let xs : List ℕ = map word_of ss in
        let many : length xs ≡ length ss = length_words ss in
        let b : Mem = beside (set j u top) (suc u) s.mem in
        let fit : suc u + length ss ≤ length b.journal = omega (arith, room_now, length-set j u top) in
        let used : suc u + length ss ≡ s.mem.used = omega (arith, used_now) in
        let all_used : u + suc (length xs) ≡ s.mem.used = omega (arith, used_now, many) in
        let there : sets j u (top ∷ xs) ≡ j =
        sets_there j (top ∷ xs) u (omega (arith, room_now, many))
        (ap (λ (x : ℕ). take x j) all_used ∙ h.words ∙ ap (λ (x : List ℕ). x ++ top ∷ xs) (sym words_before)) in
        subst (Made (lay top base) ss)
        (ap₂ (λ (l : List ℕ) (v : ℕ). over (beside l v s.mem) p.end) there used ∙ sym (h.shares.cells ∙ ap (over s.mem) p.rests))
        (rebase b fit p.late.makes)

    back_is : step_back s ≡ done (state t.pc t.source (at_rest (blanked (suc (length ss)) base)))
    back_is =
        let g : Good t = good_forward s₀ g₀ ws h.accepted.0 in
        back_fit s h.fit ∙ back_late base s g g.bytes (omega (arith, room_now)) base_made

    agrees_back : {l : ℕ} → Agrees ws l t → Agrees ws k (left (step_back s))
    agrees_back i = subst (λ (r : Reply). Agrees ws k (left r)) (sym back_is)
        (record {
          accepted = h.accepted.0;
          shares = record { pc = refl; source = refl; cells = refl };
          fit = fits_like like i.fit;
          size = long ∙ h.size;
          mode = h.mode;
          words = blank_take (suc (length ss)) u s.mem.journal ∙ words_before;
          within = omega (arith, h.within);
          all = λ e. omega (arith, h.all e);
        })
      where
        long : length (blank (suc (length ss)) u s.mem.journal) ≡ length s.mem.journal
        long = length_blank (suc (length ss)) u s.mem.journal

        like : Like t.mem (blanked (suc (length ss)) base)
        like =
            record {
              cells = λ x. refl;
              words = long ∙ h.size ∙ sym i.size;
              mode = h.mode ∙ sym i.mode;
              used = omega (arith, room_now, h.size, i.size);
              place = ap₂ (λ (b : Bool) (c : ℕ). place_fits b s.mem.place c) (i.mode ∙ sym h.mode) (i.size ∙ sym h.size) ∙ fits_place s.mem h.fit;
            }

-- ---- a sequence

module _ (s₀ : State) (g₀ : Good s₀) (f₀ : fits s₀.mem ≡ true) (z : s₀.mem.used ≡ 0) where
  abbrev Agrees₀ : List Way → ℕ → State → Type 0
  Agrees₀ = Agrees s₀ g₀ f₀

  first_of_all : Agrees₀ [] 0 s₀
  first_of_all =
      record {
        accepted = tt;
        shares = record { pc = refl; source = refl; cells = refl };
        fit = f₀;
        size = refl;
        mode = refl;
        words = ap (λ (u : ℕ). take u s₀.mem.journal) z;
        within = omega arith;
        all = λ e. refl;
      }

  -- the accepted steps alone
  record Reached (ws : List Way) (s : State) : Type 0 where
    kept : ℕ
    is : Agrees₀ ws kept s

  one_more : (w : Way) (ws : List Way) (k : ℕ) (s : State) (q : Reply) → Accepted q → Agreed s₀ g₀ f₀ (tally s₀ (forth w) s q (past ws k)) (left q)
      → Reached (w ∷ ws) (left q)
  one_more w ws k s (done t) b h = record { kept = _; is = h }
  one_more w ws k s (refused x t) b h = absurd b

  reached : (ws : List Way) → AllAccepted ws s₀ → Reached ws (forward ws s₀)
  reached [] a = record { kept = 0; is = first_of_all }
  reached (w ∷ ws) a =
      let r : Reached ws (forward ws s₀) = reached ws a.0 in
      one_more w ws r.kept (forward ws s₀) (step w (forward ws s₀)) a.1 (agrees_forth s₀ g₀ f₀ w r.is r.is)

  one_less : (w : Way) (ws : List Way) (k : ℕ) (s : State) (q : Reply) → Accepted q → Agrees₀ ws k (left q)
      → Agreed s₀ g₀ f₀ (tally s₀ aback s q (past (w ∷ ws) (suc k))) (left q)
  one_less w ws k s (done t) b h =
      let y : k ≡ suc k - 1 = omega arith in
      subst (λ (a : ℕ). Agrees₀ ws a t) y h
  one_less w ws k s (refused x t) b h = absurd b

  -- a step back is refused exactly where none is kept
  accepted_others : (ws : List Way) (k : ℕ) (s : State) → Agrees₀ ws k s → 0 < k → Accepted (step_back s)
  accepted_others ws zero s i l = absurd (omega arith)
  accepted_others [] (suc k) s i l = absurd (omega (arith, i.within))
  accepted_others (w ∷ ws) (suc k) s i l = subst Accepted (sym (back_is s₀ g₀ f₀ i)) tt

  aback_is : (ws : List Way) (k : ℕ) (s : State) → Agrees₀ ws k s → Agreed s₀ g₀ f₀ (tally s₀ aback s (step_back s) (past ws k)) (left (step_back s))
  aback_is ws zero s i =
      subst (λ (r : Reply). Agreed s₀ g₀ f₀ (tally s₀ aback s r (past ws 0)) (left r)) (sym (back_none s i.fit (agrees_used s₀ g₀ f₀ i))) i
  aback_is [] (suc k) s i = absurd (omega (arith, i.within))
  aback_is (w ∷ ws) (suc k) s i =
      one_less w ws k s (step_back s) (accepted_others (w ∷ ws) (suc k) s i (omega arith)) (agrees_back s₀ g₀ f₀ i (reached ws i.accepted.0).is)

  op_is : (o : Op) (h : Past) (s : State) → Agreed s₀ g₀ f₀ h s → Agreed s₀ g₀ f₀ (tally s₀ o s (reply o s) h) (left (reply o s))
  op_is (forth w) h s i = agrees_forth s₀ g₀ f₀ w i (reached h.steps i.accepted).is
  op_is aback h s i = aback_is h.steps h.kept s i

  play_is : (os : List Op) (h : Past) (s : State) → Agreed s₀ g₀ f₀ h s → Agreed s₀ g₀ f₀ (history s₀ os s h) (play os s)
  play_is [] h s i = i
  play_is (o ∷ os) h s i = play_is os (tally s₀ o s (reply o s) h) (left (reply o s)) (op_is o h s i)

  meets : (h : Past) (s : State) → Agreed s₀ g₀ f₀ h s → Demand3 s₀ h s
  meets h s i =
      let t : State = forward h.steps s₀ in
      let sh : Shares t s = i.shares in
      record {
        accepted = i.accepted;
        address = sh.pc;
        source = sh.source;
        memories = λ k. ap (cells k) sh.cells;
        sends = λ n. sym (tick_sent_lem t s (sym sh.pc) (sym sh.source) (agrees_alike s₀ g₀ f₀ i (reached h.steps i.accepted).is) n);
        groups = ap (λ (m : Mem). m.groups) sh.cells ∙ groups_forward s₀ g₀ h.steps i.accepted;
        mode = i.mode;
        used = agrees_used s₀ g₀ f₀ i;
        words = i.words;
        within = i.within;
        all = i.all;
        none_left = λ e f. back_none s f (agrees_used s₀ g₀ f₀ i ∙ ap (λ (k : ℕ). length (records k h.steps s₀)) e);
        some_left = accepted_others h.steps h.kept s i;
      }

-- ---- where test 11 fails, nothing moves

module _ (s : State) (f : fits s.mem ≡ false) (z : s.mem.used ≡ 0) where
  unfit_reply : (o : Op) → reply o s ≡ refused (answer_for wrong_length) s
  unfolding step_back
  unfit_reply (forth w) = step_unfit w s f
  unfit_reply aback = rw f

  unfit_tally : (o : Op) → tally s o s (reply o s) (past [] 0) ≡ past [] 0
  unfit_tally (forth w) = ap (λ (r : Reply). tally s (forth w) s r (past [] 0)) (unfit_reply (forth w))
  unfit_tally aback = ap (λ (r : Reply). tally s aback s r (past [] 0)) (unfit_reply aback)

  unfit_meets : Demand3 s (past [] 0) s
  unfit_meets =
      record {
        accepted = tt;
        address = refl;
        source = refl;
        memories = λ k. refl;
        sends = λ n. refl;
        groups = refl;
        mode = refl;
        used = z;
        words = ap (λ (u : ℕ). take u s.mem.journal) z;
        within = omega arith;
        all = λ e. refl;
        none_left = λ e g. absurd (false_true (sym f ∙ g));
        some_left = λ l. absurd (omega arith);
      }

  unfit_play : (os : List Op) (h : Past) (t : State) → h ≡ past [] 0 → t ≡ s → Demand3 s (history s os t h) (play os t)
  unfit_play [] h t p q = rw (p, q) unfit_meets
  unfit_play (o ∷ os) h t p q =
      unfit_play os (tally s o t (reply o t) h) (left (reply o t)) (rw (p, q) (unfit_tally o)) (ap (λ (x : State). left (reply o x)) q ∙ ap left (unfit_reply o))

-- From any state with an empty journal, after any sequence of calls: what demand 3 says, of the accepted steps not taken back and of those that are kept.
pub demand3 : (s₀ : State) → Good s₀ → s₀.mem.used ≡ 0 → (os : List Op) → Demand3 s₀ (history s₀ os s₀ (past [] 0)) (play os s₀)
demand3 s₀ g z os = go (fits s₀.mem) refl
  where
    go : (c : Bool) → fits s₀.mem ≡ c → Demand3 s₀ (history s₀ os s₀ (past [] 0)) (play os s₀)
    go true f = meets s₀ g f z (history s₀ os s₀ (past [] 0)) (play os s₀) (play_is s₀ g f z os (past [] 0) s₀ (first_of_all s₀ g f z))
    go false f = unfit_play s₀ f z os (past [] 0) s₀ refl refl
