-- The answer is the true one. By induction on the kept steps: after their records the trail names the newest of them that stored to the cell, and since then
-- the cell has kept its byte.
use Rattle.std.proofs.Common.{◌≡◌, refl, ◌∙◌, ap, ap₂, sym, subst, Bool, true, false, List, [], ◌∷◌, ◌++◌, map, ℕ, zero, suc, ◌%◌, ◌≤◌, ◌<◌, not-suc-le-zero, arith, ltb, eqb, length, get_or, set, get_or-set_other, eqb-true, eq-eqb, lt-ltb}
use borrow.Author.Tests.{eqb-false}
use Rattle.rules.specs.Machine.{pick, ◌also◌, Kind, cpu, vdp, register, grom, Area, area_of, extent, writable, Mem, area, State, address, cells, put}
use Rattle.rules.specs.Answers.{number, answer_for, wrong_length, no_record}
use Rattle.rules.specs.Journal.{kind_number, Store, word_of, make, Note, stood, mark, nothing, note, sound, used_words}
use Rattle.rules.specs.Calls.{Way, fits, step_stores}
use Rattle.rules.specs.Demands.{Bytes, Good, Op, play, Past, past, history, forward, AllAccepted, record_of, records, Demand3}
use Rattle.rules.proofs.Tests.{false_true, both, together}
use Rattle.rules.proofs.Stores.{Made, none, one, area_after}
use Rattle.rules.proofs.Undo.{note_mark, note_store, bytes_after}
use Rattle.rules.proofs.Steps.{Stepped, flagged_parts, address_small}
use Rattle.rules.proofs.Records.{made_marked}
use Rattle.rules.proofs.History.{good_forward, stepped_forward, demand3}
use Rattle.culprit.specs.Culprit.{same_cell, byte_at, Writer, nobody, writer, later, stamped, Trail, trail, told, follow, writer_in, all_sound, marked, whole}
use Rattle.culprit.specs.Culprit.{Wrote, refusal, none_kept, wrote, named, answered, fit_who, who_wrote, stores_to}
use Rattle.culprit.specs.Culprit.{Among, newest, older, after, before, left_by, step_to, True, unfit, nobody_did, that_did}
use Rattle.culprit.proofs.Trails.{follow_append, sound_append}

-- ---- one cell

-- two kinds are one, or a byte put into one memory leaves the other
data Kinds : Kind → Kind → Type 0 where
  alike : {k : Kind} → Kinds k k
  apart : {k l : Kind} → eqb (kind_number k) (kind_number l) ≡ false → ((a b : ℕ) (m : Mem) → cells k (put l a b m) ≡ cells k m) → Kinds k l

kinds : (k l : Kind) → Kinds k l
kinds cpu cpu = alike
kinds cpu vdp = apart refl (λ a b m. refl)
kinds cpu register = apart refl (λ a b m. refl)
kinds cpu grom = apart refl (λ a b m. refl)
kinds vdp cpu = apart refl (λ a b m. refl)
kinds vdp vdp = alike
kinds vdp register = apart refl (λ a b m. refl)
kinds vdp grom = apart refl (λ a b m. refl)
kinds register cpu = apart refl (λ a b m. refl)
kinds register vdp = apart refl (λ a b m. refl)
kinds register register = alike
kinds register grom = apart refl (λ a b m. refl)
kinds grom cpu = apart refl (λ a b m. refl)
kinds grom vdp = apart refl (λ a b m. refl)
kinds grom register = apart refl (λ a b m. refl)
kinds grom grom = alike

put_alike : (k : Kind) (a b : ℕ) (m : Mem) → cells k (put k a b m) ≡ set (cells k m) a b
put_alike cpu a b m = refl
put_alike vdp a b m = refl
put_alike register a b m = refl
put_alike grom a b m = refl

-- two names of one cell have one byte
same_byte : {k l : Kind} (a b : ℕ) (m : Mem) → Kinds k l → same_cell k a l b ≡ true → byte_at l b m ≡ byte_at k a m
unfolding same_cell
same_byte a b m (alike {k}) e = ap (λ (n : ℕ). byte_at k n m) (sym (eqb-true a b (both e).1))
same_byte a b m (apart n h) e = absurd (false_true (sym n ∙ (both e).0))

-- a byte put into another cell leaves it
other_byte : {k l : Kind} (a b c : ℕ) (m : Mem) → Kinds k l → same_cell k a l b ≡ false → byte_at k a (put l b c m) ≡ byte_at k a m
unfolding same_cell ◌also◌
other_byte a b c m (alike {k}) e =
    let z : eqb a b ≡ false = rw (eq-eqb (kind_number k) (kind_number k) refl) at e in
    ap (λ (l : List ℕ). get_or l a 0) (put_alike k b c m) ∙ get_or-set_other (cells k m) b a c 0 (eqb-false a b z)
other_byte a b c m (apart n h) e = ap (λ (l : List ℕ). get_or l a 0) (h b c m)

-- ---- a cell out of reach

other_cell : {k l : Kind} (z : Area) (a b : ℕ) → Kinds k l → (ltb a (extent z k) also writable z k a) ≡ false → (ltb b (extent z l) also writable z l b) ≡ true
    → same_cell k a l b ≡ false
unfolding same_cell ◌also◌
other_cell z a b (alike {k}) e s = go (eqb a b) refl
  where
    go : (c : Bool) → eqb a b ≡ c → (eqb (kind_number k) (kind_number k) also eqb a b) ≡ false
    go true q = absurd (false_true (sym e ∙ ap (λ (n : ℕ). ltb n (extent z k) also writable z k n) (eqb-true a b q) ∙ s))
    go false q = rw (eq-eqb (kind_number k) (kind_number k) refl, q)
other_cell z a b (apart n h) e s = rw n

-- no sound word names it
unnamed : (z : Area) (k : Kind) (a : ℕ) → (ltb a (extent z k) also writable z k a) ≡ false → (ws : List ℕ) (pc : ℕ) → all_sound z ws ≡ true
    → (follow k a ws (trail pc nobody)).by ≡ nobody
unfolding follow all_sound
unnamed z k a e [] pc h = refl
unnamed z k a e (w ∷ ws) pc h = go (note w) (both h).0 (λ q. unnamed z k a e ws q (both h).1)
  where
    go : (x : Note) → sound z x ≡ true → ((q : ℕ) → (follow k a ws (trail q nobody)).by ≡ nobody) → (follow k a ws (told k a x (trail pc nobody))).by ≡ nobody
    go (stood l b c) s so = rw (other_cell z a b (kinds k l) e s) (so pc)
    go (mark q) s so = so (q % 65536)
    go nothing s so = so pc

-- so of one out of reach, or of a group that is not writable, none is kept
pub out_of_reach : (z : Area) (k : Kind) (a left : ℕ) (ws : List ℕ) → (ltb a (extent z k) also writable z k a) ≡ false → whole z ws ≡ true
    → answered z k a left ws ≡ none_kept
unfolding answered whole
out_of_reach z k a left ws e h = rw h (ap (named left) (unnamed z k a e ws 0 (both h).0))

-- ---- the records are whole

made_sound : {m m' : Mem} {ss : List Store} → Bytes m → Made m ss m' → all_sound (area m) (map word_of ss) ≡ true
unfolding all_sound
made_sound b none = refl
made_sound {m} b (one {s} {ss} h t) =
    together (ap (sound (area m)) (note_store s m h b) ∙ together (lt-ltb _ _ h.inside) h.allowed)
    (subst (λ (z : Area). all_sound z (map word_of ss) ≡ true) (area_after (one h none)) (made_sound (bytes_after (one h none) b) t))

marked_append : (xs ys : List ℕ) → marked xs ≡ true → marked ys ≡ true → marked (xs ++ ys) ≡ true
unfolding marked
marked_append [] ys h k = k
marked_append (x ∷ xs) ys h k = h

module _ (s₀ : State) (g₀ : Good s₀) where
  -- what of GROM there is stays
  area_forward : (ws : List Way) → AllAccepted ws s₀ → area (forward ws s₀).mem ≡ area s₀.mem
  area_forward [] acc = refl
  area_forward (w ∷ ws) acc =
      let h : Stepped (forward ws s₀) (step_stores w (forward ws s₀)) (forward (w ∷ ws) s₀) = stepped_forward s₀ g₀ w ws acc in
      ap area h.rests ∙ area_after h.late.makes ∙ area_forward ws acc.0

  record-sound : (w : Way) (ws : List Way) → AllAccepted (w ∷ ws) s₀ → all_sound (area s₀.mem) (record_of w (forward ws s₀)) ≡ true
  unfolding all_sound
  record-sound w ws acc =
      let g : Good (forward ws s₀) = good_forward s₀ g₀ ws acc.0 in
      together (ap (sound (area s₀.mem)) (note_mark (address (forward ws s₀)) (address_small g)) ∙ lt-ltb _ _ (address_small g))
      (subst (λ (z : Area). all_sound z (map word_of (step_stores w (forward ws s₀))) ≡ true) (area_forward ws acc.0)
      (made_sound g.bytes (stepped_forward s₀ g₀ w ws acc).late.makes))

  record-marked : (w : Way) (ws : List Way) → AllAccepted (w ∷ ws) s₀ → marked (record_of w (forward ws s₀)) ≡ true
  unfolding marked
  record-marked w ws acc =
      let g : Good (forward ws s₀) = good_forward s₀ g₀ ws acc.0 in
      (made_marked (address_small g) g.bytes (stepped_forward s₀ g₀ w ws acc).late.makes).0

  records-whole : (c : ℕ) (ws : List Way) → AllAccepted ws s₀ → whole (area s₀.mem) (records c ws s₀) ≡ true
  unfolding whole all_sound marked
  records-whole zero ws acc = together refl refl
  records-whole (suc c) [] acc = together refl refl
  records-whole (suc c) (w ∷ ws) acc =
      let h : (all_sound (area s₀.mem) (records c ws s₀) ≡ true) × (marked (records c ws s₀) ≡ true) = both (records-whole c ws acc.0) in
      together (sound_append (area s₀.mem) (records c ws s₀) (record_of w (forward ws s₀)) h.0 (record-sound w ws acc))
      (marked_append (records c ws s₀) (record_of w (forward ws s₀)) h.1 (record-marked w ws acc))

-- ---- what they say of a cell

module _ (k : Kind) (a : ℕ) where
  byte_make : (s : Store) (m : Mem) → same_cell k a s.kind s.at ≡ false → byte_at k a (make s m) ≡ byte_at k a m
  byte_make s m e = other_byte a s.at s.new m (kinds k s.kind) e

  -- stores to other cells leave it
  byte_after : {m m' : Mem} {ss : List Store} → Made m ss m' → stores_to k a ss ≡ false → byte_at k a m' ≡ byte_at k a m
  byte_after none e = refl
  byte_after {m} {m'} (one {s} {ss} h t) e = go (same_cell k a s.kind s.at) refl e (byte_after t)
    where
      go : (c : Bool) → same_cell k a s.kind s.at ≡ c → pick c true (stores_to k a ss) ≡ false
          → (stores_to k a ss ≡ false → byte_at k a m' ≡ byte_at k a (make s m)) → byte_at k a m' ≡ byte_at k a m
      go true x e f = absurd (false_true (sym e))
      go false x e f = f e ∙ byte_make s m x

  -- a step that has stored there stays the newest, with the byte of its first store
  more_told : {m m' : Mem} {ss : List Store} (pc b : ℕ) → Bytes m → Made m ss m'
      → follow k a (map word_of ss) (trail pc (writer 0 pc b)) ≡ trail pc (writer 0 pc b)
  unfolding follow
  more_told pc b h none = refl
  more_told {m} pc b h (one {s} {ss} i t) =
      ap (λ (x : Note). follow k a (map word_of ss) (told k a x (trail pc (writer 0 pc b)))) (note_store s m i h)
      ∙ go (same_cell k a s.kind s.at) ∙ more_told pc b (bytes_after (one i none) h) t
    where
      go : (c : Bool) → follow k a (map word_of ss) (trail pc (pick c (stamped pc s.old (writer 0 pc b)) (writer 0 pc b)))
          ≡ follow k a (map word_of ss) (trail pc (writer 0 pc b))
      go true = refl
      go false = refl

  stamped_anew : (pc b : ℕ) (w : Writer) → stamped pc b (later w) ≡ writer 0 pc b
  stamped_anew pc b nobody = refl
  stamped_anew pc b (writer n p c) = refl

  stores_told : {m m' : Mem} {ss : List Store} (pc : ℕ) (w : Writer) → Bytes m → Made m ss m'
      → follow k a (map word_of ss) (trail pc (later w)) ≡ trail pc (pick (stores_to k a ss) (writer 0 pc (byte_at k a m)) (later w))
  unfolding follow
  stores_told pc w h none = refl
  stores_told {m} pc w h (one {s} {ss} i t) =
      ap (λ (x : Note). follow k a (map word_of ss) (told k a x (trail pc (later w)))) (note_store s m i h)
      ∙ go (same_cell k a s.kind s.at) refl (stores_told pc w (bytes_after (one i none) h) t)
    where
      go : (c : Bool) → same_cell k a s.kind s.at ≡ c
          → follow k a (map word_of ss) (trail pc (later w)) ≡ trail pc (pick (stores_to k a ss) (writer 0 pc (byte_at k a (make s m))) (later w))
          → follow k a (map word_of ss) (trail pc (pick c (stamped pc s.old (later w)) (later w)))
          ≡ trail pc (pick (pick c true (stores_to k a ss)) (writer 0 pc (byte_at k a m)) (later w))
      go true e f =
          ap (λ (x : Writer). follow k a (map word_of ss) (trail pc x)) (stamped_anew pc s.old w) ∙ more_told pc s.old (bytes_after (one i none) h) t
          ∙ ap (λ (b : ℕ). trail pc (writer 0 pc b)) (i.was ∙ same_byte a s.at m (kinds k s.kind) e)
      go false e f = f ∙ ap (λ (b : ℕ). trail pc (pick (stores_to k a ss) (writer 0 pc b) (later w))) (byte_make s m e)

  -- ---- of the kept steps

  module _ (s₀ : State) (g₀ : Good s₀) where
    -- of the newest c of these steps one stored there last, and l came after it
    record Did (c : ℕ) (ws : List Way) (l pc b : ℕ) : Type 0 where
      step : Among ws
      count : after step ≡ l
      recent : after step < c
      did : step_to k a s₀ step ≡ true
      since : (y : Among ws) → after y < after step → step_to k a s₀ y ≡ false
      address : pc ≡ (before step s₀).pc
      before_it : b ≡ byte_at k a (before step s₀).mem

    abbrev Right : ℕ → List Way → Writer → Type 0
    Right c ws nobody = (y : Among ws) → after y < c → step_to k a s₀ y ≡ false
    Right c ws (writer l pc b) = Did c ws l pc b

    -- none of the newer ones, and the newest neither
    nor : {w : Way} {ws : List Way} (n : ℕ) → step_to k a s₀ (newest {w = w} {ws = ws}) ≡ false → ((y : Among ws) → after y < n → step_to k a s₀ y ≡ false)
        → (y : Among (w ∷ ws)) → after y < suc n → step_to k a s₀ y ≡ false
    nor n e h newest l = e
    nor n e h (older y) l = h y (omega arith)

    later_right : (c : ℕ) (w : Way) (ws : List Way) (x : Writer) → step_to k a s₀ (newest {w = w} {ws = ws}) ≡ false → Right c ws x → Right (suc c) (w ∷ ws) (later x)
    later_right c w ws nobody e h = nor c e h
    later_right c w ws (writer l pc b) e h =
        record {
          step = older h.step;
          count = ap suc h.count;
          recent = omega (arith, h.recent);
          did = h.did;
          since = nor (after h.step) e h.since;
          address = h.address;
          before_it = h.before_it;
        }

    record-right : (c : ℕ) (w : Way) (ws : List Way) → AllAccepted (w ∷ ws) s₀ → (xs : List ℕ) → Right c ws (writer_in k a xs)
        → Right (suc c) (w ∷ ws) (writer_in k a (xs ++ record_of w (forward ws s₀)))
    unfolding follow
    record-right c w ws acc xs h = subst (λ (x : Trail). Right (suc c) (w ∷ ws) x.by) (sym told_so) (go (step_to k a s₀ (newest {w = w} {ws = ws})) refl)
      where
        s : State
        s = forward ws s₀

        g : Good s
        g = good_forward s₀ g₀ ws acc.0

        told_so : follow k a (xs ++ record_of w s) (trail 0 nobody)
            ≡ trail s.pc (pick (stores_to k a (step_stores w s)) (writer 0 s.pc (byte_at k a s.mem)) (later (writer_in k a xs)))
        told_so =
            follow_append k a xs (record_of w s) (trail 0 nobody)
            ∙ ap (λ (x : Note). follow k a (map word_of (step_stores w s)) (told k a x (follow k a xs (trail 0 nobody)))) (note_mark (address s) (address_small g))
            ∙ ap (λ (q : ℕ). follow k a (map word_of (step_stores w s)) (trail q (later (writer_in k a xs)))) (ap (λ (t : State). t.pc) (flagged_parts s.pc s.source s.mem g.address))
            ∙ stores_told s.pc (writer_in k a xs) g.bytes (stepped_forward s₀ g₀ w ws acc).late.makes

        go : (d : Bool) → stores_to k a (step_stores w s) ≡ d → Right (suc c) (w ∷ ws) (pick d (writer 0 s.pc (byte_at k a s.mem)) (later (writer_in k a xs)))
        go true e =
            record {
              step = newest;
              count = refl;
              recent = omega arith;
              did = e;
              since = λ y l. absurd (omega arith);
              address = refl;
              before_it = refl;
            }
        go false e = later_right c w ws (writer_in k a xs) e h

    records-right : (c : ℕ) (ws : List Way) → AllAccepted ws s₀ → c ≤ length ws → Right c ws (writer_in k a (records c ws s₀))
    unfolding follow
    records-right zero ws acc l = λ y q. absurd (omega arith)
    records-right (suc c) [] acc l = absurd (not-suc-le-zero l)
    records-right (suc c) (w ∷ ws) acc l = record-right c w ws acc (records c ws s₀) (records-right c ws acc.0 (omega arith))

    -- a step that did not store there left the byte
    byte_step : (w : Way) (ws : List Way) → AllAccepted (w ∷ ws) s₀ → step_to k a s₀ (newest {w = w} {ws = ws}) ≡ false
        → byte_at k a (forward (w ∷ ws) s₀).mem ≡ byte_at k a (forward ws s₀).mem
    byte_step w ws acc e =
        let h : Stepped (forward ws s₀) (step_stores w (forward ws s₀)) (forward (w ∷ ws) s₀) = stepped_forward s₀ g₀ w ws acc in
        ap (byte_at k a) h.rests ∙ byte_after h.late.makes e

    byte_since : {ws : List Way} (x : Among ws) → AllAccepted ws s₀ → ((y : Among ws) → after y < after x → step_to k a s₀ y ≡ false)
        → byte_at k a (forward ws s₀).mem ≡ byte_at k a (left_by x s₀).mem
    byte_since newest acc h = refl
    byte_since (older {w} {ws} x) acc h =
        byte_step w ws acc (h newest (omega arith)) ∙ byte_since x acc.0 (λ y l. h (older y) (omega arith))

    -- ---- the answer

    module _ (h : Past) (m : Mem) (f : fits m ≡ true) (acc : AllAccepted h.steps s₀) where
      named_true : (left : ℕ) (w : Writer) → left ≡ byte_at k a (forward h.steps s₀).mem → Right h.kept h.steps w → True k a s₀ h m (named left w)
      named_true left nobody e r = nobody_did f r
      named_true left (writer l pc b) e r =
          let now : left ≡ byte_at k a (left_by r.step s₀).mem = e ∙ byte_since r.step acc r.since in
          rw (← r.count, r.address, r.before_it, now) (that_did f r.step r.recent r.did r.since)

-- Of any cell, of any machine that steps and step-backs can leave: what is answered is true.
pub who_true : (k : Kind) (a : ℕ) {s₀ : State} {h : Past} {s : State} → Good s₀ → Demand3 s₀ h s → True k a s₀ h s.mem (who_wrote k a s.mem)
unfolding who_wrote answered
who_true k a {s₀} {h} {s} g d = go (fits s.mem) refl
  where
    z : area s.mem ≡ area s₀.mem
    z = ap₂ area_of (ap length (d.memories grom) ∙ ap (λ (x : Area). x.bytes) (area_forward s₀ g h.steps d.accepted)) d.groups

    sure : whole (area s.mem) (used_words s.mem) ≡ true
    sure = ap₂ whole z d.words ∙ records-whole s₀ g h.kept h.steps d.accepted

    right : Right k a s₀ g h.kept h.steps (writer_in k a (used_words s.mem))
    right = subst (λ (ws : List ℕ). Right k a s₀ g h.kept h.steps (writer_in k a ws)) (sym d.words) (records-right k a s₀ g h.kept h.steps d.accepted d.within)

    go : (c : Bool) → fits s.mem ≡ c → True k a s₀ h s.mem (pick c (fit_who k a s.mem) (refusal (answer_for wrong_length)))
    go true f = rw sure (named_true k a s₀ g h s.mem f d.accepted (byte_at k a s.mem) (writer_in k a (used_words s.mem))
        (ap (λ (l : List ℕ). get_or l a 0) (d.memories k)) right)
    go false f = unfit f

-- so after any calls from an empty journal
pub who_played : (k : Kind) (a : ℕ) (s₀ : State) → Good s₀ → s₀.mem.used ≡ 0 → (os : List Op)
    → True k a s₀ (history s₀ os s₀ (past [] 0)) (play os s₀).mem (who_wrote k a (play os s₀).mem)
who_played k a s₀ g z os = who_true k a g (demand3 s₀ g z os)

-- 12 cannot come
abbrev Never12 : Wrote → Type 0
Never12 (refusal b) = b.number ≡ number no_record → ⊥
Never12 none_kept = Unit {0}
Never12 (wrote n pc b c) = Unit {0}

never_12 : {k : Kind} {a : ℕ} {s₀ : State} {h : Past} {m : Mem} {w : Wrote} → True k a s₀ h m w → Never12 w
never_12 (unfit f) = λ e. omega arith
never_12 (nobody_did f n) = tt
never_12 (that_did f x r d n) = tt

pub never_unsound : (k : Kind) (a : ℕ) {s₀ : State} {h : Past} {s : State} → Good s₀ → Demand3 s₀ h s → who_wrote k a s.mem ≡ refusal (answer_for no_record) → ⊥
never_unsound k a g d e = subst Never12 e (never_12 (who_true k a g d)) refl

-- "Say "none kept" exactly when no kept step stored there.": only then, as `True` says, and always then
pub none_exactly : {k : Kind} {a : ℕ} {s₀ : State} {h : Past} {m : Mem} {w : Wrote} → True k a s₀ h m w → fits m ≡ true
    → ((x : Among h.steps) → after x < h.kept → step_to k a s₀ x ≡ false) → w ≡ none_kept
none_exactly (unfit f) e z = absurd (false_true (sym f ∙ e))
none_exactly (nobody_did f n) e z = refl
none_exactly (that_did f x r d n) e z = absurd (false_true (sym (z x r) ∙ d))
