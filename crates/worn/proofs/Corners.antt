-- Item 13 in its own words: from two machines that differ in what was never read come the answer, the counts, pc, the memories and the journal that it speaks of.
use mathlib.Core.Path.{◌≡◌, refl, ◌∙◌, ap, sym}
use mathlib.Core.Bool.{Bool, true, false}
use mathlib.Core.List.{List, ◌∷◌}
use Prim.Native.Nat.{ℕ, ◌/◌, ◌^◌}
use native.Mathlib.Nat.{zero-div}
use lib.ListN.{length, get_or}
use lib.Seq.{ext_get_or}
use Rattle.rules.specs.Machine.{pick, bit, group, State}
use Rattle.rules.specs.Answers.{answer_for, wrong_length}
use Rattle.rules.specs.Calls.{fits, Report, report, steps, run}
use Rattle.rules.proofs.Tests.{false_true}
use Rattle.rules.specs.Reads.{run_reads}
use Rattle.worn.specs.Worn.{among, AgreeAt, with_image, Bytes, one_byte, own_bytes, Words, one_word, old_bytes, Same, Graded, report_over}
use Rattle.worn.proofs.Pairs.{Open, Byte, first, stored, Word, alike, old, Journals, none, more, journals_same, journals_length, journals_at, worn}
use Rattle.worn.proofs.Worn.{States, at, Reports, graded, Ran, fits_worn, steps_worn}

-- ---- what may end different

module _ (i j : List ℕ) (w : ℕ) (rs : List ℕ) (e : AgreeAt rs i j) where
  -- an own byte, if it was read, is one byte
  byte_said : (a : ℕ) {b c : ℕ} → Byte i j w a b c → Bytes rs i j a b c
  byte_said a (stored o) = one_byte
  byte_said a first = go (among a rs) refl
    where
      go : (c : Bool) → among a rs ≡ c → Bytes rs i j a (get_or i a 0) (get_or j a 0)
      go true h = rw (e a h) one_byte
      go false h = own_bytes h

  word_said : {x y : ℕ} → Word i j w x y → Words rs i j x y
  word_said alike = one_word
  word_said (old a o h) = old_bytes a (byte_said a h)

  state_said : {s t : State} → States i j w s t → Same rs i j s t
  state_said (at (worn h t)) =
      record {
        pc = refl;
        source = refl;
        pad = refl;
        vram = refl;
        regs = refl;
        image = λ a. byte_said a (h.bytes a);
        image_length = sym h.lengths;
        groups = refl;
        words = λ n. word_said (journals_at i j w n t);
        journal_length = sym (journals_length i j w t);
        used = refl;
        place = refl;
        mode = refl;
      }

  report_said : {r q : Report} → Reports i j w r q → Graded rs i j r q
  report_said (graded h) = record { answer = refl; steps = refl; stores = refl; end = state_said h }

-- ---- where no group is writable, the images alone

module _ (i j : List ℕ) (w : ℕ) (shut : (a : ℕ) → Open i j w a → ⊥) where
  byte_shut : {a b c : ℕ} → Byte i j w a b c → (b ≡ get_or i a 0) × (c ≡ get_or j a 0)
  byte_shut first = (refl, refl)
  byte_shut {a} (stored o) = absurd (shut a o)

  journals_shut : {l k : List ℕ} → Journals i j w l k → k ≡ l
  journals_shut none = refl
  journals_shut (more (alike {x}) t) = ap (λ (l : List ℕ). x ∷ l) (journals_shut t)
  journals_shut (more (old a o h) t) = absurd (shut a o)

  state_shut : {s t : State} → length j ≡ length i → States i j w s t → (s.mem.image ≡ i) × (t ≡ with_image j s)
  state_shut l (at (worn {x} {y} h t)) =
      let one : x ≡ i = ext_get_or 0 x i h.start (λ a _. (byte_shut (h.bytes a)).0) in
      let other : y ≡ j = ext_get_or 0 y j (sym h.lengths ∙ h.start ∙ sym l) (λ a _. (byte_shut (h.bytes a)).1) in
      (one, rw (other, journals_shut t))

  report_shut : {r q : Report} → length j ≡ length i → Reports i j w r q → (r.end.mem.image ≡ i) × (q ≡ report_over j r)
  report_shut l (graded {a} {k} {n} h) = ((state_shut l h).0, ap (report a k n) (state_shut l h).1)

-- no bit of 0 is set
none_open : (i j : List ℕ) (w : ℕ) → w ≡ 0 → (a : ℕ) → Open i j w a → ⊥
unfolding bit
none_open i j w z a o = false_true (rw (z, zero-div (2 ^ (a / group))) at o)

-- ---- the theorems

-- One run over the image of s, and one from the same state over j, which is as long and agrees with it at every address that the first run reads.
module _ (n : ℕ) (s : State) (j : List ℕ) (l : length j ≡ length s.mem.image) (e : AgreeAt (run_reads n s) s.mem.image j) where
  abbrev i : List ℕ
  i = s.mem.image

  abbrev w : ℕ
  w = s.mem.groups

  start : States i j w s (with_image j s)
  start = at (worn (record { start = refl; lengths = sym l; bytes = λ a. first }) (journals_same i j w s.mem.journal))

  ran : Ran i j w n s (with_image j s)
  ran = steps_worn i j w n s (with_image j s) start e

  reports : Reports i j w (run n s) (run n (with_image j s))
  unfolding run
  reports = rw (← fits_worn i j w start) (go (fits s.mem))
    where
      go : (c : Bool) → Reports i j w (pick c (steps n s) (report (answer_for wrong_length) 0 0 s))
          (pick c (steps n (with_image j s)) (report (answer_for wrong_length) 0 0 (with_image j s)))
      go true = ran.report
      go false = graded start

  -- "give the same answer, counts, pc, memories and journal"
  pub worn_corners : Graded (run_reads n s) i j (run n s) (run n (with_image j s))
  worn_corners = report_said i j w (run_reads n s) e reports

  -- the second run reads what the first one does, so it does not matter over which of the two they are counted
  pub same_reads : run_reads n (with_image j s) ≡ run_reads n s
  same_reads = sym ran.read

  -- and with no writable group named nothing else differs: the images are as they were, and the journals are one
  pub worn_read_only : s.mem.groups ≡ 0 → ((run n s).end.mem.image ≡ s.mem.image) × (run n (with_image j s) ≡ report_over j (run n s))
  worn_read_only z = report_shut i j w (none_open i j w z) l reports

-- "bytes the reader couldn't make out. If a run from given memories reads none of them": where only such bytes differ, whatever they are, it grades the same.
pub unread_corners : (n : ℕ) (s : State) (j : List ℕ) (lost : ℕ → Bool) → length j ≡ length s.mem.image
    → ((a : ℕ) → lost a ≡ false → get_or s.mem.image a 0 ≡ get_or j a 0) → ((a : ℕ) → lost a ≡ true → among a (run_reads n s) ≡ false)
    → Graded (run_reads n s) s.mem.image j (run n s) (run n (with_image j s))
unread_corners n s j lost l same unread = worn_corners n s j l (λ a r. go a (lost a) refl r)
  where
    go : (a : ℕ) (c : Bool) → lost a ≡ c → among a (run_reads n s) ≡ true → get_or s.mem.image a 0 ≡ get_or j a 0
    go a true h r = absurd (false_true (sym (unread a h) ∙ r))
    go a false h r = same a h
