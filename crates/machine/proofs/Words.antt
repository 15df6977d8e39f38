-- Journal words in the code's words: what one says by its kind, the top ones put back, and the search for the newest mark.
use Rattle.std.proofs.Common.{◌≡◌, refl, ◌∙◌, ap, ap₂, sym, subst, Bool, true, false, List, ℕ, zero, suc, ◌+◌, ◌-◌, ◌/◌, ◌%◌, ◌^◌, ◌≤◌, ◌<◌, add-one, arith, ltb, leb, get_or, set, lt-ltb, le-ltb, ltb-true, leb-true, leb-false}
use native.Mathlib.Nat.{sub_self}
use Rattle.rules.specs.Machine.{◌also◌, flagged, Kind, Area, Mem, beside}
use Rattle.rules.specs.Journal.{kind_number, Note, stood, mark, nothing, stood_in, note_of, note, sound, restore, zero_top, undo_top, undo}
use Rattle.rules.specs.Calls.{Find, found, lost, further, passed, seen, scan}
use Rattle.rules.proofs.Undo.{note_of_kind, restore_beside}
use Rattle.machine.specs.Meaning.{kind_of}
use Rattle.machine.specs.declared.memory.Memory.{Memory}

-- ---- two tests

pub both_tests : (b : Bool) → b ≡ (b also true)
unfolding ◌also◌
both_tests true = refl
both_tests false = refl

pub first_fails : (a n : ℕ) (b : Bool) → n ≤ a → ltb a n ≡ (ltb a n also b)
unfolding ◌also◌
first_fails a n b h = rw (le-ltb a n h)

pub second_tells : (a n : ℕ) (b : Bool) → a < n → b ≡ (ltb a n also b)
unfolding ◌also◌
second_tells a n b h = rw (lt-ltb a n h)

-- ---- what a word says, by its kind

note_by_kind : (k : Kind) (w n : ℕ) → n ≡ w / 2 ^ 29 → n ≡ kind_number k → note w ≡ stood_in k (w % 2 ^ 29)
unfolding note
note_by_kind k w n e f = ap (λ (x : ℕ). note_of x (w % 2 ^ 29)) (sym e ∙ f) ∙ note_of_kind k (w % 2 ^ 29)

pub note_of_mark : (w n : ℕ) → n ≡ w / 2 ^ 29 → n ≡ 3 → note w ≡ mark (w % 2 ^ 29)
unfolding note
note_of_mark w n e f = ap (λ (x : ℕ). note_of x (w % 2 ^ 29)) (sym e ∙ f)

pub note_stood : (k : Memory) (w n : ℕ) {at b : ℕ} → n ≡ w / 2 ^ 29 → n ≡ kind_number (kind_of k) → at ≡ w % 2 ^ 29 / 256 → b ≡ w % 2 ^ 29 % 256
    → stood (kind_of k) at b ≡ note w
note_stood k w n e f h l = rw (h, l, note_by_kind (kind_of k) w n e f)

-- of no kind
note_rest : (n low : ℕ) → (n ≡ 0 → ⊥) → (n ≡ 1 → ⊥) → (n ≡ 2 → ⊥) → (n ≡ 3 → ⊥) → (n ≡ 4 → ⊥) → nothing ≡ note_of n low
note_rest zero low a b c d e = absurd (a refl)
note_rest (suc zero) low a b c d e = absurd (b refl)
note_rest (suc (suc zero)) low a b c d e = absurd (c refl)
note_rest (suc (suc (suc zero))) low a b c d e = absurd (d refl)
note_rest (suc (suc (suc (suc zero)))) low a b c d e = absurd (e refl)
note_rest (suc (suc (suc (suc (suc n))))) low a b c d e = refl

pub note_nothing : (w n : ℕ) → n ≡ w / 2 ^ 29 → (n ≡ 0 → ⊥) → (n ≡ 1 → ⊥) → (n ≡ 2 → ⊥) → (n ≡ 3 → ⊥) → (n ≡ 4 → ⊥) → nothing ≡ note w
unfolding note
note_nothing w n k a b c d e = rw (← k) (note_rest n (w % 2 ^ 29) a b c d e)

-- ---- the top word, and the top n

pub undo_none : (u : ℕ) (m : Mem) → u ≡ 0 → m ≡ undo_top u m
unfolding undo_top
undo_none u m e = rw e

pub undone : (u t w : ℕ) (m m₁ m₂ : Mem) → (u ≡ 0 → ⊥) → t ≡ u - 1 → w ≡ get_or m.journal t 0 → m₁ ≡ zero_top t m → m₂ ≡ restore (note w) m₁
    → m₂ ≡ undo_top u m
unfolding undo_top
undone zero t w m m₁ m₂ h s e z f = absurd (h refl)
undone (suc u) t w m m₁ m₂ h s e z f =
    let q : t ≡ u = omega arith in
    f ∙ ap (restore (note w)) z ∙ restore_beside (note w) (set m.journal t 0) t m
    ∙ ap₂ (λ (n x : ℕ). beside (set m.journal n 0) n (restore (note x) m)) q (e ∙ ap (λ (n : ℕ). get_or m.journal n 0) q)
    ∙ sym (ap (zero_top u) (restore_beside (note (get_or m.journal u 0)) m.journal m.used m))

pub undo_more : (n : ℕ) (m m₀ : Mem) → m ≡ undo n m₀ → undo_top m.used m ≡ undo (n + 1) m₀
unfolding undo
undo_more n m m₀ e = rw (add-one n) (ap (λ (x : Mem). undo_top x.used x) e)

undo_top_used : (u : ℕ) (m : Mem) → m.used ≡ u → (undo_top u m).used ≤ u
unfolding undo_top
undo_top_used zero m e = omega arith
undo_top_used (suc u) m e = omega arith

pub undone_used : (u : ℕ) (m m₁ : Mem) → m₁ ≡ undo_top u m → m.used ≡ u → m₁.used ≤ u
undone_used u m m₁ e h = rw e (undo_top_used u m h)

pub undo_end : {k n : ℕ} {m : Mem} (m₀ : Mem) → m ≡ undo k m₀ → k ≡ n → m ≡ undo n m₀
undo_end {m = m} m₀ h e = subst (λ (x : ℕ). m ≡ undo x m₀) e h

-- ---- the search, from the top down

-- d words more above what is found
unfoldable pub higher : ℕ → Find → Find
higher d (found n pc) = found (d + n) pc
higher d lost = lost

higher_none : (f : Find) → f ≡ higher 0 f
unfolding higher
higher_none (found n pc) = let z : n ≡ 0 + n = omega arith in ap (λ (k : ℕ). found k pc) z
higher_none lost = refl

higher_further : (d : ℕ) (f : Find) → higher d (further f) ≡ higher (d + 1) f
unfolding higher
higher_further d (found n pc) = let z : d + suc n ≡ d + 1 + n = omega arith in ap (λ (k : ℕ). found k pc) z
higher_further d lost = refl

pub scan_start : (z : Area) (u : ℕ) (j : List ℕ) → scan z u j ≡ higher (u - u) (scan z u j)
scan_start z u j = rw (sub_self u) (higher_none (scan z u j))

scan_turn : (z : Area) (u : ℕ) (j : List ℕ) → 0 < u → scan z u j ≡ seen z (note (get_or j (u - 1) 0)) (scan z (u - 1) j)
unfolding scan
scan_turn z zero j h = absurd (omega arith)
scan_turn z (suc u) j h =
    let s : suc u - 1 ≡ u = omega arith in
    rw s

-- a word that is not sound ends it; a sound one is a mark, or is passed over
seen_bad : (z : Area) (x : Note) (f : Find) → sound z x ≡ false → seen z x f ≡ lost
seen_bad z x f h = rw h

seen_sound : (z : Area) (x : Note) (f : Find) → sound z x ≡ true → seen z x f ≡ passed x f
seen_sound z x f h = rw h

-- a mark's address is that of its low sixteen bits and of the flag above them
address_of : (q : ℕ) → q < 131072 → (v : Bool) → v ≡ leb 65536 q → q ≡ flagged (q % 65536) v
address_of q h true r = omega (arith, leb-true 65536 q (sym r))
address_of q h false r = omega (arith, leb-false 65536 q (sym r))

-- the search stands at u, with `all` words to search, at whose top is the word w: a turn that goes on, and the three that end it
module _ (z : Area) (all u : ℕ) (j : List ℕ) (f : Find) (e : f ≡ higher (all - u) (scan z u j)) where
  turned : (w : ℕ) → 0 < u → w ≡ get_or j (u - 1) 0 → f ≡ higher (all - u) (seen z (note w) (scan z (u - 1) j))
  turned w h q = e ∙ ap (higher (all - u)) (scan_turn z u j h ∙ ap (λ (x : ℕ). seen z (note x) (scan z (u - 1) j)) (sym q))

  pub scan_on : {w a b : ℕ} {k : Kind} → 0 < u → u ≤ all → w ≡ get_or j (u - 1) 0 → sound z (note w) ≡ true → stood k a b ≡ note w
      → f ≡ higher (all - (u - 1)) (scan z (u - 1) j)
  scan_on {w} h l q s k =
      let more : all - u + 1 ≡ all - (u - 1) = omega arith in
      let below : Find = scan z (u - 1) j in
      turned w h q
      ∙ ap (higher (all - u)) (seen_sound z (note w) below s ∙ ap (λ (x : Note). passed x below) (sym k))
      ∙ higher_further (all - u) below ∙ ap (λ (d : ℕ). higher d below) more

  pub scan_mark : {w q : ℕ} → 0 < u → u ≤ all → w ≡ get_or j (u - 1) 0 → sound z (note w) ≡ true → mark q ≡ note w
      → found (all - (u - 1)) (flagged (q % 65536) (leb 65536 q)) ≡ f
  unfolding higher
  scan_mark {w} {q} h l r s k =
      let more : all - u + 1 ≡ all - (u - 1) = omega arith in
      let small : q < 131072 = ltb-true q 131072 (ap (sound z) k ∙ s) in
      let below : Find = scan z (u - 1) j in
      sym (turned w h r ∙ ap (higher (all - u)) (seen_sound z (note w) below s ∙ ap (λ (x : Note). passed x below) (sym k)) ∙ ap₂ found more (address_of q small _ refl))

  pub scan_bad : (w : ℕ) → 0 < u → w ≡ get_or j (u - 1) 0 → sound z (note w) ≡ false → lost ≡ f
  unfolding higher
  scan_bad w h q s = sym (turned w h q ∙ ap (higher (all - u)) (seen_bad z (note w) (scan z (u - 1) j) s))

  pub scan_end : u ≡ 0 → lost ≡ f
  unfolding higher scan
  scan_end h = sym (e ∙ ap (λ (n : ℕ). higher (all - u) (scan z n j)) h)
