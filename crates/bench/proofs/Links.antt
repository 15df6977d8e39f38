-- The public calls in the code's words: one law for each way out of them.
use Rattle.std.proofs.Common.{◌≡◌, refl, ◌∙◌, ap, sym, Bool, true, false, List, [], ℕ, ◌+◌, ◌-◌, ◌<◌, arith, eqb, leb, length, take, drop, ne_eqb, eq-eqb, leb-true, leb-false, eqb-true}
use Rattle.std.specs.Borrow.{MutBor}
use Rattle.rules.specs.Machine.{pick, ◌also◌, cpu, vdp, register, size, reach, area_of, flagged, Mem, State, state, at_rest}
use Rattle.rules.specs.Answers.{answer_for, wrong_length, no_record}
use Rattle.rules.specs.Journal.{undo, turned}
use Rattle.rules.specs.Calls.{parts_fit, fits, done, Find, found, lost, scan, back_to, fit_back, step_back, Memory, kind_of, viewed, view}
use Rattle.rules.proofs.Tests.{both}
use Rattle.rules.proofs.Steps.{flagged_parts}
use Rattle.ring.specs.declared.book.Book.{Book}
use Rattle.ring.proofs.Turned.{length_turned}
use Rattle.machine.specs.Meaning.{mem_of}
use Rattle.bench.specs.declared.at.At.{At}
use Rattle.bench.specs.Numbers as numbers
use Rattle.bench.specs.Meaning.{book_at, rests, state_at, Fit, Returned, returned, outcome, replies, told, refusal, undoing, backing, Tells, part}

-- ---- a step back

module _ {i p v g : List ℕ} (j : List ℕ) {at : At} {b : Book} (q : b ≡ book_at at) where
  pub back_lost : lost ≡ scan (area_of (length i) at.writable) b.used (turned b.ring b.place j)
      → Tells told undoing (state_at i p v g j at) (returned i p v g j (refusal (answer_for no_record) at))
  unfolding fit_back replies
  back_lost e = record { is = ap (λ (f : Find). outcome (back_to f (state_at i p v g j at)) 0) (rw q at e) }

  pub back_found : {w : ℕ} {i₁ p₁ v₁ g₁ j₁ : List ℕ} {n pc : ℕ} {f : Bool} {c : Book}
      → pc < 65536 → found n (flagged pc f) ≡ scan (area_of (length i) at.writable) b.used (turned b.ring b.place j)
      → mem_of i₁ w p₁ v₁ g₁ j₁ c ≡ undo n (mem_of i at.writable p v g j b)
      → Tells told undoing (state_at i p v g j at) (returned i₁ p₁ v₁ g₁ j₁ (record { answer = 0; address = 0; stores = 0; at = rests pc c w f }))
  unfolding fit_back replies
  back_found {pc = pc} {f = f} l e k =
      record {
        is = ap (λ (m : Mem). outcome (done (state pc f (at_rest m))) 0) (rw q at k)
            ∙ ap (λ (s : State). outcome (done s) 0) (sym (flagged_parts pc f _ l))
            ∙ ap (λ (f : Find). outcome (back_to f (state_at i p v g j at)) 0) (rw q at e);
      }

pub back_unfit : {i p v g j : List ℕ} {at : At} {t : Bool} → t ≡ fits (state_at i p v g j at).mem → t ≡ false
    → Tells told backing (state_at i p v g j at) (returned i p v g j (refusal (answer_for wrong_length) at))
unfolding step_back replies
back_unfit e h = record { is = rw (sym e ∙ h) }

pub back_fits : {s : State} {x : Returned numbers.Reply} {t : Bool} → t ≡ fits s.mem → t ≡ true → Tells told undoing s x → Tells told backing s x
unfolding step_back
back_fits e h k = record { is = rw (sym e ∙ h) k.is }

-- what test 11 says of the lengths
pub fitting : {p v g j : MutBor (List ℕ)} {at : At} → parts_fit (length p.now) (length v.now) (length g.now) (length j.now) at.used ≡ true
    → Fit p v g j at
unfolding parts_fit
fitting {p} {v} {g} {j} {at} h =
    let pads : (eqb (length p.now) (size cpu) ≡ true) × _ = both h in
    let vrams : (eqb (length v.now) (size vdp) ≡ true) × _ = both pads.1 in
    let regss : (eqb (length g.now) (size register) ≡ true) × _ = both vrams.1 in
    record { pad = eqb-true _ _ pads.0; vram = eqb-true _ _ vrams.0; regs = eqb-true _ _ regss.0; used = leb-true _ _ (both regss.1).1 }

-- the same of a machine
pub fitting_at : (i : List ℕ) {p v g j : MutBor (List ℕ)} {at : At} → fits (state_at i p.now v.now g.now j.now at).mem ≡ true → Fit p v g j at
fitting_at i {j = j} {at = at} h = fitting (both (both (rw (length_turned at.ring at.place j.now) at h)).1).0

-- ---- the viewer

-- a sum within the reach, by a difference
split : (at len r : ℕ) → pick (leb at r) (leb len (r - at)) false ≡ leb (at + len) r
split at len r = go (leb at r) refl (leb len (r - at)) refl (leb (at + len) r) refl
  where
    go : (a : Bool) → leb at r ≡ a → (b : Bool) → leb len (r - at) ≡ b → (c : Bool) → leb (at + len) r ≡ c → pick a b false ≡ c
    go true ea true eb true ec = refl
    go true ea true eb false ec = absurd (omega (arith, leb-true at r ea, leb-true len (r - at) eb, leb-false (at + len) r ec))
    go true ea false eb true ec = absurd (omega (arith, leb-true at r ea, leb-false len (r - at) eb, leb-true (at + len) r ec))
    go true ea false eb false ec = refl
    go false ea true eb true ec = absurd (omega (arith, leb-false at r ea, leb-true (at + len) r ec))
    go false ea true eb false ec = refl
    go false ea false eb true ec = absurd (omega (arith, leb-false at r ea, leb-true (at + len) r ec))
    go false ea false eb false ec = refl

nested : (a b : Bool) (x : List ℕ) → pick a (pick b x []) [] ≡ pick (pick a b false) x []
nested true b x = refl
nested false b x = refl

pub part_is : (r : ℕ) (xs : List ℕ) (at len : ℕ) → part r xs at len ≡ pick (leb (at + len) r) (take len (drop at xs)) []
unfolding part
part_is r xs at len =
    nested (leb at r) (leb len (r - at)) (take len (drop at xs)) ∙ ap (λ (c : Bool). pick c (take len (drop at xs)) []) (split at len r)

pub view_part : (w : Memory) (p v : List ℕ) (at len : ℕ) (s : List ℕ) → length p ≡ 256 → length v ≡ 16384 → s ≡ part (reach (kind_of w)) (viewed w p v) at len
    → s ≡ view w p v at len
unfolding view ◌also◌
view_part w p v at len s h k e = rw (eq-eqb _ _ h, eq-eqb _ _ k) (e ∙ part_is (reach (kind_of w)) (viewed w p v) at len)

pub view_pad : (w : Memory) (p v : List ℕ) (at len : ℕ) → (length p ≡ 256 → ⊥) → [] ≡ view w p v at len
unfolding view ◌also◌
view_pad w p v at len h = rw (ne_eqb _ _ h)

pub view_vram : (w : Memory) (p v : List ℕ) (at len : ℕ) → length p ≡ 256 → (length v ≡ 16384 → ⊥) → [] ≡ view w p v at len
unfolding view ◌also◌
view_vram w p v at len h k = rw (eq-eqb _ _ h, ne_eqb _ _ k)
