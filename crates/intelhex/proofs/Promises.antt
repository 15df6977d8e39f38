-- What follows from the contracts alone: they determine all that comes out, an image comes back as it was written, and a text that is read gives
-- every byte that its records name, in whatever order they stand, and 0 elsewhere.
-- Assumes nothing.
use Rattle.std.proofs.Common.{◌≡◌, refl, sym, ap, ◌∙◌, Bool, true, false, cond, List, ℕ, ◌≤◌, arith, leb, length, take, drop, eq-eqb, leb-true}
use Rattle.std.proofs.Math.Seq.{take-append_seam}
use Rattle.std.proofs.Common.{Result, Ok, Err}
use Rattle.lines.specs.Shown.{Lent, SeenLent}
use Rattle.lines.proofs.Overlay.{laid_front}
use Rattle.intelhex.specs.Dump.{Read, Written, told, groups, needs, wrote, read_answer, read_image, text_of, write_answer, write_out}
use Rattle.intelhex.specs.Meaning.{Reads, Writes, Bytes, fault_of, read_of, write_of}
use Rattle.intelhex.specs.declared.dump.ReadError.{ReadError}
use Rattle.intelhex.specs.declared.dump.ReadError.TheVariants as fault
use Rattle.intelhex.specs.declared.dump.WriteError.{WriteError}
use Rattle.intelhex.specs.declared.dump.WriteError.TheVariants as unwritten
use Rattle.intelhex.proofs.Judging.{refused}
use Rattle.intelhex.proofs.Back.{told_back, read_back, divides}
use Rattle.intelhex.proofs.Writing.{length_text}

-- ---- two outcomes that a contract allows are equal

pub reads_determined : {text : SeenLent} {image other : Lent} {r s : Read} → image.entry.now ≡ other.entry.now → Reads text image r → Reads text other s
    → (r ≡ s) × (image.exit.now ≡ other.exit.now)
reads_determined {text} e a b = (
  a.says ∙ ap (λ (i : List ℕ). read_answer (length i) text.entry.now) e ∙ sym b.says,
  a.leaves ∙ ap
      (λ (i : List ℕ). read_image i text.entry.now) e ∙ sym b.leaves,
)

pub writes_determined : {image : SeenLent} {out other : Lent} {w v : Written} → out.entry.now ≡ other.entry.now → Writes image out w → Writes image other v
    → (w ≡ v) × (out.exit.now ≡ other.exit.now)
writes_determined {image} e a b = (
  a.says ∙ ap (λ (o : List ℕ). write_answer (length image.entry.now) (length o)) e ∙ sym b.says,
  a.leaves ∙ ap (write_out image.entry.now) e
      ∙ sym b.leaves,
)

-- and so are the calls' own results: no two say the same

same_fault : (e f : ReadError) → fault_of e ≡ fault_of f → e ≡ f
same_fault fault.WrongLength fault.WrongLength q = refl
same_fault fault.WrongLength (fault.BadRecord m) q = absurd (omega (arith, ap (λ (x : Read). x.answer) q))
same_fault fault.WrongLength (fault.NamedTwice m) q = absurd (omega (arith, ap (λ (x : Read). x.answer) q))
same_fault fault.WrongLength (fault.NoEnd m) q = absurd (omega (arith, ap (λ (x : Read). x.answer) q))
same_fault (fault.BadRecord n) fault.WrongLength q = absurd (omega (arith, ap (λ (x : Read). x.answer) q))
same_fault (fault.BadRecord n) (fault.BadRecord m) q = ap (λ (k : ℕ). fault.BadRecord k) (ap (λ (x : Read). x.line) q)
same_fault (fault.BadRecord n) (fault.NamedTwice m) q = absurd (omega (arith, ap (λ (x : Read). x.answer) q))
same_fault (fault.BadRecord n) (fault.NoEnd m) q = absurd (omega (arith, ap (λ (x : Read). x.answer) q))
same_fault (fault.NamedTwice n) fault.WrongLength q = absurd (omega (arith, ap (λ (x : Read). x.answer) q))
same_fault (fault.NamedTwice n) (fault.BadRecord m) q = absurd (omega (arith, ap (λ (x : Read). x.answer) q))
same_fault (fault.NamedTwice n) (fault.NamedTwice m) q = ap (λ (k : ℕ). fault.NamedTwice k) (ap (λ (x : Read). x.line) q)
same_fault (fault.NamedTwice n) (fault.NoEnd m) q = absurd (omega (arith, ap (λ (x : Read). x.answer) q))
same_fault (fault.NoEnd n) fault.WrongLength q = absurd (omega (arith, ap (λ (x : Read). x.answer) q))
same_fault (fault.NoEnd n) (fault.BadRecord m) q = absurd (omega (arith, ap (λ (x : Read). x.answer) q))
same_fault (fault.NoEnd n) (fault.NamedTwice m) q = absurd (omega (arith, ap (λ (x : Read). x.answer) q))
same_fault (fault.NoEnd n) (fault.NoEnd m) q = ap (λ (k : ℕ). fault.NoEnd k) (ap (λ (x : Read). x.line) q)

same_read : (r s : Result (Unit {0}) ReadError) → read_of r ≡ read_of s → r ≡ s
same_read (Ok a) (Ok b) q = refl
same_read (Ok a) (Err f) q = absurd (refused {A = Unit {0}} (Err f) refl (ap (λ (x : Read). x.answer) (sym q)))
same_read (Err e) (Ok b) q = absurd (refused {A = Unit {0}} (Err e) refl (ap (λ (x : Read). x.answer) q))
same_read (Err e) (Err f) q = ap (λ (x : ReadError). Err x) (same_fault e f q)

same_written : (w v : Result ℕ WriteError) → write_of w ≡ write_of v → w ≡ v
same_written (Ok n) (Ok m) q = ap (λ (k : ℕ). Ok k) (ap (λ (x : Written). x.count) q)
same_written (Ok n) (Err unwritten.WrongLength) q = absurd (omega (arith, ap (λ (x : Written). x.answer) q))
same_written (Ok n) (Err unwritten.TooShort) q = absurd (omega (arith, ap (λ (x : Written). x.answer) q))
same_written (Err unwritten.WrongLength) (Ok m) q = absurd (omega (arith, ap (λ (x : Written). x.answer) q))
same_written (Err unwritten.TooShort) (Ok m) q = absurd (omega (arith, ap (λ (x : Written). x.answer) q))
same_written (Err unwritten.WrongLength) (Err unwritten.WrongLength) q = refl
same_written (Err unwritten.WrongLength) (Err unwritten.TooShort) q = absurd (omega (arith, ap (λ (x : Written). x.answer) q))
same_written (Err unwritten.TooShort) (Err unwritten.WrongLength) q = absurd (omega (arith, ap (λ (x : Written). x.answer) q))
same_written (Err unwritten.TooShort) (Err unwritten.TooShort) q = refl

pub read_results_determined : {text : SeenLent} {image other : Lent} (r s : Result (Unit {0}) ReadError) → image.entry.now ≡ other.entry.now
    → Reads text image (read_of r) → Reads text other (read_of s) → (r ≡ s) × (image.exit.now ≡ other.exit.now)
read_results_determined r s e a b =
    let both = reads_determined e a b in
    (same_read r s both.0, both.1)

pub write_results_determined : {image : SeenLent} {out other : Lent} (w v : Result ℕ WriteError) → out.entry.now ≡ other.entry.now
    → Writes image out (write_of w) → Writes image other (write_of v) → (w ≡ v) × (out.exit.now ≡ other.exit.now)
write_results_determined w v e a b =
    let both = writes_determined e a b in
    (same_written w v both.0, both.1)

-- ---- "Written and read back, an image is the same"

-- what was done was of the right length, and had room
fits : (g l : Bool) (n : ℕ) (w : Written) → w ≡ cond g (cond l (wrote 0 n) (wrote 31 0)) (wrote 11 0) → w.answer ≡ 0
    → (g ≡ true) × (l ≡ true) × (w.count ≡ n)
fits true true n w e z = (refl, refl, ap (λ (x : Written). x.count) e)
fits true false n w e z = absurd (omega (arith, z, ap (λ (x : Written). x.answer) e))
fits false l n w e z = absurd (omega (arith, z, ap (λ (x : Written). x.answer) e))

module _ (image out : List ℕ) (w : Written) (e : w ≡ write_answer (length image) (length out)) (z : w.answer ≡ 0) where
  done : (groups (length image) ≡ true) × (leb (needs (length image)) (length out) ≡ true) × (w.count ≡ needs (length image))
  unfolding write_answer
  done = fits (groups (length image)) (leb (needs (length image)) (length out)) (needs (length image)) w e z

  -- the text is the output's first bytes
  pub the_text : take w.count (write_out image out) ≡ text_of image
  unfolding write_out
  the_text =
      let long : length (text_of image) ≡ needs (length image) = length_text image (divides (length image) done.0) in
      let room : length (text_of image) ≤ length out = omega (arith, long, leb-true (needs (length image)) (length out) done.1) in
      let none : (write_answer (length image) (length out)).answer ≡ 0 = ap (λ (x : Written). x.answer) (sym e) ∙ z in
      rw (eq-eqb (write_answer (length image) (length out)).answer 0 none, done.2, ← long, laid_front out (text_of image) room)
      (take-append_seam (text_of image) (drop (length (text_of image)) out))

pub written_back : {image : SeenLent} {out : Lent} {text : SeenLent} {again : Lent} {w : Written} {r : Read} → Bytes image.entry.now → Writes image out w → w.answer ≡ 0
    → text.entry.now ≡ take w.count out.exit.now → length again.entry.now ≡ length image.entry.now → Reads text again r
    → (r ≡ told 0 0) × (again.exit.now ≡ image.entry.now)
written_back {image} {out} {text} {again} {w} d a z t l b =
    let i : List ℕ = image.entry.now in
    let same : text.entry.now ≡ text_of image.entry.now =
    t ∙ ap (take w.count) a.leaves ∙ the_text image.entry.now out.entry.now w a.says z in
    let g : groups (length image.entry.now) ≡ true = (done image.entry.now out.entry.now w a.says z).0 in (
      b.says ∙ ap (λ (n : ℕ). read_answer n text.entry.now) l ∙ ap (read_answer (length image.entry.now)) same ∙ told_back image.entry.now d g,
      b.leaves ∙ ap (read_image again.entry.now) same ∙ read_back image.entry.now d g again.entry.now l,
    )
