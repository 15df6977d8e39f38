-- Laws of the lines of a bench file, one after the other.
-- Assumes nothing.
use Rattle.std.proofs.Common.{◌≡◌, refl, sym, ap, ◌∙◌, true, false, List, [], ◌∷◌, ℕ, suc, ◌+◌, ◌<◌, ◌≤◌, eqb, length, take, drop, arith, add-one, append-nil, Ok, Err, Result, IsOk, rules, length-drop, Some, None, not}
use Rattle.lines.specs.Shown.{Lent, SeenLent, Front, bad_line}
use Rattle.std.specs.List.{position, position_or_len}
use Rattle.std.proofs.lemmas.List.Sums.{prefix_len-le-length}
use Rattle.desk.specs.Bytes.{index_of}
use Rattle.desk.specs.Desk.{line_feed, cut, heard, says}
use Rattle.desk.proofs.Cut.{first_cut, last_cut}
use Rattle.desk.proofs.Scan.{index_is}
use Rattle.rig.specs.Meaning.{Splits, Gathers}
use Rattle.intelhex.specs.Dump.{Written, wrote, groups, zeros, write_answer, write_out}
use Rattle.intelhex.specs.Meaning.{write_of}
use Rattle.intelhex.specs.declared.dump.WriteError.{WriteError}
use Rattle.intelhex.specs.declared.dump.WriteError.TheVariants.{WrongLength, TooShort}
use Rattle.intelhex.proofs.Cutting.{found_at, found_none}
use Rattle.intelhex.proofs.Promises.{the_text}
use Rattle.rig.specs.Rig.{placed, gathered, first_bad, dumped}
use Rattle.std.proofs.lemmas.Bool.{ne_eqb}

-- ---- what is left to do, where a text is left

pub record Left (text image₀ image : List ℕ) (number : ℕ) (left : List ℕ) : Type 0 where
  pub bads : first_bad 1 (cut text) ≡ first_bad (number + 1) (cut left)
  pub images : gathered image₀ (cut text) ≡ gathered image (cut left)

module _ {text image₀ image left line rest : List ℕ} {number : ℕ} (o : Left text image₀ image number left) (s : Splits left line rest) where
  -- a line that says nothing
  pub says_nothing : says (heard line) ≡ false → number + 1 ≡ first_bad 1 (cut text)
  unfolding first_bad
  says_nothing f = sym (o.bads ∙ rw (s.is, f))

  -- one that says something
  pub line_on : {is : List ℕ} → says (heard line) ≡ true → is ≡ placed (heard line) image → Left text image₀ is (number + 1) rest
  unfolding first_bad gathered
  line_on t p = record { bads = o.bads ∙ rw (s.is, t, ← add-one (number + 1)); images = o.images ∙ rw (s.is, p) }

pub none_left : {text : SeenLent} {image : Lent} {number : ℕ} {left : List ℕ}
    → Left text.entry.now image.entry.now image.exit.now number left → cut left ≡ [] → Gathers text image (Ok tt)
unfolding first_bad gathered
none_left o e = record { says = sym (o.bads ∙ rw e); counts = tt; leaves = λ _. sym (o.images ∙ rw e) }

-- ---- the first line

pub none : (t : List ℕ) → length t ≡ 0 → cut t ≡ []
unfolding cut
none [] e = refl
none (c ∷ cs) e = absurd (omega arith)

fed : (t : List ℕ) → index_of line_feed t < length t → cut t ≡ take (index_of line_feed t) t ∷ cut (drop (suc (index_of line_feed t)) t)
fed t l =
    ap cut (sym (append-nil t)) ∙ first_cut t [] l ∙ ap (λ (r : List ℕ). take (index_of line_feed t) t ∷ cut r) (append-nil (drop (suc (index_of line_feed t)) t))

module _ (t : List ℕ) where
  abbrev place : ℕ
  place = position_or_len (λ c. eqb c line_feed) t

  pub split_fed : {rest : List ℕ} (end : ℕ) → Some end ≡ position (λ c. eqb c line_feed) t → rest ≡ drop (end + 1) t → Splits t (take end t) rest
  split_fed end e r =
      let at = found_at _ place (length t) end refl e in
      let is : index_of line_feed t ≡ end = index_is line_feed t ∙ sym at.0 in
      let inside : end < length t = omega (arith, at.0, at.1) in
      let one : suc end ≡ end + 1 = omega arith in
      record { is = fed t (omega (arith, is)) ∙ rw (is, one, r); shorter = omega (arith, ap length r, length-drop (end + 1) t) }

  pub split_last : None ≡ position (λ c. eqb c line_feed) t → 0 < length t → Splits t t []
  unfolding cut
  split_last e some =
      let all : index_of line_feed t ≡ length t =
      omega (arith, index_is line_feed t, found_none _ place (length t) refl e, prefix_len-le-length (λ c. not (eqb c line_feed)) t) in
      record { is = last_cut t all some; shorter = some }

-- ---- the whole

-- what is written into room for it is not refused
written : (n : ℕ) (r : Result ℕ WriteError) → write_of r ≡ wrote 0 n → r ≡ Ok n
written n (Ok k) e = ap Ok (ap (λ (w : Written). w.count) e)
written n (Err WrongLength) e = absurd (omega (arith, ap (λ (w : Written). w.answer) e))
written n (Err TooShort) e = absurd (omega (arith, ap (λ (w : Written). w.answer) e))

pub dumped_bad : {out : List ℕ} {k : ℕ} (text : List ℕ) (number : ℕ) → number ≡ first_bad 1 (cut text) → 1 ≤ number → Front (bad_line number) out k → Front (dumped text) out k
unfolding dumped
dumped_bad text number e h f = rw (← e, ne_eqb number 0 (λ z. absurd (omega (arith, z)))) f

-- an image of the bench has room in an output of 90,124 bytes
module _ (image out : List ℕ) (r : Result ℕ WriteError) (a : write_of r ≡ write_answer (length image) (length out)) (long : length image ≡ 32768)
    (room : length out ≡ 90124) where
  done : write_of r ≡ wrote 0 90124
  unfolding write_answer groups
  done = a ∙ rw (long, room)

  pub accepted : IsOk r
  accepted = rw (written 90124 r done) (search rules)

  pub dumped_good : (text was : List ℕ) {k n : ℕ} {is : List ℕ} → r ≡ Ok k → is ≡ write_out image out → length is ≡ 90124 → 0 ≡ first_bad 1 (cut text)
      → image ≡ gathered was (cut text) → was ≡ zeros n → n ≡ 32768 → Front (dumped text) is k
  unfolding dumped
  dumped_good text was {k} e f still good i clear all =
      let same : wrote 0 k ≡ write_answer (length image) (length out) = ap write_of (sym e) ∙ a in
      let whole : image ≡ gathered (zeros 32768) (cut text) = i ∙ ap (λ (l : List ℕ). gathered l (cut text)) (clear ∙ ap zeros all) in
      record {
        is = ap (take k) f ∙ the_text image out (wrote 0 k) same refl ∙ rw (← good, ← whole);
        fits = omega (arith, still, ap (λ (x : Written). x.count) (ap write_of (sym e) ∙ done));
      }
