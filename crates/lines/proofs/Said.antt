-- What the code's answers say, case by case.
-- Assumes nothing.
use Rattle.std.proofs.Common.{◌≡◌, ap, sym, ◌∙◌, subst, Option, Some, None, List, ℕ, ◌+◌, ◌-◌, ◌*◌, ◌≤◌, length, drop, length-drop, arith, drop-drop}
use Rattle.lines.specs.Digits.{bytes, byte_count}
use Rattle.lines.specs.Lines as rules
use Rattle.lines.specs.Meaning.{part_of, Within, Reaches, Says}
use Rattle.lines.specs.declared.parts.Part.{Part}
use Rattle.lines.specs.declared.read.Bytes.{Bytes}
use Rattle.lines.specs.declared.read.Line.{Line}
use Rattle.lines.specs.declared.read.Line.TheVariants.{Set, Pc, Run}
use Rattle.lines.proofs.Reading.{two_each}

pub says_bad : (text : List ℕ) (line : rules.Line) → rules.bad ≡ line → Says text None line
says_bad text line e = record { means = e; within = tt }

-- what an equal line of the rules says
pub says_same : {text : List ℕ} {r : Option Line} {line other : rules.Line} → Says text r line → other ≡ line → Says text r other
says_same s e = record { means = s.means ∙ sym e; within = s.within }

-- and of the case that the code's line was found to be
pub says_as : {text : List ℕ} {r v : Option Line} {line : rules.Line} → Says text r line → r ≡ v → Says text v line
says_as {text} {line = line} s e = subst (λ (x : Option Line). Says text x line) e s

pub says_none : {text : List ℕ} {r : Option Line} {line : rules.Line} → r ≡ None → rules.bad ≡ line → Says text r line
says_none {text} {line = line} e q = says_as (says_bad text line q) (sym e)

-- ---- bytes at the end of a text

end_of : (text : List ℕ) (from : ℕ) → from ≤ length text → drop (length text - length (drop from text)) text ≡ drop from text
end_of text from h =
    let all : length text - length (drop from text) ≡ from = omega (arith, length-drop from text) in
    rw all

module _ (part : Part) (text : List ℕ) (b : Bytes) (from k : ℕ) (h : from ≤ length text) (e : b.digits.now ≡ drop from text) (q : k ≡ byte_count (drop from text)) where
  pub says_set : {line : rules.Line} → 1 ≤ k → b.at + k ≤ rules.size (part_of part) → rules.sets (part_of part) b.at (bytes (drop from text)) ≡ line
      → Says text (Some (Set part b)) line
  says_set l m s =
      let each : 2 * k ≡ length (drop from text) = two_each (drop from text) k q (λ z. omega arith) in
      let all : length b.digits.now ≡ 2 * k = ap length e ∙ sym each in
      record {
        means = rw e s;
        within = record { end = rw e (end_of text from h); digits = omega (arith, all); bytes = omega (arith, all, m); some = omega (arith, all, l) };
      }

-- what is read from a place on ends where the whole text ends
module _ (text rest : List ℕ) (k : ℕ) (e : rest ≡ drop k text) (h : k ≤ length text) where
  within_whole : (size : ℕ) (b : Bytes) → Within size rest b → Within size text b
  within_whole size b w =
      let long : length rest ≡ length text - k = ap length e ∙ length-drop k text in
      let short : length rest - (length rest - length b.digits.now) ≡ length b.digits.now = sym (length-drop (length rest - length b.digits.now) rest) ∙ ap length w.end in
      let past : length text - length b.digits.now ≡ k + (length rest - length b.digits.now) = omega arith in
      record {
        end = rw past (sym (drop-drop (length rest - length b.digits.now) k text) ∙ ap (drop (length rest - length b.digits.now)) (sym e) ∙ w.end);
        digits = w.digits;
        bytes = w.bytes;
        some = w.some;
      }

  reaches_whole : (r : Option Line) → Reaches rest r → Reaches text r
  reaches_whole None w = tt
  reaches_whole (Some (Set part b)) w = within_whole (rules.size (part_of part)) b w
  reaches_whole (Some (Pc n)) w = tt
  reaches_whole (Some (Run n)) w = tt

  pub says_whole : {r : Option Line} {line : rules.Line} → Says rest r line → Says text r line
  says_whole {r} s = record { means = s.means; within = reaches_whole r s.within }
