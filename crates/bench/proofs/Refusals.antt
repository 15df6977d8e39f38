-- The refusals in numbers: none has the number of another, nor 0, and so each can be read off its number and its address.
use Rattle.std.specs.Option.{is_some}
use Rattle.std.proofs.Common.{◌≡◌, refl, ◌∙◌, ap, sym, Bool, true, false, not, Option, None, Some, ℕ, arith, eqb, ne_eqb}
use Rattle.rules.specs.Answers.{number}
use Rattle.rules.specs.Machine.{pick}
use Rattle.rules.proofs.Tests.{false_true}
use Rattle.rules.proofs.Opcodes.{never_done}
use Rattle.machine.specs.declared.answers.Why.{Why}
use Rattle.machine.specs.declared.answers.Why.TheVariants.{Ended, NoSuch, NeedsHost, OffCpu, OffVdp, OffGrom, OffStack}
use Rattle.machine.specs.declared.answers.Why.TheVariants.{TooLong, NoRoom, WrongLength, NoRecord, OffRegister, TooCoarse, ReadOnly, OutputFull}
use Rattle.machine.specs.Meaning.{why_of}
use Rattle.bench.specs.declared.walk.Reply as walk
use Rattle.bench.specs.declared.runs.Report as runs
use Rattle.bench.specs.declared.ticks.Ticked as ticks
use Rattle.bench.specs.Numbers as numbers
use Rattle.bench.specs.Numbers.{numbered, answer_of, of_reply, of_report, of_ticked}
use Rattle.bench.specs.Meaning.{Returned, returned}

-- the rules give it the same number
pub numbered_is : (why : Why) → numbered why ≡ number (why_of why)
numbered_is Ended = refl
numbered_is NoSuch = refl
numbered_is NeedsHost = refl
numbered_is (OffCpu a) = refl
numbered_is (OffVdp a) = refl
numbered_is (OffGrom a) = refl
numbered_is OffStack = refl
numbered_is TooLong = refl
numbered_is NoRoom = refl
numbered_is WrongLength = refl
numbered_is NoRecord = refl
numbered_is OffRegister = refl
numbered_is TooCoarse = refl
numbered_is ReadOnly = refl
numbered_is OutputFull = refl

pub some_refused : (r : Option Why) → is_some r ≡ true → (answer_of r).number ≡ 0 → ⊥
some_refused None e z = absurd (false_true e)
some_refused (Some why) e z = omega (arith, never_done (why_of why), numbered_is why, z)

pub none_done : (r : Option Why) → is_some r ≡ false → (answer_of r).number ≡ 0
none_done None e = refl
none_done (Some why) e = absurd (false_true (sym e))

-- what a test of a refusal says
pub none_is_0 : (r : Option Why) (b : Bool) → is_some r ≡ not b → b ≡ eqb (answer_of r).number 0
none_is_0 None true e = refl
none_is_0 None false e = absurd (false_true e)
none_is_0 (Some why) true e = absurd (false_true (sym e))
none_is_0 (Some why) false e = sym (ne_eqb (answer_of (Some why)).number 0 (some_refused (Some why) refl))

-- read again
refusal_of : ℕ → ℕ → Option Why
refusal_of n a =
    pick (eqb n 1) (Some Ended) (
    pick (eqb n 2) (Some NoSuch) (
    pick (eqb n 3) (Some NeedsHost) (
    pick (eqb n 4) (Some (OffCpu a)) (
    pick (eqb n 5) (Some (OffVdp a)) (
    pick (eqb n 6) (Some (OffGrom a)) (
    pick (eqb n 7) (Some OffStack) (
    pick (eqb n 8) (Some TooLong) (
    pick (eqb n 10) (Some NoRoom) (
    pick (eqb n 11) (Some WrongLength) (
    pick (eqb n 12) (Some NoRecord) (
    pick (eqb n 13) (Some OffRegister) (
    pick (eqb n 23) (Some TooCoarse) (
    pick (eqb n 24) (Some ReadOnly) (
    pick (eqb n 26) (Some OutputFull) None))))))))))))))

read_again : (r : Option Why) → refusal_of (answer_of r).number (answer_of r).address ≡ r
unfolding refusal_of
read_again None = refl
read_again (Some Ended) = refl
read_again (Some NoSuch) = refl
read_again (Some NeedsHost) = refl
read_again (Some (OffCpu a)) = refl
read_again (Some (OffVdp a)) = refl
read_again (Some (OffGrom a)) = refl
read_again (Some OffStack) = refl
read_again (Some TooLong) = refl
read_again (Some NoRoom) = refl
read_again (Some WrongLength) = refl
read_again (Some NoRecord) = refl
read_again (Some OffRegister) = refl
read_again (Some TooCoarse) = refl
read_again (Some ReadOnly) = refl
read_again (Some OutputFull) = refl

-- what a call hands back, its result in numbers, and read again
abbrev with_result : {A B : Type 0} → (A → B) → Returned A → Returned B
with_result f x = returned x.image x.pad x.vram x.regs x.journal (f x.result)

abbrev pub replies_in : Returned walk.Reply → Returned numbers.Reply
replies_in = with_result of_reply

abbrev pub reports_in : Returned runs.Report → Returned numbers.Report
reports_in = with_result of_report

abbrev pub ticks_in : Returned ticks.Ticked → Returned numbers.Ticked
ticks_in = with_result of_ticked

abbrev reply_again : Returned numbers.Reply → Returned walk.Reply
reply_again = with_result (λ r. record { refusal = refusal_of r.answer r.address; stores = r.stores; at = r.at })

abbrev report_again : Returned numbers.Report → Returned runs.Report
report_again = with_result (λ r. record { refusal = refusal_of r.answer r.address; steps = r.steps; stores = r.stores; at = r.at })

abbrev ticked_again : Returned numbers.Ticked → Returned ticks.Ticked
ticked_again = with_result (λ r. record { refusal = refusal_of r.answer r.address; stores = r.stores; at = r.at; sent = r.sent })

reply_back : (x : Returned walk.Reply) → reply_again (replies_in x) ≡ x
reply_back x =
    ap (λ (r : Option Why). returned x.image x.pad x.vram x.regs x.journal (record { refusal = r; stores = x.result.stores; at = x.result.at }))
    (read_again x.result.refusal)

report_back : (x : Returned runs.Report) → report_again (reports_in x) ≡ x
report_back x =
    ap (λ (r : Option Why). returned x.image x.pad x.vram x.regs x.journal
    (record { refusal = r; steps = x.result.steps; stores = x.result.stores; at = x.result.at }))
    (read_again x.result.refusal)

ticked_back : (x : Returned ticks.Ticked) → ticked_again (ticks_in x) ≡ x
ticked_back x =
    ap (λ (r : Option Why). returned x.image x.pad x.vram x.regs x.journal
    (record { refusal = r; stores = x.result.stores; at = x.result.at; sent = x.result.sent }))
    (read_again x.result.refusal)

-- the same in numbers is the same
pub same_reply : (x y : Returned walk.Reply) → replies_in x ≡ replies_in y → x ≡ y
same_reply x y e = sym (reply_back x) ∙ ap reply_again e ∙ reply_back y

pub same_report : (x y : Returned runs.Report) → reports_in x ≡ reports_in y → x ≡ y
same_report x y e = sym (report_back x) ∙ ap report_again e ∙ report_back y

pub same_ticked : (x y : Returned ticks.Ticked) → ticks_in x ≡ ticks_in y → x ≡ y
same_ticked x y e = sym (ticked_back x) ∙ ap ticked_again e ∙ ticked_back y
