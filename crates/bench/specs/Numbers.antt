-- What a call hands back, in numbers, as README, C and the printed lines have it: the answer's, and the address that was turned down or 0.
use Rattle.std.specs.Prelude.{Option, None, Some, ℕ}
use Rattle.rules.specs.Answers.{Answer, saying, well}
use Rattle.machine.specs.declared.answers.Why.{Why}
use Rattle.machine.specs.declared.answers.Why.TheVariants.{Ended, NoSuch, NeedsHost, OffCpu, OffVdp, OffGrom, OffStack}
use Rattle.machine.specs.declared.answers.Why.TheVariants.{TooLong, NoRoom, WrongLength, NoRecord, OffRegister, TooCoarse, ReadOnly, OutputFull}
use Rattle.bench.specs.declared.at.At.{At}
use Rattle.bench.specs.declared.walk.Reply as walk
use Rattle.bench.specs.declared.runs.Report as runs
use Rattle.bench.specs.declared.ticks.Ticked as ticks

-- the number of a refusal
abbrev pub numbered : Why → ℕ
numbered Ended = 1
numbered NoSuch = 2
numbered NeedsHost = 3
numbered (OffCpu a) = 4
numbered (OffVdp a) = 5
numbered (OffGrom a) = 6
numbered OffStack = 7
numbered TooLong = 8
numbered NoRoom = 10
numbered WrongLength = 11
numbered NoRecord = 12
numbered OffRegister = 13
numbered TooCoarse = 23
numbered ReadOnly = 24
numbered OutputFull = 26

-- the address that it carries
abbrev pub carried : Why → ℕ
carried Ended = 0
carried NoSuch = 0
carried NeedsHost = 0
carried (OffCpu a) = a
carried (OffVdp a) = a
carried (OffGrom a) = a
carried OffStack = 0
carried TooLong = 0
carried NoRoom = 0
carried WrongLength = 0
carried NoRecord = 0
carried OffRegister = 0
carried TooCoarse = 0
carried ReadOnly = 0
carried OutputFull = 0

-- no refusal is 0, "done"
abbrev pub answer_of : Option Why → Answer
answer_of None = well
answer_of (Some why) = saying (numbered why) (carried why)

pub record Reply : Type 0 where
  pub answer : ℕ
  pub address : ℕ
  pub stores : ℕ
  pub at : At

abbrev pub of_reply : walk.Reply → Reply
of_reply r = record { answer = (answer_of r.refusal).number; address = (answer_of r.refusal).address; stores = r.stores; at = r.at }

pub record Report : Type 0 where
  pub answer : ℕ
  pub address : ℕ
  pub steps : ℕ
  pub stores : ℕ
  pub at : At

abbrev pub of_report : runs.Report → Report
of_report r =
    record { answer = (answer_of r.refusal).number; address = (answer_of r.refusal).address; steps = r.steps; stores = r.stores; at = r.at }

pub record Ticked : Type 0 where
  pub answer : ℕ
  pub address : ℕ
  pub stores : ℕ
  pub at : At
  pub sent : ℕ

abbrev pub of_ticked : ticks.Ticked → Ticked
of_ticked r =
    record { answer = (answer_of r.refusal).number; address = (answer_of r.refusal).address; stores = r.stores; at = r.at; sent = r.sent }
