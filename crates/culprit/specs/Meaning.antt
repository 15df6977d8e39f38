-- What the code's values say, in the words of the item.
use Rattle.std.specs.Prelude.{ℕ, Option, Some, None, Result, Ok, Err}
use Rattle.rules.specs.Machine.{Mem, State}
use Rattle.rules.specs.Answers.{Why, answer_for, wrong_length, no_record}
use Rattle.ring.specs.declared.book.Book.{Book}
use Rattle.machine.specs.Meaning.{SeenLent, mem_of}
use Rattle.bench.specs.declared.at.At.{At}
use Rattle.bench.specs.Meaning.{state_at}
use Rattle.culprit.specs.Culprit as culprit
use Rattle.culprit.specs.Culprit.{Writer, nobody, writer, trail, refusal, none_kept, wrote}
use Rattle.culprit.specs.declared.trail.Culprit.{Culprit}
use Rattle.culprit.specs.declared.trail.Refusal.{Refusal}
use Rattle.culprit.specs.declared.trail.Refusal.TheVariants.{WrongLength, NoRecord}
use Rattle.culprit.specs.declared.trail.Trail.{Trail}
use Rattle.culprit.specs.declared.trail.Writer as Code

-- the machine that a call is lent to look at, by where it stands
abbrev pub seen : SeenLent → SeenLent → SeenLent → SeenLent → SeenLent → At → State
seen i p v g j at = state_at i.entry.now p.entry.now v.entry.now g.entry.now j.entry.now at

-- and by its writable groups and its journal's book
abbrev pub seen_by : SeenLent → SeenLent → SeenLent → SeenLent → SeenLent → ℕ → Book → Mem
seen_by i p v g j w b = mem_of i.entry.now w p.entry.now v.entry.now g.entry.now j.entry.now b

abbrev pub why_in : Refusal → Why
why_in WrongLength = wrong_length
why_in NoRecord = no_record

-- the step that is named, or that none was kept
abbrev pub found_of : Option Culprit → culprit.Wrote
found_of None = none_kept
found_of (Some c) = wrote c.after c.pc c.before c.left

-- what a call says
abbrev pub Saying : Type 0
Saying = Result (Option Culprit) Refusal

abbrev pub wrote_of : Saying → culprit.Wrote
wrote_of (Ok r) = found_of r
wrote_of (Err e) = refusal (answer_for (why_in e))

abbrev pub writer_of : Option Code.Writer → Writer
writer_of None = nobody
writer_of (Some x) = writer x.after x.pc x.before

abbrev pub trail_of : Trail → culprit.Trail
trail_of t = trail t.pc (writer_of t.by)

-- how many kept steps came after it, 0 where there is none
abbrev pub later_than : Option Code.Writer → ℕ
later_than None = 0
later_than (Some x) = x.after

abbrev pub after_of : Trail → ℕ
after_of t = later_than t.by
