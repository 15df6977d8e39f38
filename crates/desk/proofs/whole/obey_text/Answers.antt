-- What a turn tells comes after what was told before; where it can't be written, so much is told all the same.
use Rattle.std.proofs.Common.{rules, refl, ◌≡◌, Err, true, false}
use Rattle.desk.specs.declared.whole.Halt.TheVariants as halt
use Rattle.desk.proofs.Telling.{said_there, spoken_there}
use Rattle.desk.proofs.whole.obey_text.Goals as goal

pub returns-in-Err-clause-err : goal.returns-in-Err-clause-err
returns-in-Err-clause-err g c = spoken_there c.loop-count.invariant c.in-Err.ensures refl

pub returns-in_err-write_text-in-Ok-clause-err : goal.returns-in_err-write_text-in-Ok-clause-err
returns-in_err-write_text-in-Ok-clause-err g c =
    let broken : c.from_residual.result ≡ Err (halt.Io c.in_err-write_text-in-Ok.field-0.0) = search rules in
    rw broken (true, said_there c.loop-count.invariant c.in-Ok.ensures)

pub returns-in_err-write_text-in-Err-clause-err : goal.returns-in_err-write_text-in-Err-clause-err
returns-in_err-write_text-in-Err-clause-err g c =
    let broken : c.from_residual-in_err-write_text-in-Err.result ≡ Err (halt.Io c.in_err-write_text-in-Err.field-0.0) = search rules in
    rw broken (false, said_there c.loop-count.invariant c.in-Err.ensures)

pub loop-count-preserved : goal.loop-count-preserved
loop-count-preserved g c = said_there c.loop-count.invariant c.in-Ok.ensures
