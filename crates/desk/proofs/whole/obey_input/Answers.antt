-- Before the first line nothing was read; a piece more is read, and obeyed.
use Rattle.std.proofs.Common.{arith, refl, sym, ne_eqb}
use Rattle.desk.specs.Meaning.{point, state_of}
use Rattle.desk.specs.Promised.{Midway}
use Rattle.desk.proofs.Promises.{midway_none, midway_read, midway_on}
use Rattle.desk.proofs.whole.obey_input.Goals as goal

pub loop-place-init : goal.loop-place-init
loop-place-init g c = rw (c.first-place.ensures, c.requires.0) (omega arith, midway_none c.requires.1)

pub loop-place-preserved : goal.loop-place-preserved
loop-place-preserved g c =
    let there = c.loop-place in
    let text = c.bytes.ensures.value in
    let read : Midway (point there.place.number c.bytes.result.now (state_of there.machine)) = rw text (midway_read there.invariant.1 c.in_ok-ended.ensures.ok) in
    let spoken = c.in_ok-obey_text.ensures.ok.1 in
    rw (c.pass.ensures, sym text) ((spoken.waits refl).short, midway_on read (ne_eqb _ _ c.if-ended.false) refl spoken.said)
