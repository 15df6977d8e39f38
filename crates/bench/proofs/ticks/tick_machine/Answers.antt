-- The tick tried from where the machine stands is the rules' attempt.
use Rattle.std.proofs.Common.{◌∙◌}
use Rattle.rules.specs.Calls.{tick}
use Rattle.bench.proofs.Beginning.{begun}
use Rattle.bench.proofs.Heard.{tick_ends, machine_done, machine_refused}
use Rattle.bench.proofs.ticks.tick_machine.Goals as goal

pub settle-reply-requires : goal.settle-reply-requires
settle-reply-requires c =
    let a = c.attempt-tried.ensures in begun c.requires.0 (tick _) _ (tick_ends c.requires.0 _ _ c.args.output.now c.args.output.now c.requires.1 a.0) a.1

pub returns-in-Ok : goal.returns-in-Ok
returns-in-Ok c =
    let a = c.attempt-tried.ensures in
    let e = tick_ends c.requires.0 _ _ c.args.output.now c.args.output.now c.requires.1 a.0 in (
      rw c.sending.ensures (machine_done c.requires.0 _ _ c.args.output.now c.attempt-tried.new.output c.requires.1 a.0 a.2
          (c.settle-reply.ensures.0 (begun c.requires.0 (tick _) _ e a.1)) c.in-Ok.is),
      c.settle-reply.ensures.2 ∙ a.1,
      a.2.1.same,
    )

pub returns-in-Err : goal.returns-in-Err
returns-in-Err c =
    let a = c.attempt-tried.ensures in
    let e = tick_ends c.requires.0 _ _ c.args.output.now c.args.output.now c.requires.1 a.0 in (
      rw c.sending-in-Err.ensures (machine_refused c.requires.0 _ _ c.args.output.now c.attempt-tried.new.output c.requires.1 a.0 a.2
          (c.settle-reply.ensures.0 (begun c.requires.0 (tick _) _ e a.1)) c.in-Err.is c.wipe.ensures),
      c.settle-reply.ensures.2 ∙ a.1,
      a.2.1.same,
    )
