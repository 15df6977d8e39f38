-- One byte more is in use, so there is room for one less.
use Rattle.std.proofs.Common.{◌≡◌, ◌-◌, length, arith}
use Rattle.rules.specs.Sound.{send_bytes}
use Rattle.machine.proofs.Laws.{looping}
use Rattle.sound.proofs.Laws.{playing, stays_on}
use Rattle.sound.proofs.list.send_bytes.Goals as goal

pub loop-preserved : goal.loop-preserved
unfolding send_bytes
loop-preserved c =
    let stays = c.in_ok-send_next.ensures.does.2 in
    let room : length c.send_next.new.output.bytes.now - c.send_next.new.output.sent ≡ length c.loop.output.bytes.now - c.loop.output.sent - 1 =
    omega (arith, c.in_ok-send_next.ensures.one, stays.long) in
    rw room (grind (arith, playing, looping, stays_on))
