-- The image is written, or a line says nothing.
use Rattle.std.proofs.Common.{rules, refl}
use Rattle.lines.proofs.Printing.{front}
use Rattle.rig.proofs.Gathering.{accepted, dumped_good, dumped_bad}
use Rattle.rig.proofs.gather.dump.Goals as goal

pub unwrap-requires : goal.unwrap-requires
unwrap-requires c = accepted _ _ _ c.write_hex.ensures.says (search rules) (search rules)

pub returns-in-Ok : goal.returns-in-Ok
returns-in-Ok c =
    dumped_good _ _ _ c.write_hex.ensures.says (search rules) (search rules) _ _ c.unwrap.ensures c.write_hex.ensures.leaves (search rules)
    c.in-Ok.ensures.says (c.in-Ok.ensures.leaves refl)
    (c.fill.ensures.after (λ y e. e)) (search rules)

pub returns-in-Err : goal.returns-in-Err
returns-in-Err c = dumped_bad _ _ c.in-Err.ensures.says c.in-Err.ensures.counts (front c.put_bad.ensures (search rules) (search rules))
