-- Refused, or read: what is printed is what is shown.
use Rattle.std.proofs.Common.{rules, refl, Err}
use Rattle.intelhex.proofs.Judging.{refused}
use Rattle.lines.proofs.Printing.{front}
use Rattle.rig.proofs.Showing.{shown_refused, shown_image}
use Rattle.rig.proofs.show.show.Goals as goal

pub returns-in-Err : goal.returns-in-Err
returns-in-Err c =
    shown_refused _ _ _ c.in-Err.ensures.says (refused {A = Unit {0}} (Err c.in-Err.why) refl) (search rules) (front c.put_refusal.ensures (search rules) (search rules))

pub returns-in-Ok : goal.returns-in-Ok
returns-in-Ok c =
    shown_image _ _ _ c.in-Ok.ensures.says _ _ refl c.in-Ok.ensures.leaves (search rules) (search rules)
    (front c.put_image.ensures (search rules) (search rules))
