-- The byte surely goes to so many cells; and what the loop has left of VDP RAM and the journal is what that leaves.
use Rattle.std.proofs.Common.{refl, ◌∙◌, arith}
use Rattle.ring.specs.Meaning.{rings, seen}
use Rattle.machine.specs.Meaning.{rest_of, kept}
use Rattle.block.proofs.Rows.{sure_fills}
use Rattle.block.proofs.copies.fill_sure.Goals as goal

pub returns-clause-does : goal.returns-clause-does
unfolding rest_of kept seen rings
returns-clause-does c =
    let filled = sure_fills c.args.at c.args.b c.min-sure.result c.args.m.now c.in-None.is (omega (arith, c.requires, c.min-sure.ensures))
    (omega (arith, c.saturating_sub.ensures, c.min-sure.ensures)) in
    (filled ∙ rw (← c.spread.ensures.done, c.in-None.is) refl, rw c.spread.ensures.same refl)
