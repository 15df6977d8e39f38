-- That many bytes surely go; and what a loop has left of VDP RAM and the journal is what that leaves.
use Rattle.std.proofs.Common.{◌≡◌, refl, ◌∙◌, ◌+◌, ◌-◌, ◌≤◌, arith}
use Rattle.ring.specs.Meaning.{rings, seen}
use Rattle.machine.specs.Meaning.{rest_of, kept}
use Rattle.block.specs.Meaning.{clear, stored}
use Rattle.block.proofs.Rows.{sure_moves}
use Rattle.block.proofs.copies.copy_all.Goals as goal

pub returns-in-Cpu : goal.returns-in-Cpu
unfolding rest_of kept seen rings
returns-in-Cpu c =
    let gone = sure_moves c.args.n c.args.t c.args.from c.args.m.now c.requires.0 c.requires.1 in
    (gone ∙ rw (c.in-Cpu.is, ← c.copy_pad.ensures.done, c.copy_pad.ensures.same.0, c.requires.0) refl, rw c.copy_pad.ensures.same.1 refl)

pub returns-in-Vdp : goal.returns-in-Vdp
unfolding rest_of kept seen rings
returns-in-Vdp c =
    let gone = sure_moves c.args.n c.args.t c.args.from c.args.m.now c.requires.0 c.requires.1 in
    (gone ∙ rw (c.in-Vdp.is, ← c.copy_within.ensures.done, c.requires.0) refl, rw c.copy_within.ensures.same refl)

-- of a register none
pub returns-in-Register : goal.returns-in-Register
unfolding rest_of kept seen rings stored
returns-in-Register c =
    let gone = sure_moves c.args.n c.args.t c.args.from c.args.m.now c.requires.0 c.requires.1 in
    let few : c.args.n ≤ clear c.args.from.memory c.args.m.now - c.args.from.at = c.requires.1.0 in
    let none : c.args.n ≡ 0 = omega (arith, rw c.in-Register.is at few) in
    let used : c.args.m.now.used + c.args.n ≡ c.args.m.now.used = omega (arith, none) in
    (gone ∙ rw (used, none, c.requires.0) refl, refl)

pub returns-in-Grom : goal.returns-in-Grom
unfolding rest_of kept seen rings
returns-in-Grom c =
    let gone = sure_moves c.args.n c.args.t c.args.from c.args.m.now c.requires.0 c.requires.1 in
    (gone ∙ rw (c.in-Grom.is, ← c.copy.ensures.done, c.copy.ensures.same.0, c.requires.0) refl, rw (c.copy.ensures.same.0, c.copy.ensures.same.1) refl)
