-- From group 8 on no bit of a byte is left; below, the bit.
use Rattle.std.proofs.Common.{sym, ◌∙◌, le-ltb}
use Rattle.rules.proofs.Undo.{bit_beyond}
use Rattle.machine.proofs.grom.writable.Goals as goal

pub returns-else-g-lt8 : goal.returns-else-g-lt8
returns-else-g-lt8 c = le-ltb _ _ c.if-g-lt8.false ∙ sym (bit_beyond _ _ c.ranges.groups.fits c.if-g-lt8.false)
