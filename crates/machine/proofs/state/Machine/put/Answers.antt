-- By the memory: of the image, which stays as long.
use Rattle.std.proofs.Common.{refl, length-set}
use Rattle.machine.specs.Meaning.{rest_of, kept}
use Rattle.machine.proofs.state.Machine.put.Goals as goal

pub returns-in-Cpu : goal.returns-in-Cpu
unfolding rest_of kept
returns-in-Cpu c = rw c.in-Cpu.is (refl, refl)

pub returns-in-Vdp : goal.returns-in-Vdp
unfolding rest_of kept
returns-in-Vdp c = rw c.in-Vdp.is (refl, refl)

pub returns-in-Register : goal.returns-in-Register
unfolding rest_of kept
returns-in-Register c = rw c.in-Register.is (refl, refl)

pub returns-in-Grom : goal.returns-in-Grom
unfolding rest_of kept
returns-in-Grom c = rw c.in-Grom.is (refl, rw (length-set _ _ _) refl)
