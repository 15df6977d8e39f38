-- By the memory: its reach; a GROM cell also by its group.
use Rattle.std.proofs.Common.{◌∙◌}
use Rattle.machine.proofs.Words.{both_tests, first_fails, second_tells}
use Rattle.machine.proofs.journal.is_cell.Goals as goal

pub returns-in-Cpu : goal.returns-in-Cpu
returns-in-Cpu c = rw c.in-Cpu.is (both_tests _)

pub returns-in-Vdp : goal.returns-in-Vdp
returns-in-Vdp c = rw c.in-Vdp.is (both_tests _)

pub returns-in-Register : goal.returns-in-Register
returns-in-Register c = rw c.in-Register.is (both_tests _)

pub returns-then-at-size : goal.returns-then-at-size
returns-then-at-size c = rw c.in-Grom.is (c.writable.ensures ∙ second_tells _ _ _ c.if-at-size.true)

pub returns-else-at-size : goal.returns-else-at-size
returns-else-at-size c = rw c.in-Grom.is (first_fails _ _ _ c.if-at-size.false)
