-- What is read comes after what is held.
use Rattle.std.proofs.Common.{arith}
use Rattle.desk.proofs.Front.{gained}
use Rattle.desk.proofs.pending.Pending.refill.Goals as goal

pub returns-clause-ok : goal.returns-clause-ok
returns-clause-ok g c = gained _ _ _ _ _ c.self.invariant (omega (arith, c.in_ok-got.ensures.bound, c.read.auto.buf)) c.self.view_is
