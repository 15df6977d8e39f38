-- The journal is no ring: turned, it is itself.
use Rattle.std.proofs.Common.{refl}
use Rattle.rules.specs.Journal.{turned}
use Rattle.desk.proofs.state.Machine.new.Goals as goal

pub returns : goal.returns
unfolding turned
returns c = rw c.first.ensures refl
