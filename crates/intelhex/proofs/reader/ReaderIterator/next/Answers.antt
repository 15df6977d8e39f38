use Rattle.intelhex.proofs.Saying.{turn}
use Rattle.intelhex.proofs.reader.ReaderIterator.next.Goals as goal

pub returns-clause-steps : goal.returns-clause-steps
returns-clause-steps c = turn c.first_line.ensures c.record_in.ensures
