-- By the memory's number.
use Rattle.std.proofs.Common.{ne_eqb, arith}
use Rattle.export.specs.Who.{kind_in}
use Rattle.export.proofs.who.kind_of.Goals as goal

pub returns-in-1 : goal.returns-in-1
unfolding kind_in
returns-in-1 c = rw c.in-1.is

pub returns-in-2 : goal.returns-in-2
unfolding kind_in
returns-in-2 c = rw c.in-2.is

pub returns-in-4 : goal.returns-in-4
unfolding kind_in
returns-in-4 c = rw c.in-4.is

pub returns-in_default : goal.returns-in_default
unfolding kind_in
returns-in_default c = rw (ne_eqb c.args.memory 1 (λ e. omega arith), ne_eqb c.args.memory 2 (λ e. omega arith), ne_eqb c.args.memory 4 (λ e. omega arith))
