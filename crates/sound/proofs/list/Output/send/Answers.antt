-- The byte stands behind those in use.
use Rattle.std.proofs.Common.{refl, arith, length-set}
use Rattle.sound.specs.Meaning.{writing, laid}
use Rattle.sound.proofs.list.Output.send.Goals as goal

pub returns : goal.returns
unfolding writing laid
returns c = (
  omega (arith, c.if-self.false),
  refl,
  refl,
  record {
    same = refl;
    long = length-set _ _ _;
    fits = λ _. omega (arith, c.if-self.false, length-set c.args.self.now.bytes.now c.args.self.now.sent c.args.b);
  },
)
