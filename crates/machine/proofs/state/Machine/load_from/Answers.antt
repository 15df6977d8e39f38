-- Out of reach the memory's own refusal; else the byte, which is marked.
use Rattle.std.proofs.Common.{refl, arith}
use Rattle.machine.specs.Meaning.{rest_of}
use Rattle.machine.proofs.Acts.{peek_far, peeked}
use Rattle.machine.proofs.state.Machine.load_from.Goals as goal

pub returns-then-at-reach : goal.returns-then-at-reach
unfolding rest_of
returns-then-at-reach c = record {
  does = (
    rw (c.byte-b.ensures, c.mark.ensures.marks.0) (peeked c.args.k _ _ (omega (arith, c.reach.ensures, c.if-at-reach.true))),
    c.mark.ensures.marks.1,
  );
  words = c.mark.ensures.words;
}

pub returns : goal.returns
unfolding rest_of
returns c = record { does = (rw c.outside.ensures (peek_far c.args.k _ _ (omega (arith, c.reach.ensures, c.if-at-reach.false))), refl); words = refl }
