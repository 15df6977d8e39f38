-- Kind 3, and the flag where it is set, stand above the address's sixteen bits.
use Rattle.std.proofs.Common.{◌≡◌, ℕ, ◌+◌, ◌*◌, ◌^◌, ◌∙◌, arith}
use lib.Bits.{or_shifted}
use Rattle.rules.specs.Journal.{mark_word}
use Rattle.number.proofs.words.mark_of.Goals as goal

pub returns-then-source : goal.returns-then-source
unfolding mark_word
returns-then-source c =
    let pc : ℕ = c.args.pc in
    let above : 0x6001 * 2 ^ 16 + pc ≡ 3 * 2 ^ 29 + (65536 + pc) = omega arith in
    rw c.if-source.true (or_shifted 0x6001 16 pc (omega arith) ∙ above)

pub returns : goal.returns
unfolding mark_word
returns c = rw c.if-source.false (or_shifted 3 29 c.args.pc (omega arith))
