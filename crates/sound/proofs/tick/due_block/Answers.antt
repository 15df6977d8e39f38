-- The list opened and its block played, then the rest of the rule.
use Rattle.std.proofs.Common.{◌≡◌, refl, ℕ, arith}
use Rattle.rules.specs.Machine.{cpu, list_cell}
use Rattle.rules.specs.Rules.{◌>>=◌, ◌>>◌, peek_word}
use Rattle.rules.specs.Sound.{Source, list_byte, block, opened, due_block}
use Rattle.machine.specs.Meaning.{State}
use Rattle.sound.specs.Meaning.{Written, plays, book}
use Rattle.sound.proofs.Laws.{playing}
use Rattle.sound.proofs.tick.due_block.Goals as goal

due_is : (left : ℕ) (v : Source) (s : State) (o : Written)
    → plays (due_block left v) s o ≡ plays (peek_word cpu list_cell >>= (λ a. opened v >> (list_byte v a >>= (λ n. block left v a n >>= book v)))) s o
unfolding due_block book
due_is left v s o = refl

pub returns : goal.returns
returns c = rw (due_is _ c.args.source _ _) (grind (arith, playing))
