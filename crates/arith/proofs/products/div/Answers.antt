-- The operands read, then the rest of the rule.
use Rattle.std.proofs.Common.{◌≡◌, refl, Bool, arith}
use Rattle.rules.specs.Rules.{◌>>=◌}
use Rattle.rules.specs.Operands.{Width, operand, value, source}
use Rattle.rules.specs.Instructions.{div_rule}
use Rattle.machine.specs.Meaning.{State, run}
use Rattle.machine.proofs.Laws as laws
use Rattle.operand.specs.Meaning.{read_target}
use Rattle.arith.specs.Meaning.{div_by}
use Rattle.arith.proofs.products.div.Goals as goal

div_is : (imm : Bool) (w : Width) (s : State) → run (div_rule imm w) s ≡ run (operand w >>= (λ c. value w c >>= (λ upper. source imm w >>= (λ b. div_by w c upper b)))) s
unfolding div_rule div_by
div_is imm w s = refl

pub returns : goal.returns
unfolding read_target
returns c = rw (div_is c.args.imm c.args.wide _) (grind (arith, laws.steps))
