-- The code's operations and effects, in the words of the rules.
use Rattle.std.specs.Prelude.{ℕ}
use Rattle.rules.specs.Machine.{cpu, status}
use Rattle.rules.specs.Rules.{Deed, ◌>>=◌, ◌>>◌, poke}
use Rattle.rules.specs.Operands.{Width, byte_count, Cell, past, standing}
use Rattle.rules.specs.Instructions.{div_status, divided}
use Rattle.rules.specs.Opcodes as opcodes
use Rattle.rules.specs.Arithmetic as arithmetic
use Rattle.arith.specs.declared.effects.One.{One}
use Rattle.arith.specs.declared.effects.One.TheVariants.{Abs, Neg, Inv, Clr, Cz, Inc, Dec, Inct, Dect}
use Rattle.arith.specs.declared.effects.Two.{Two}
use Rattle.arith.specs.declared.effects.Two.TheVariants.{Add, Sub, And, Or, Xor, St, Ch, Che, Cgt, Cge, Ceq, Clog, Sra, Sll, Srl, Src}
use Rattle.arith.specs.declared.effects.Effect.{Effect}
use Rattle.arith.specs.declared.effects.Effect.TheVariants.{Both, Only, Flags, Condition}

abbrev pub one_of : One → opcodes.One
one_of Abs = opcodes.abs
one_of Neg = opcodes.neg
one_of Inv = opcodes.inv
one_of Clr = opcodes.clr
one_of Cz = opcodes.cz
one_of Inc = opcodes.inc
one_of Dec = opcodes.dec
one_of Inct = opcodes.inct
one_of Dect = opcodes.dect

abbrev pub two_of : Two → opcodes.Two
two_of Add = opcodes.add
two_of Sub = opcodes.sub
two_of And = opcodes.and
two_of Or = opcodes.or
two_of Xor = opcodes.xor
two_of St = opcodes.st
two_of Ch = opcodes.ch
two_of Che = opcodes.che
two_of Cgt = opcodes.cgt
two_of Cge = opcodes.cge
two_of Ceq = opcodes.ceq
two_of Clog = opcodes.clog
two_of Sra = opcodes.sra
two_of Sll = opcodes.sll
two_of Srl = opcodes.srl
two_of Src = opcodes.src

abbrev pub effect_of : Effect → arithmetic.Effect
effect_of (Both s v) = arithmetic.both s v
effect_of (Only v) = arithmetic.only v
effect_of (Flags s) = arithmetic.flags s
effect_of (Condition c) = arithmetic.condition c

-- what DIV does once its operands are read
unfoldable pub div_by : Width → Cell → ℕ → ℕ → Deed
div_by w c upper b = do
  poke cpu status (div_status w)
  lower ← standing w (past (byte_count w) c)
  divided w c upper lower b
