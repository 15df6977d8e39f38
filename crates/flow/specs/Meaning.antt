-- The code's four bit tests, in the words of the rules.
use Rattle.rules.specs.Opcodes as opcodes
use Rattle.flow.specs.declared.status.Test.{Test}
use Rattle.flow.specs.declared.status.Test.TheVariants.{High, Greater, Carry, Overflow}

abbrev pub test_of : Test → opcodes.Test
test_of High = opcodes.high
test_of Greater = opcodes.greater
test_of Carry = opcodes.carry
test_of Overflow = opcodes.overflow
