-- The code's classes and tasks, in the words of the rules.
use Rattle.std.specs.Prelude.{Result, Ok, Err}
use Rattle.rules.specs.Opcodes as opcodes
use Rattle.machine.specs.declared.answers.Why.{Why}
use Rattle.machine.specs.Meaning.{why_of}
use Rattle.flow.specs.Meaning.{test_of}
use Rattle.arith.specs.Meaning.{one_of, two_of}
use Rattle.opcode.specs.declared.class.Task.{Task}
use Rattle.opcode.specs.declared.class.Task.TheVariants.{Rtn, Rtnc, Rand, Back, Long, Call, All, Fmt, Test, Move, Branch, One, Fetch, Case, Push, Two, Mul, Div, Ex, Coinc}
use Rattle.opcode.specs.declared.class.Class.{Class}
use Rattle.opcode.specs.declared.class.Class.TheVariants.{Does, Starts}

abbrev pub task_of : Task → opcodes.Task
task_of Rtn = opcodes.rtn
task_of Rtnc = opcodes.rtnc
task_of Rand = opcodes.rand
task_of Back = opcodes.back
task_of Long = opcodes.long
task_of Call = opcodes.call
task_of All = opcodes.all
task_of Fmt = opcodes.fmt
task_of (Test t) = opcodes.test (test_of t)
task_of (Move bits) = opcodes.move bits
task_of (Branch set upper) = opcodes.branch set upper
task_of (One op w) = opcodes.one (one_of op) w
task_of (Fetch w) = opcodes.fetch w
task_of (Case w) = opcodes.case w
task_of (Push w) = opcodes.push w
task_of (Two op imm w) = opcodes.two (two_of op) imm w
task_of (Mul imm w) = opcodes.mul imm w
task_of (Div imm w) = opcodes.div imm w
task_of (Ex w) = opcodes.ex w
task_of Coinc = opcodes.coinc

abbrev pub meant : Result Class Why → opcodes.Class
meant (Err why) = opcodes.stops (why_of why)
meant (Ok (Does t)) = opcodes.does (task_of t)
meant (Ok (Starts imm w)) = opcodes.starts imm w
