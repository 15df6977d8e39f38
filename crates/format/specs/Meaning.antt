-- Where a format string stands after a code, in the words of the rules.
use Rattle.std.specs.Prelude.{ℕ, ◌+◌, ◌≤◌, Option, None, Some, Result, IfOk, IfSome}
use Rattle.rules.specs.Format as fmt
use Rattle.machine.specs.declared.answers.Why.{Why}
use Rattle.format.specs.declared.codes.Turn.{Turn}

-- going on with a bias and so many blocks not yet closed, or at its end
abbrev pub turn_of : Option Turn → fmt.Turn
turn_of None = fmt.over
turn_of (Some t) = fmt.on t.bias t.blocks

-- where it goes on there are at most n + 1 blocks: a code opens no more than one
abbrev pub FewBlocks : ℕ → Result (Option Turn) Why → Type 0
FewBlocks n result = IfOk result (λ next. IfSome next (λ t. t.blocks ≤ n + 1))
