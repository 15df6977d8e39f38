-- The invariant: the verdict on what is left is the verdict on the whole.
use Rattle.std.proofs.Common.{◌≡◌, ◌+◌, ◌≤◌, length}
use Rattle.intelhex.specs.Dump.{judged}
use Rattle.intelhex.specs.Records.{records}
use Rattle.intelhex.proofs.dump.judge.Given as goal

abbrev pub invariant-loop-said : goal.invariant-loop-said
invariant-loop-said l =
    (judged l.initial.flags 1 (records l.text) ≡ judged l.flags l.line (records l.records.left.now)) × (l.line + length l.records.left.now ≤ length l.text + 1)
