-- The invariant: of the whole, so many codes are left, and no code opens more than one block.
use Rattle.std.proofs.Common.{◌≡◌, ◌-◌, ◌≤◌}
use Rattle.rules.specs.Format.{fmt_rule, codes, on}
use Rattle.machine.specs.Meaning.{run, state, kept}
use Rattle.format.proofs.codes.format.Given as goal

abbrev pub invariant-loop : goal.invariant-loop
invariant-loop l =
    (run fmt_rule (state l.fn.m) ≡ run (codes (16384 - l.counter) (on l.t.bias l.t.blocks)) (state l.m)) × (kept l.m ≡ kept l.fn.m) × (l.t.blocks ≤ l.counter)
