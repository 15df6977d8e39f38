-- A store keeps a byte of what it is given.
use Rattle.std.proofs.Common.{◌≡◌, ℕ, ◌%◌, refl, arith}
use Rattle.rules.specs.Machine.{Kind}
use Rattle.rules.specs.Rules.{poke, exec, perform}
use Rattle.rules.specs.Reads.{reads, act_reads}
use Rattle.machine.specs.Meaning.{State, run}

pub run_kept_byte : (k : Kind) (a b : ℕ) (s : State) → run (poke k a (b % 256)) s ≡ run (poke k a b) s
unfolding run exec perform reads act_reads
run_kept_byte k a b s =
    let z : b % 256 % 256 ≡ b % 256 = omega arith in
    rw z refl
