-- The loop of codes: one code more, one too many, and none after the end.
use Rattle.std.proofs.Common.{◌≡◌, ℕ, zero, suc, ◌+◌, ◌-◌, ◌<◌, ◌≤◌, refl, arith}
use Rattle.rules.specs.Answers as answers
use Rattle.rules.specs.Answers.{answer_for, too_long}
use Rattle.rules.specs.Rules.{give, refuse, ◌>>=◌, exec}
use Rattle.rules.specs.Reads.{reads, marked}
use Rattle.rules.specs.Format.{over, on, code, codes}
use Rattle.machine.specs.Meaning.{State, failed, run}

pub codes_more : (n i bias blocks : ℕ) → i < n → codes (n - i) (on bias blocks) ≡ (code bias blocks >>= codes (n - (i + 1)))
unfolding codes
codes_more n i bias blocks h =
    let e : n - i ≡ suc (n - (i + 1)) = omega arith in
    rw e refl

pub codes_out : (n i bias blocks : ℕ) → n ≤ i → codes (n - i) (on bias blocks) ≡ refuse too_long
unfolding codes
codes_out n i bias blocks h =
    let e : n - i ≡ 0 = omega arith in
    rw e refl

pub codes_over : (n : ℕ) → codes n over ≡ give tt
unfolding codes
codes_over zero = refl
codes_over (suc n) = refl

pub run_refuse : {A : Type 0} (why : answers.Why) (s : State) → run {A = A} (refuse why) s ≡ failed (answer_for why) s.rest
unfolding run exec reads marked
run_refuse why s = refl

pub ruleset turns = (codes_more, codes_out, codes_over, run_refuse)
