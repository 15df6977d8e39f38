-- 01, "Instructions", and 02's COINC: the rule of each task; and what an opcode of each class is to do.
use Rattle.rules.specs.Answers.{Why}
use Rattle.rules.specs.Rules.{Rule, Deed, give, ◌>>=◌}
use Rattle.rules.specs.Opcodes.{Class, stops, does, starts}
use Rattle.rules.specs.Opcodes.{Task, rtn, rtnc, rand, back, long, call, all, fmt, test, move, branch, one, fetch, case, push, two, mul, div, ex, coinc}
use Rattle.rules.specs.Instructions.{one_rule, two_rule, test_rule, mul_rule, div_rule, ex_rule, push_rule}
use Rattle.rules.specs.Instructions.{branch_rule, long_rule, call_rule, rtn_rule, rtnc_rule, case_rule, fetch_rule, rand_rule, back_rule, all_rule, move_rule}
use Rattle.rules.specs.Format.{fmt_rule}
use Rattle.rules.specs.Coincidence.{coinc_rule}
use Rattle.rules.specs.Sound.{Source, start_rule}

unfoldable pub rule_of : Task → Deed
rule_of rtn = rtn_rule
rule_of rtnc = rtnc_rule
rule_of rand = rand_rule
rule_of back = back_rule
rule_of long = long_rule
rule_of call = call_rule
rule_of all = all_rule
rule_of fmt = fmt_rule
rule_of (test t) = test_rule t
rule_of (move bits) = move_rule bits
rule_of (branch set upper) = branch_rule set upper
rule_of (one op w) = one_rule op w
rule_of (fetch w) = fetch_rule w
rule_of (case w) = case_rule w
rule_of (push w) = push_rule w
rule_of (two op imm w) = two_rule op imm w
rule_of (mul imm w) = mul_rule imm w
rule_of (div imm w) = div_rule imm w
rule_of (ex w) = ex_rule w
rule_of coinc = coinc_rule

-- ---- 02, item 10: "The source flag stands beside pc"

-- what a step is to do: it is stopped before its mark, or follows a rule that gives the source flag which it leaves
pub data Plan : Type 0 where
  halt : Why → Plan
  go : Rule Source → Plan

-- all but the start of a list leave the flag as it is
abbrev pub keeping : Source → Deed → Rule Source
keeping v r = r >>= (λ _. give v)

unfoldable pub plan_of : Source → Class → Plan
plan_of v (stops why) = halt why
plan_of v (does t) = go (keeping v (rule_of t))
plan_of v (starts imm w) = go (start_rule imm w)
