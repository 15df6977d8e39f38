-- What is answered is the rules' own, and that is the true one: by item 7's theorem, of the steps that demand 3 keeps.
use Rattle.std.proofs.Common.{◌≡◌, ◌∙◌, ap, sym, subst, List, ℕ}
use Rattle.rules.specs.Machine.{Kind, State}
use Rattle.rules.specs.Journal.{kind_number}
use Rattle.rules.specs.Demands.{Good}
use Rattle.bench.specs.Promised.{Said, past_of}
use Rattle.culprit.specs.Culprit.{Wrote, who_wrote, True}
use Rattle.culprit.proofs.True.{who_true}
use Rattle.export.specs.Meaning.{Numbers}
use Rattle.export.specs.Who.{asked, numbers_of}
use Rattle.export.proofs.Asked.{asked_kind}
use Rattle.witness.specs.Demanded.{Led}
use Rattle.witness.specs.Hosted.{HostCalled}
use Rattle.witness.specs.Blamed.{TrueIn}
use Rattle.witness.proofs.Counted.{held}
use Rattle.witness.proofs.Heard.{demand3_heard}

pub who_bears : (k : Kind) (a : ℕ) {s₀ s : State} {w : Wrote} → w ≡ who_wrote k a s.mem → (l : Led s₀ s) → True k a s₀ (past_of s₀ l.said) s.mem w
who_bears k a {s₀} {s} e l = subst (True k a s₀ (past_of s₀ l.said) s.mem) (sym e) (who_true k a l.good (held l))

pub who_heard : (k : Kind) (n a : ℕ) {ring w : ℕ} {s₀ s : State} {l : List Said} {x : Numbers} → x ≡ numbers_of (asked n a s.mem) → kind_number k ≡ n → Good s₀
    → s₀.mem.used ≡ 0 → HostCalled ring w s₀ l s → TrueIn k a s₀ (past_of s₀ l) s.mem x
who_heard k n a {s = s} e q g z h =
    record {
      said = who_wrote k a s.mem;
      told = e ∙ ap numbers_of (ap (λ (i : ℕ). asked i a s.mem) (sym q) ∙ asked_kind k a s.mem);
      is = who_true k a g (demand3_heard g z h).steps;
    }
