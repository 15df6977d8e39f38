-- Demand 3, of any sequence of calls. They lead where steps and step-backs of the rules lead, by induction on the calls; and what they say counts what the rules keep.
use Rattle.std.proofs.Common.{◌≡◌, refl, ◌∙◌, ap, sym, subst, Bool, true, false, List, [], ◌∷◌, ◌++◌, ℕ, zero, suc, ◌+◌, ◌-◌, arith, eqb, length, drop, length-append, ne_eqb}
use Rattle.std.proofs.Math.ListN.{length-map, length-replicate}
use Rattle.rules.specs.Machine.{pick, State}
use Rattle.rules.specs.Answers.{Answer, saying}
use Rattle.rules.specs.Journal.{word_of}
use Rattle.rules.specs.Calls.{Way, instruction, tick, fits, Reply, done, refused, left, step, step_stores, step_back, Report, run}
use Rattle.rules.specs.Demands.{Good, Listed, Accepted, Refused, Op, forth, aback, reply, play, forward, AllAccepted, record_of, records, total, instructions}
use Rattle.rules.specs.Demands.{Past, past, tally, history, Ends, full, cut, Demand1, Demand3}
use Rattle.rules.proofs.Forget.{drops_plain}
use Rattle.rules.proofs.Opcodes.{never_done}
use Rattle.rules.proofs.Named.{NamedReply, named_step}
use Rattle.rules.proofs.Fits.{step_unfit}
use Rattle.rules.proofs.Replies as replies-of
use Rattle.rules.proofs.History as history-of
use Rattle.bench.specs.Numbers as numbers
use Rattle.bench.specs.Meaning.{Returned, Outcome, replies, leaves, told, stepping, backing, reported, Tells}
use Rattle.bench.specs.Promised.{Said, stepped, backed, ran, Called, no_call, then_step, then_tick, then_back, then_run}
use Rattle.bench.specs.Promised.{Count, one_more, one_less, no_more, counts, count_of, forths, run_ops, ops, all_ops, past_of, Keeps}
use Rattle.bench.proofs.Replies.{says, accepts, refuses, leads}
use Rattle.bench.proofs.Promises.{demand1, demand2, run_unfit, run_ends, step_back_refused}

-- ---- one sequence after another

play_on : (os ps : List Op) (s : State) → play (os ++ ps) s ≡ play ps (play os s)
play_on [] ps s = refl
play_on (o ∷ os) ps s = play_on os ps (left (reply o s))

history_on : (s₀ : State) (os ps : List Op) (s : State) (h : Past) → history s₀ (os ++ ps) s h ≡ history s₀ ps (play os s) (history s₀ os s h)
history_on s₀ [] ps s h = refl
history_on s₀ (o ∷ os) ps s h = history_on s₀ os ps (left (reply o s)) (tally s₀ o s (reply o s) h)

-- from s the rules' calls lead to t, and of n steps, accepted and not taken back, they make k
record Plays (s₀ s : State) (n : ℕ) (os : List Op) (t : State) (k : ℕ) : Type 0 where
  leads : t ≡ play os s
  keeps : (h : Past) → length h.steps ≡ n → length (history s₀ os s h).steps ≡ k

on : {s₀ s t u : State} {n k m : ℕ} {os ps : List Op} → Plays s₀ s n os t k → Plays s₀ t k ps u m → Plays s₀ s n (os ++ ps) u m
on {s₀} {s} {t} {os = os} {ps = ps} p q =
    record {
      leads = q.leads ∙ ap (play ps) p.leads ∙ sym (play_on os ps s);
      keeps = λ h e.
          ap (λ (x : Past). length x.steps) (history_on s₀ os ps s h) ∙ ap (λ (x : State). length (history s₀ ps x (history s₀ os s h)).steps) (sym p.leads)
          ∙ q.keeps (history s₀ os s h) (p.keeps h e);
    }

-- ---- each call, by its contract

-- what a caller counts of an answer is what the rules count
tallies : (s₀ s : State) (o : Op) (b : Bool) (a : Answer) (t : State) (h : Past) (c d : Count) → length (tally s₀ o s (done t) h).steps ≡ d.steps
    → length h.steps ≡ c.steps → length (tally s₀ o s (pick b (done t) (refused a t)) h).steps ≡ (pick b d c).steps
tallies s₀ s o true a t h c d e z = e
tallies s₀ s (forth w) false a t h c d e z = z
tallies s₀ s aback false a t h c d e z = z

call_plays : (s₀ : State) (o : Op) {f : State → Outcome} {s : State} {x : Returned numbers.Reply} (c d : Count) → Tells told f s x → (f s).reply ≡ reply o s
    → ((h : Past) → length h.steps ≡ c.steps → length (tally s₀ o s (done (leaves x)) h).steps ≡ d.steps)
    → Plays s₀ s c.steps (o ∷ []) (leaves x) (pick (eqb x.result.answer 0) d c).steps
unfolding replies
call_plays s₀ o {s = s} {x = x} c d e q k =
    let a : Answer = saying x.result.answer x.result.address in
    record {
      leads = leads e ∙ ap left q;
      keeps = λ h z.
          ap (λ (r : Reply). length (tally s₀ o s r h).steps) (sym q ∙ says e) ∙ tallies s₀ s o (eqb x.result.answer 0) a (leaves x) h c d (k h z) z;
    }

-- instructions that are all accepted
forths_play : (s₀ : State) (k : ℕ) {s : State} (n : ℕ) → AllAccepted (instructions k) s → Plays s₀ s n (forths k) (forward (instructions k) s) (n + k)
forths_play s₀ zero n a = record { leads = refl; keeps = λ h e. omega arith }
forths_play s₀ (suc k) {s} n a =
    let t : State = forward (instructions k) s in
    on (forths_play s₀ k n a.0) (record { leads = refl; keeps = λ h e. go (step instruction t) h e a.1 })
  where
    go : (r : Reply) (h : Past) → length h.steps ≡ n + k → Accepted r → length (tally s₀ (forth instruction) (forward (instructions k) s) r h).steps ≡ n + suc k
    go (done u) h e b = omega arith
    go (refused b u) h e b₂ = absurd b₂

ends_play : {n : ℕ} (s₀ : State) {s : State} {r : Report} (m : ℕ) → Ends n s r → Plays s₀ s m (run_ops r.answer.number r.steps) r.end (m + r.steps)
ends_play {n} s₀ m (full a) = on (forths_play s₀ n m a) (record { leads = refl; keeps = λ h e. e })
ends_play s₀ {s} m (cut {k} {a} {t} l h e) =
    let u : State = forward (instructions k) s in
    let f : Listed a = subst NamedReply e (named_step instruction u) in
    rw (ne_eqb a.number 0 (λ z. omega (arith, never_done f.why, ap (λ (b : Answer). b.number) f.is)))
    (on (forths_play s₀ k m h) (record {
      leads = ap left (sym e);
      keeps = λ q z. ap (λ (r : Reply). length (tally s₀ (forth instruction) u r q).steps) e ∙ z;
    }))

run_plays : (n : ℕ) (s₀ : State) {s : State} {x : Returned numbers.Report} (c : Count) → Tells reported (run n) s x
    → Plays s₀ s c.steps (ops (ran x.result)) (reported x).end (counts (ran x.result) c).steps
run_plays n s₀ {s} {x} c e = go (fits s.mem) refl
  where
    go : (b : Bool) → fits s.mem ≡ b
        → Plays s₀ s c.steps (run_ops x.result.answer x.result.steps) (reported x).end (c.steps + x.result.steps)
    go true f = ends_play s₀ c.steps (run_ends n e f)
    go false f =
        subst (λ (r : Report). Plays s₀ s c.steps (run_ops r.answer.number r.steps) r.end (c.steps + r.steps)) (sym (run_unfit n e f))
        (record {
          leads = ap left (sym (step_unfit instruction s f));
          keeps = λ h z. ap (λ (q : Reply). length (tally s₀ (forth instruction) s q h).steps) (step_unfit instruction s f) ∙ (omega arith);
        })

-- ---- any sequence of them

one_off : (ws : List Way) → length (drop 1 ws) ≡ length ws - 1
one_off [] = refl
one_off (w ∷ ws) = omega arith

played : {s₀ s : State} {l : List Said} → Called s₀ l s → Plays s₀ s₀ 0 (all_ops l) s (count_of l).steps
played no_call = record { leads = refl; keeps = λ h e. e }
played {s₀} (then_step {l} {x = x} h e) =
    let c : Count = count_of l in
    on (played h) (call_plays s₀ (forth instruction) (no_more x.result c) (one_more x.result c) e refl (λ q z. ap suc z))
played {s₀} (then_tick {l} n {x} h e) =
    let c : Count = count_of l in
    on (played h) (call_plays s₀ (forth (tick n)) (no_more x.result c) (one_more x.result c) e refl (λ q z. ap suc z))
played {s₀} (then_back {l} {x = x} h e) =
    let c : Count = count_of l in
    on (played h) (call_plays s₀ aback (no_more x.result c) (one_less x.result c) e refl (λ q z. one_off q.steps ∙ ap (λ (n : ℕ). n - 1) z))
played {s₀} (then_run {l} n h e) = on (played h) (run_plays n s₀ (count_of l) e)

-- a step back more
pub back_past : {s₀ s : State} {l : List Said} (r : numbers.Reply) → Called s₀ l s → past_of s₀ (backed r ∷ l) ≡ tally s₀ aback s (step_back s) (past_of s₀ l)
back_past {s₀} {s} {l} r h =
    history_on s₀ (all_ops l) (aback ∷ []) s₀ (past [] 0) ∙ ap (λ (x : State). tally s₀ aback x (step_back x) (past_of s₀ l)) (sym (played h).leads)

-- ---- the journal words in use

-- of all steps: one for each, and one for each store
length_all : (ws : List Way) (s : State) → length (records (length ws) ws s) ≡ length ws + total ws s
length_all [] s = refl
length_all (w ∷ ws) s =
    let t : State = forward ws s in
    omega (arith, length-append (records (length ws) ws s) (record_of w t), length_all ws s, length-map (step_stores w t) word_of)

-- they are those that the last call told of, and where none is dropped one for each step and store that is counted
record Words (s₀ : State) (c : Count) (s : State) : Type 0 where
  told : c.used ≡ s.mem.used
  each : s₀.mem.ring ≡ false → c.used ≡ c.steps + c.stores

by_answer : (a : ℕ) {s₀ : State} {c d : Count} {t : State} → (a ≡ 0 → Words s₀ d t) → ((a ≡ 0 → ⊥) → Words s₀ c t) → Words s₀ (pick (eqb a 0) d c) t
by_answer zero h k = h refl
by_answer (suc a) h k =
    let ne : suc a ≡ 0 → ⊥ = λ z. omega arith in
    rw (ne_eqb (suc a) 0 ne) (k ne)

step_words : (v : Way) {s₀ : State} {c : Count} {s : State} {x : Returned numbers.Reply} → s.mem.ring ≡ s₀.mem.ring → Words s₀ c s → Tells told (stepping v) s x
    → Words s₀ (counts (stepped x.result) c) (leaves x)
step_words v {s₀} {c} {s} {x} m w e =
    by_answer x.result.answer
    (λ q. record { told = refl; each = λ r. omega (arith, w.told, w.each r, (demand2 v e q).used, drops_plain (m ∙ r) (demand2 v e q).drops) })
    (λ h. record { told = refl; each = λ r. omega (arith, w.told, w.each r, (demand1 v e h).0.used, drops_plain (m ∙ r) (demand1 v e h).0.drops) })

-- a run of steps drops none in the plain mode
ends_words : {n : ℕ} {s : State} {r : Report} → Good s → s.mem.ring ≡ false → Ends n s r → r.end.mem.used ≡ s.mem.used + r.steps + r.stores
ends_words {n} {s} g p (full a) = omega (arith, history-of.used_run s g p (instructions n) a, length-replicate n instruction)
ends_words {n} {s} g p (cut {k} {a} {t} l h e) =
    let ws : List Way = instructions k in
    let d : Demand1 instruction (forward ws s) a t = replies-of.demand1 instruction (forward ws s) a t e in
    omega (arith, d.used, drops_plain (history-of.ring_forward s g ws h ∙ p) d.drops, history-of.used_run s g p ws h, length-replicate k instruction)

run_words : (n : ℕ) {s₀ : State} {c : Count} {s : State} {x : Returned numbers.Report} → Good s → s.mem.ring ≡ s₀.mem.ring → Words s₀ c s → Tells reported (run n) s x
    → Words s₀ (counts (ran x.result) c) (reported x).end
run_words n {s₀} {c} {s} {x} g m w e = go (fits s.mem) refl
  where
    go : (b : Bool) → fits s.mem ≡ b → Words s₀ (counts (ran x.result) c) (reported x).end
    go true f = record { told = refl; each = λ r. omega (arith, w.told, w.each r, ends_words g (m ∙ r) (run_ends n e f)) }
    go false f =
        let q = run_unfit n e f in
        record {
          told = refl;
          each = λ r. omega (
            arith,
            w.told,
            w.each r,
            ap (λ (y : Report). y.steps) q,
            ap (λ (y : Report). y.stores) q,
            ap (λ (y : Report). y.end.mem.used) q,
          );
        }

-- what is accepted has answered 0, and what has is
accepted_0 : {f : State → Outcome} {s : State} {x : Returned numbers.Reply} → Tells told f s x → Accepted (f s).reply → x.result.answer ≡ 0
accepted_0 {x = x} e h = go x.result.answer refl
  where
    go : (a : ℕ) → x.result.answer ≡ a → a ≡ 0
    go zero q = refl
    go (suc a) q = absurd (subst Accepted (refuses e (λ z. omega (arith, q, z))) h)

-- with no step kept a step back is refused: 12, or 11 where test 11 fails
pub refuses_back : {s₀ : State} {h : Past} {s : State} → Demand3 s₀ h s → h.kept ≡ 0 → Refused (step_back s)
unfolding step_back
refuses_back {s = s} d q = go (fits s.mem) refl
  where
    go : (c : Bool) → fits s.mem ≡ c → Refused (step_back s)
    go true f = subst Refused (sym (d.none_left q f)) tt
    go false f = rw f tt

module _ {s₀ : State} (g : Good s₀) (z : s₀.mem.used ≡ 0) where
  -- of the steps that the rules keep
  pub demand3_kept : {s : State} {l : List Said} → Called s₀ l s → Demand3 s₀ (past_of s₀ l) s
  demand3_kept {l = l} h = rw (played h).leads (history-of.demand3 s₀ g z (all_ops l))

  counts_steps : {s : State} {l : List Said} → Called s₀ l s → length (past_of s₀ l).steps ≡ (count_of l).steps
  counts_steps h = (played h).keeps (past [] 0) refl

  good_there : {s : State} {h : Past} → Demand3 s₀ h s → Good s
  good_there {s} {h} d =
      let f : Good (forward h.steps s₀) = history-of.good_forward s₀ g h.steps d.accepted in
      record { address = rw d.address f.address; bytes = (λ k i. rw (d.memories k) (f.bytes.0 k i), rw d.groups g.bytes.1) }

  -- in the plain mode
  all_used : {s : State} {l : List Said} → Called s₀ l s → s₀.mem.ring ≡ false → s.mem.used ≡ (count_of l).steps + total (past_of s₀ l).steps s₀
  all_used {s} {l} h r =
      let ws : List Way = (past_of s₀ l).steps in
      let d : Demand3 s₀ (past_of s₀ l) s = demand3_kept h in
      let k : s.mem.used ≡ length (records (length ws) ws s₀) = d.used ∙ ap (λ (k : ℕ). length (records k ws s₀)) (d.all r) in
      omega (arith, k, length_all ws s₀, counts_steps h)

  -- the steps that are left after one was taken back
  less_past : {s : State} {l : List Said} {x : Returned numbers.Reply} → Called s₀ l s → Tells told backing s x → x.result.answer ≡ 0
      → (past_of s₀ (backed x.result ∷ l)).steps ≡ drop 1 (past_of s₀ l).steps
  less_past {s} {l} {x} h e a =
      ap (λ (p : Past). p.steps) (back_past x.result h) ∙ ap (λ (r : Reply). (tally s₀ aback s r (past_of s₀ l)).steps) (accepts e a)

  back_words : {s : State} {l : List Said} {x : Returned numbers.Reply} → Words s₀ (count_of l) s → (h : Called s₀ l s) → Tells told backing s x
      → Words s₀ (counts (backed x.result) (count_of l)) (leaves x)
  back_words {s} {l} {x} w h e =
      by_answer x.result.answer (λ q. record { told = refl; each = λ r. one (past_of s₀ l).steps refl q r })
      (λ q. record { told = refl; each = λ r. omega (arith, w.told, w.each r, ap (λ (t : State). t.mem.used) (step_back_refused e q).1) })
    where
      one : (ws : List Way) → (past_of s₀ l).steps ≡ ws → x.result.answer ≡ 0 → s₀.mem.ring ≡ false
          → x.result.at.used ≡ (count_of l).steps - 1 + ((count_of l).stores - ((count_of l).used - x.result.at.used - 1))
      one [] q a r =
          let d : Demand3 s₀ (past_of s₀ l) s = demand3_kept h in
          absurd (subst Refused (accepts e a) (refuses_back d (d.all r ∙ ap length q)))
      one (v ∷ ws) q a r =
          let many : suc (length ws) ≡ (count_of l).steps = sym (ap length q) ∙ counts_steps h in
          let before : s.mem.used ≡ (count_of l).steps + total (v ∷ ws) s₀ = subst (λ (k : List Way). s.mem.used ≡ (count_of l).steps + total k s₀) q (all_used h r) in
          let less : (count_of (backed x.result ∷ l)).steps ≡ length ws = rw a (omega (arith, many)) in
          let left_over : (past_of s₀ (backed x.result ∷ l)).steps ≡ ws = less_past h e a ∙ ap (drop 1) q in
          let after : x.result.at.used ≡ length ws + total ws s₀ =
          subst (λ (k : ℕ). x.result.at.used ≡ k + total ws s₀) less
          (subst (λ (k : List Way). x.result.at.used ≡ (count_of (backed x.result ∷ l)).steps + total k s₀) left_over (all_used (then_back h e) r)) in
          omega (arith, w.told, w.each r, before, after, many)

  words : {s : State} {l : List Said} → Called s₀ l s → Words s₀ (count_of l) s
  words no_call = record { told = sym z; each = λ r. refl }
  words (then_step h e) = step_words instruction (demand3_kept h).mode (words h) e
  words (then_tick n h e) = step_words (tick n) (demand3_kept h).mode (words h) e
  words (then_back h e) = back_words (words h) h e
  words (then_run n h e) = run_words n (good_there (demand3_kept h)) (demand3_kept h).mode (words h) e

  -- Demand 3. From any state with an empty journal, after any sequence of calls of `step`, `tick`, `step_back` and `run`, refused ones among them.
  pub demand3 : {s : State} {l : List Said} → Called s₀ l s → Keeps s₀ (past_of s₀ l) (count_of l) s
  demand3 {s} {l} h =
      let d : Demand3 s₀ (past_of s₀ l) s = demand3_kept h in
      let w : Words s₀ (count_of l) s = words h in
      record {
        steps = d;
        counted = counts_steps h;
        used = sym w.told;
        words = w.each;
        stores = λ r. omega (arith, all_used h r, w.told, w.each r);
        some_left = λ {x} e n. accepted_0 e (d.some_left n);
        none_left = λ {x} e n. (step_back_refused e (λ a. subst Refused (accepts e a) (refuses_back d n))).0;
      }
