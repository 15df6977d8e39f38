-- What a reply tells: the rules' answer, the state that it leaves, and its stores; and that nothing else could have told the same.
use Rattle.std.proofs.Common.{◌≡◌, refl, ◌∙◌, ap, ap₂, sym, ℕ, zero, suc, arith, ne_eqb, List}
use Rattle.rules.specs.Machine.{Mem, State}
use Rattle.rules.specs.Answers.{saying}
use Rattle.rules.specs.Calls.{done, refused, answer, left}
use Rattle.ring.proofs.Turned.{unturned, turned_back}
use Rattle.bench.specs.declared.at.At.{At}
use Rattle.bench.specs.Numbers as numbers
use Rattle.bench.specs.Meaning.{Returned, returned, Outcome, replies, leaves, told, Tells}

said_answer : (a d : ℕ) (s : State) → (answer (replies (saying a d) s)).number ≡ a
unfolding replies
said_answer zero d s = refl
said_answer (suc a) d s = rw (ne_eqb (suc a) 0 (λ e. omega arith))

said_state : (a d : ℕ) (s : State) → left (replies (saying a d) s) ≡ s
unfolding replies
said_state zero d s = refl
said_state (suc a) d s = rw (ne_eqb (suc a) 0 (λ e. omega arith))

module _ {f : State → Outcome} {s : State} {x : Returned numbers.Reply} (e : Tells told f s x) where
  pub says : (f s).reply ≡ replies (saying x.result.answer x.result.address) (leaves x)
  says = sym (ap (λ (o : Outcome). o.reply) e.is)

  pub accepts : x.result.answer ≡ 0 → (f s).reply ≡ done (leaves x)
  unfolding replies
  accepts z = says ∙ rw z

  pub refuses : (x.result.answer ≡ 0 → ⊥) → (f s).reply ≡ refused (saying x.result.answer x.result.address) (leaves x)
  unfolding replies
  refuses h = says ∙ rw (ne_eqb x.result.answer 0 h)

  pub leads : leaves x ≡ left (f s).reply
  leads = sym (ap left says ∙ said_state x.result.answer x.result.address (leaves x))

  -- also of a call that was done
  pub addresses : x.result.address ≡ (f s).address
  addresses = ap (λ (o : Outcome). o.address) e.is

  pub counts : x.result.stores ≡ (f s).stores
  counts = ap (λ (o : Outcome). o.stores) e.is

-- what is returned can be read off what it tells
abbrev pub at_of : State → At
at_of s = record { pc = s.pc; used = s.mem.used; ring = s.mem.ring; place = s.mem.place; writable = s.mem.groups; source = s.source }

abbrev pub returned_of : {A : Type 0} → Mem → A → Returned A
returned_of m r = returned m.image m.pad m.vram m.regs (unturned m.ring m.place m.journal) r

made_of : ℕ → State → ℕ → ℕ → Returned numbers.Reply
made_of a s d n = returned_of s.mem (record { answer = a; address = d; stores = n; at = at_of s })

read : Outcome → Returned numbers.Reply
read o = made_of (answer o.reply).number (left o.reply) o.address o.stores

read_told : (x : Returned numbers.Reply) → read (told x) ≡ x
unfolding read made_of
read_told x =
    let a : ℕ = x.result.answer in
    let d : ℕ = x.result.address in
    ap₂ (λ (b : ℕ) (s : State). made_of b s d x.result.stores) (said_answer a d (leaves x)) (said_state a d (leaves x))
    ∙ ap (λ (j : List ℕ). returned x.image x.pad x.vram x.regs j x.result) (turned_back x.result.at.ring x.result.at.place x.journal)

pub same_told : {x y : Returned numbers.Reply} → told x ≡ told y → x ≡ y
same_told {x} {y} e = sym (read_told x) ∙ ap read e ∙ read_told y
