-- Out of reach the memory's own refusal; 24 in a group that is not writable; 10 with no journal word left and none to be dropped; else the word is laid
-- and the byte stored.
use Rattle.std.proofs.Common.{◌≡◌, refl, ap, sym, ◌∙◌, arith}
use Rattle.std.proofs.lemmas.Grind.{common_steps}
use Rattle.rules.specs.Machine.{extent, area_of}
use Rattle.machine.specs.Meaning.{kind_of, extent_of, rest_of, Kept, kept, state}
use Rattle.machine.proofs.Acts.{poke_far, poke_barred, put_is, storing}
use Rattle.machine.proofs.state.Machine.store_into.Goals as goal

pub returns-then-reach-at : goal.returns-then-reach-at
unfolding rest_of
returns-then-reach-at c = (rw c.outside.ensures (poke_far c.args.k _ _ _ (omega (arith, c.reach.ensures, c.if-reach-at.true))), refl)

pub returns-then-not-may_store : goal.returns-then-not-may_store
unfolding rest_of
returns-then-not-may_store c =
    (poke_barred c.args.k _ _ _ (omega (arith, c.reach.ensures, c.if-reach-at.false)) (sym c.may_store.ensures ∙ c.if-not-may_store.true), refl)

pub returns-in_err-lay : goal.returns-in_err-lay
unfolding rest_of
returns-in_err-lay c =
    let made = put_is c.args.k c.args.at c.args.b _ (state c.args.self.now) (omega (arith, c.reach.ensures, c.if-reach-at.false))
    (sym c.may_store.ensures ∙ c.if-not-may_store.false) c.ranges.b.fits (c.pack.ensures ∙ rw (c.number.ensures, c.byte-old.ensures) refl) in
    grind (arith, common_steps, storing, made)

pub put-requires : goal.put-requires
unfolding kept
put-requires c =
    let same : extent_of c.args.k c.lay.new.self ≡ extent_of c.args.k c.args.self.now =
    ap (λ (x : Kept). extent (area_of x.bytes x.groups) (kind_of c.args.k)) c.lay.ensures.1 in
    omega (arith, same, c.reach.ensures, c.if-reach-at.false)

pub returns : goal.returns
unfolding rest_of
returns c =
    let made = put_is c.args.k c.args.at c.args.b _ (state c.args.self.now) (omega (arith, c.reach.ensures, c.if-reach-at.false))
    (sym c.may_store.ensures ∙ c.if-not-may_store.false) c.ranges.b.fits (c.pack.ensures ∙ rw (c.number.ensures, c.byte-old.ensures) refl) in
    grind (arith, common_steps, storing, made)
