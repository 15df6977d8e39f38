-- By the kind, then by the address.
use Rattle.std.proofs.Common.{◌≡◌, eqb, refl, sym, ◌∙◌}
use Rattle.rules.specs.Machine.{◌also◌}
use Rattle.rules.specs.Journal.{kind_number}
use Rattle.machine.specs.declared.memory.Memory.{Memory}
use Rattle.machine.specs.declared.memory.Memory.TheVariants.{Cpu, Vdp, Register, Grom}
use Rattle.machine.specs.contracts.memory.Memory.{the_type}
use Rattle.machine.specs.Meaning.{kind_of}
use Rattle.culprit.specs.Culprit.{same_cell}
use Rattle.culprit.proofs.trail.is_it.Goals as goal
use denote.Enum.Bare.{sameb}

same_kind : (k l : Memory) → eqb (kind_number (kind_of k)) (kind_number (kind_of l)) ≡ sameb the_type k l
same_kind Cpu Cpu = refl
same_kind Cpu Vdp = refl
same_kind Cpu Register = refl
same_kind Cpu Grom = refl
same_kind Vdp Cpu = refl
same_kind Vdp Vdp = refl
same_kind Vdp Register = refl
same_kind Vdp Grom = refl
same_kind Register Cpu = refl
same_kind Register Vdp = refl
same_kind Register Register = refl
same_kind Register Grom = refl
same_kind Grom Cpu = refl
same_kind Grom Vdp = refl
same_kind Grom Register = refl
same_kind Grom Grom = refl

pub returns-then-eq : goal.returns-then-eq
unfolding same_cell ◌also◌
returns-then-eq c = rw (same_kind c.args.which c.args.kind ∙ sym c.eq.ensures ∙ c.if-eq.true)

pub returns-else-eq : goal.returns-else-eq
unfolding same_cell ◌also◌
returns-else-eq c = rw (same_kind c.args.which c.args.kind ∙ sym c.eq.ensures ∙ c.if-eq.false, c.if-eq.false)
