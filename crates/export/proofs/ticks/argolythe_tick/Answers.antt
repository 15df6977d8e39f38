-- The tick of `bench`, told in numbers as a step, with what it did to the output.
use Rattle.std.proofs.Common.{refl}
use Rattle.bench.proofs.Heard.{as_step}
use Rattle.bench.specs.Numbers.{Reply, of_ticked}
use Rattle.export.proofs.Chosen.{of_step}
use Rattle.export.proofs.Numbers.{flag_told, heard_reply, heard_tick}
use Rattle.export.proofs.ticks.argolythe_tick.Goals as goal

pub returns : goal.returns
returns c = (
  flag_told c.tick-r.result.at.source c.tell.ensures,
  λ _.
      let step = as_step _ (c.tick-r.ensures _) in
      let t = of_ticked c.tick-r.result in
      let r : Reply = record { answer = t.answer; address = t.address; stores = t.stores; at = t.at } in
      heard_tick _ _ _ refl (heard_reply _ r c.number-answer.ensures c.address.ensures (of_step _ step) c.tell.ensures c.steps_of-steps.ensures step) (c.tick-r.ensures _),
)
