use Rattle.std.proofs.Common.{◌∙◌, ap, refl, arith, length, List}
use Rattle.nvme_slots.specs.declared.slot.Slot.{Slot}
use Rattle.nvme_slots.proofs.Freeing.{frees_one}
use Rattle.nvme_slots.proofs.Pools.{length-put_item}
use Rattle.nvme_slots.proofs.Generations.{left_both, put_left, items_left}
use Rattle.nvme_ctrl.proofs.making.all_free.Goals as goal

pub loop-x-preserved : goal.loop-x-preserved
loop-x-preserved c =
    let slots = c.loop-x.slots in
    let freed : Slot = record c.free.result { generation = c.slot_at-generation.result.generation } in
    record {
      end = refl;
      size = c.push.ensures.items.size ∙ ap (λ (p : List Slot). length p) c.put_item.ensures ∙ length-put_item slots c.loop-x.x freed ∙ c.loop-x.invariant.size;
      generations = left_both c.args.slots.now slots c.push.new.slots c.loop-x.invariant.generations (left_both slots c.put_item.new.slots c.push.new.slots
          (put_left slots c.put_item.new.slots c.loop-x.x _ c.put_item.ensures (ap (λ (s : Slot). s.generation) c.slot_at-generation.ensures))
          (items_left c.put_item.new.slots c.push.new.slots c.push.ensures.items));
      freed = frees_one slots c.put_item.new.slots c.push.new.slots c.loop-x.free c.push.new.self c.loop-x.x freed (ap (λ (s : Slot). s.state) c.free.ensures)
          (omega (arith, c.loop-x-test.true, c.loop-x.invariant.size)) (omega (arith, c.requires.few, c.loop-x.invariant.size)) c.put_item.ensures
          c.push.ensures.chain c.push.ensures.items c.loop-x.invariant.freed;
    }
