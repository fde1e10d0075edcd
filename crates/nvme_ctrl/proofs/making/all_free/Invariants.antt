-- The slots before the next one are free, and a chain.
use Rattle.std.proofs.Common.{◌≡◌, length}
use Rattle.nvme_slots.specs.Generations.{SameGenerations}
use Rattle.nvme_slots.proofs.Freeing.{IsFreed}
use Rattle.nvme_ctrl.proofs.making.all_free.Given as goal

abbrev pub invariant-loop-x : goal.invariant-loop-x
invariant-loop-x l = record {
  end : l.x-end ≡ length l.initial.slots;
  size : length l.slots ≡ length l.initial.slots;
  generations : SameGenerations l.initial.slots l.slots;
  freed : IsFreed l.slots l.free l.x;
}
