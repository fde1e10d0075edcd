use Rattle.std.proofs.Common.{◌≡◌, ◌+◌, ◌++◌, length}
use mathlib.Core.List.{IsPrefix}
use Rattle.nvme_lane.specs.View.{SameGet}
use Rattle.nvme_lane.specs.Drainer.{items_of, get_of}
use Rattle.nvme_front.proofs.settlement.take_all.Given as goal

abbrev pub invariant-loop : goal.invariant-loop
invariant-loop l = record {
  ring : SameGet (get_of l.fn.drainer) (get_of l.drainer);
  grew : IsPrefix (items_of l.fn.drainer) (items_of l.drainer);
  next : items_of l.drainer ++ (get_of l.drainer).known ≡ items_of l.fn.drainer ++ (get_of l.fn.drainer).known;
  left : l.counter + length (get_of l.drainer).known ≡ l.rests;
}
