use Rattle.std.proofs.Common.{◌≡◌, ◌-◌, ◌++◌, length}
use Rattle.nvme_workload.specs.Scripts.{copies_of}
use Rattle.nvme_workload.specs.Sound.{IsNumbered}
use Rattle.nvme_workload.proofs.scripts.push_copies.Given as goal

abbrev pub invariant-loop-index : goal.invariant-loop-index
invariant-loop-index l = record {
  items : l.script.items ≡ l.fn.script.items ++ copies_of l.command (length l.fn.script.items) (l.index - length l.fn.script.items);
  count : length l.script.items ≡ l.index;
  numbered : IsNumbered l.fn.script.items → IsNumbered l.script.items;
}
