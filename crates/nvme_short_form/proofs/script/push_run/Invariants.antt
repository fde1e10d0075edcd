use Rattle.std.proofs.Common.{◌≡◌, ◌++◌, map}
use Rattle.std.specs.List.{range_with_len}
use Rattle.nvme_short_form.specs.Commands.{item_at}
use Rattle.nvme_short_form.proofs.script.push_run.Given as goal

abbrev pub invariant-loop-index : goal.invariant-loop-index
invariant-loop-index l = record {
  items : l.script.items ≡ l.fn.script.items ++ map (item_at l.run) (range_with_len 0 l.index);
}
