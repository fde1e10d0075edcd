use Rattle.std.proofs.Common.{◌≡◌, [], length, drop}
use Rattle.toml.specs.View.{items_view}
use Rattle.nvme_workload.specs.Readings.{in_turn}
use Rattle.nvme_workload.specs.Plan.{with_size}
use Rattle.nvme_workload.specs.Sound.{AreSizes}
use Rattle.nvme_workload.proofs.file.spaces_of.Given as goal

abbrev pub invariant-loop-item : goal.invariant-loop-item
invariant-loop-item l = record {
  sound : AreSizes l.sizes.items;
  count : length l.sizes.items ≡ l.item-index;
  turns : in_turn (λ index. with_size) l.item-index l.sizes.items (items_view (drop l.item-index l.item-items)) ≡ in_turn (λ index. with_size) 0 [] (items_view l.item-items);
}
