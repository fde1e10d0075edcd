use Rattle.std.proofs.Common.{◌≡◌, [], length, drop}
use Rattle.toml.specs.View.{items_view}
use Rattle.nvme_workload.specs.Readings.{in_turn}
use Rattle.nvme_workload.specs.Regions.{with_completion}
use Rattle.nvme_workload.specs.Sound.{AreCompletions}
use Rattle.nvme_workload.proofs.regions.completions_of.Given as goal

abbrev pub invariant-loop-item : goal.invariant-loop-item
invariant-loop-item l = record {
  sound : AreCompletions l.submissions l.regions.items;
  count : length l.regions.items ≡ l.item-index;
  turns : in_turn (λ index. with_completion l.submissions) l.item-index l.regions.items (items_view (drop l.item-index l.item-items)) ≡ in_turn (λ index. with_completion l.submissions) 0 [] (items_view l.item-items);
}
