use Rattle.std.proofs.Common.{◌≡◌, ◌≤◌, [], length, drop}
use Rattle.toml.specs.View.{items_view}
use Rattle.nvme_workload.specs.Readings.{in_turn}
use Rattle.nvme_workload.specs.Scripts.{most_commands}
use Rattle.nvme_workload.specs.Regions.{command_count, with_submission}
use Rattle.nvme_workload.specs.Sound.{AreSubmissions}
use Rattle.nvme_workload.proofs.regions.submissions_of.Given as goal

abbrev pub invariant-loop-item : goal.invariant-loop-item
invariant-loop-item l = record {
  sound : AreSubmissions l.regions.items;
  count : length l.regions.items ≡ l.item-index;
  all : l.commands ≡ command_count l.regions.items;
  fit : l.commands ≤ most_commands;
  turns : in_turn (λ index. with_submission) l.item-index l.regions.items (items_view (drop l.item-index l.item-items)) ≡ in_turn (λ index. with_submission) 0 [] (items_view l.item-items);
}
