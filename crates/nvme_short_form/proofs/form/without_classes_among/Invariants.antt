use Rattle.std.proofs.Common.{◌≡◌, drop}
use Rattle.toml.specs.View.{items_view}
use Rattle.nvme_short_form.specs.Readings.{in_turn}
use Rattle.nvme_short_form.specs.Form.{without_class}
use Rattle.nvme_short_form.proofs.form.without_classes_among.Given as goal

abbrev pub invariant-loop-index : goal.invariant-loop-index
invariant-loop-index l = record {
  turns : in_turn without_class l.index tt (items_view (drop l.index l.queues)) ≡ in_turn without_class 0 tt (items_view l.queues);
}
