use Rattle.std.proofs.Common.{◌≡◌, drop}
use Rattle.toml.specs.View.{items_view}
use Rattle.nvme_model_form.specs.Readings.{in_turn}
use Rattle.nvme_model_form.specs.Services.{with_time}
use Rattle.nvme_model_form.proofs.spread.push_quantiles.Given as goal

abbrev pub invariant-loop-index : goal.invariant-loop-index
invariant-loop-index l = record {
  turns : in_turn with_time l.index l.times.items (items_view (drop l.index l.items)) ≡ in_turn with_time 0 l.fn.times.items (items_view l.items);
}
