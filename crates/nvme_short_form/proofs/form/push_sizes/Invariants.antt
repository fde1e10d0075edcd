use Rattle.std.proofs.Common.{◌≡◌, drop}
use Rattle.toml.specs.View.{items_view}
use Rattle.nvme_short_form.specs.Readings.{in_turn}
use Rattle.nvme_short_form.specs.Form.{with_size}
use Rattle.nvme_short_form.proofs.form.push_sizes.Given as goal

abbrev pub invariant-loop-index : goal.invariant-loop-index
invariant-loop-index l = record {
  turns : in_turn with_size l.index l.sizes.items (items_view (drop l.index l.items)) ≡ in_turn with_size 0 l.fn.sizes.items (items_view l.items);
}
