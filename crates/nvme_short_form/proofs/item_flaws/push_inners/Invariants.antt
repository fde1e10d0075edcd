use Rattle.std.proofs.Common.{◌≡◌, ◌++◌, drop}
use Rattle.toml.specs.View.{items_view}
use Rattle.nvme_short_form.specs.Flaws.{each_from, inner_flaws}
use Rattle.nvme_short_form.proofs.item_flaws.push_inners.Given as goal

abbrev pub invariant-loop-index : goal.invariant-loop-index
invariant-loop-index l = l.flaws.items ++ each_from (inner_flaws l.place) l.index (items_view (drop l.index l.items)) ≡ l.fn.flaws.items ++ each_from (inner_flaws l.place) 0 (items_view l.items)
