use Rattle.std.proofs.Common.{◌≡◌, ◌++◌, drop}
use Rattle.toml.specs.View.{items_view}
use Rattle.nvme_short_form.specs.Flaws.{each_from, entry_flaws}
use Rattle.nvme_short_form.proofs.item_flaws.push_entries.Given as goal

abbrev pub invariant-loop-index : goal.invariant-loop-index
invariant-loop-index l = l.flaws.items ++ each_from (entry_flaws l.queue) l.index (items_view (drop l.index l.entries)) ≡ l.fn.flaws.items ++ each_from (entry_flaws l.queue) 0 (items_view l.entries)
