use Rattle.std.proofs.Common.{◌≡◌, ◌++◌, drop, map}
use Rattle.toml.specs.View.{view}
use Rattle.nvme_short.specs.Documents.{item_data}
use Rattle.nvme_short.proofs.document.script_value.Given as goal

abbrev pub invariant-loop-item : goal.invariant-loop-item
invariant-loop-item l = map view l.values.items ++ map item_data (drop l.item-index l.items) ≡ map item_data l.items
