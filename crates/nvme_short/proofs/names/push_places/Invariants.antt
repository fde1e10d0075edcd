use Rattle.std.proofs.Common.{◌≡◌, ◌++◌, drop}
use Rattle.nvme_short.specs.Documents.{flat}
use Rattle.nvme_short.specs.Names.{places_of}
use Rattle.nvme_short.proofs.names.push_places.Given as goal

abbrev pub invariant-loop-item : goal.invariant-loop-item
invariant-loop-item l = l.places.items ++ flat (places_of l.place) (drop l.item-index l.items) ≡ l.fn.places.items ++ flat (places_of l.place) l.items
