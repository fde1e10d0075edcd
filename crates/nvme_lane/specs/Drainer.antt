-- What a contract sees of a drainer (profile).
use Rattle.std.specs.Prelude.{List}
use Rattle.nvme_lane.specs.View.{GetView}
use Rattle.nvme_lane.specs.declared.drainer.Drainer.{Drainer}

module _ {T : Type 0} where
  -- the items that it took, in order
  abbrev pub items_of : Drainer T → List T
  items_of d = d.items.items

  -- the end that it gets from
  abbrev pub get_of : Drainer T → GetView T
  get_of d = d.end
