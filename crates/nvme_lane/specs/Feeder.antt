-- What a contract sees of a feeder (profile).
use Rattle.std.specs.Prelude.{ℕ, List}
use Rattle.nvme_lane.specs.View.{PutView}
use Rattle.nvme_lane.specs.declared.feeder.Feeder.{Feeder}

module _ {T : Type 0} where
  -- the items that it sends, in order
  abbrev pub script_of : Feeder T → List T
  script_of f = f.script.items

  -- how many of them it has sent
  abbrev pub count_of : Feeder T → ℕ
  count_of f = f.count

  -- the end that it puts into
  abbrev pub put_of : Feeder T → PutView T
  put_of f = f.end
