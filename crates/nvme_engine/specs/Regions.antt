-- Table histories that only add regions (profile).
use Rattle.std.specs.Prelude.{Bool, true, false}
use Rattle.std.specs.List.{list_all}
use Rattle.nvme_admin.specs.History.{TableHistory, TableStep, RegionAdded, EntryApplied, DeletionFinished, PlacedAnywhere}

-- a step adds a region
abbrev pub is_addition : TableStep → Bool
is_addition (RegionAdded kind address slots) = true
is_addition (EntryApplied entry) = false
is_addition (DeletionFinished qid) = false
is_addition (PlacedAnywhere p) = false

-- only regions were added
abbrev pub only_adds : TableHistory → Bool
only_adds h = list_all is_addition h
