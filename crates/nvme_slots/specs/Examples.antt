-- Worked examples of slots (profile).
use Rattle.std.specs.Prelude.{List, [], ◌∷◌}
use Rattle.nvme_slots.specs.declared.slot.Slot.{Slot}
use Rattle.nvme_slots.specs.Pool.{no_slot}

-- ---- tags
-- a pool of one slot, whose command was taken three times
abbrev pub taken_thrice : List Slot
taken_thrice = record no_slot { generation = 3 } ∷ []
