-- Which rings are refused. (Base Specification, Queue Size; the most: profile)
use Rattle.std.specs.Prelude.{◌<◌, ◌⊎◌, ℕ}
use Rattle.nvme_model.specs.declared.queue.TheConstants.{MAX_SLOTS, MIN_SLOTS}
use Rattle.nvme_model.specs.declared.queue.SlotsFault.{SlotsFault}
use Rattle.nvme_model.specs.declared.queue.SlotsFault.TheVariants.{Slots}

abbrev pub TellsSlotsFault : ℕ → SlotsFault → Type 0
TellsSlotsFault slots Slots = (slots < MIN_SLOTS) ⊎ (MAX_SLOTS < slots)
