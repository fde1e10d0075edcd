-- Which slots have commands that the device looks up (profile).
use Rattle.std.specs.Prelude.{ℕ, ◌==◌, ◌&&◌, Bool}
use Rattle.nvme_slots.specs.declared.slot.Slot.{Slot}

-- a slot has a command that the device has, with a command identifier, of the submission queue of an identifier
abbrev pub is_found : Slot → (qid cid : ℕ) → Bool
is_found slot qid cid = slot.state == 2 && (slot.sqid == qid && slot.entry.cid == cid)
