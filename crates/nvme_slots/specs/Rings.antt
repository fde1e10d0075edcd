-- A ring of slots, where the slots that are read and written next are those of two counts, which go on for ever.
-- (Base Specification, Submission Queue and Completion Queue, Empty Queue, Full Queue)
use Rattle.std.specs.Prelude.{◌≡◌, ℕ, ◌+◌, ◌<◌, ◌≤◌, ◌%◌, nat_lt, if◌then◌else◌}
use Rattle.nvme_slots.specs.declared.ring.Ring.{Ring}

-- the slot after one
abbrev pub next_slot : (slots slot : ℕ) → ℕ
next_slot slots slot = if nat_lt (slot + 1) slots then slot + 1 else 0

-- a ring of which nothing was read or written
abbrev pub first_ring : ℕ → Ring
first_ring slots = record { slots = slots; head = 0; tail = 0 }

-- so many entries were read, and so many written: a full ring has one slot free
pub record HasCounts (ring : Ring) (read written : ℕ) : Type 0 where
  pub some : 0 < ring.slots
  pub head_is : ring.head ≡ read % ring.slots
  pub tail_is : ring.tail ≡ written % ring.slots
  pub order : read ≤ written
  pub fits : written < read + ring.slots
