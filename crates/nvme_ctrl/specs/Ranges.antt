-- What is looked at of a controller and its slots as they lie in memory, to find what was written into them by mistake (profile).
use Rattle.std.specs.Prelude.{ℕ, zero, suc, ◌==◌, ◌&&◌, ◌||◌, nat_lt, nat_le, Bool, true, if◌then◌else◌, List, length}
use Rattle.std.specs.List.{list_all}
use Rattle.nvme_arbiter.specs.Layout.{is_arbiter}
use Rattle.nvme_admin.specs.declared.bounds.TheConstants.{MAX_REGIONS}
use Rattle.nvme_slots.specs.declared.ring.Ring.{Ring}
use Rattle.nvme_slots.specs.declared.chain.Chain.{Chain}
use Rattle.nvme_slots.specs.declared.slot.Slot.{Slot}
use Rattle.nvme_ctrl.specs.declared.state.SqState.{SqState}
use Rattle.nvme_ctrl.specs.declared.state.CqState.{CqState}
use Rattle.nvme_ctrl.specs.declared.state.Controller.{Controller}
use Rattle.nvme_slots.specs.Pool.{slot_at, next_at}
use Rattle.nvme_ctrl.specs.kept.State.{sq_at}

-- ---- slots
-- the state of a slot is within these two. One with a command has a queue, and one whose command ended a status code type of three bits
abbrev pub is_used_as : (lowest highest : ℕ) → Slot → Bool
is_used_as lowest highest s =
    nat_le lowest s.state && (nat_le s.state highest && ((s.state == 0 || nat_lt s.sqid MAX_REGIONS) && (nat_lt s.state 3 || nat_lt s.sct 8)))

-- so it is with the slot of a number, which is one of the pool
abbrev pub is_item : (lowest highest : ℕ) → List Slot → ℕ → Bool
is_item lowest highest slots x = nat_lt x (length slots) && is_used_as lowest highest (slot_at slots x)

-- the command that the device has is of a queue
abbrev pub is_placed : Slot → Bool
is_placed s = if s.state == 2 then nat_lt s.sqid MAX_REGIONS else true

-- ---- chains
-- a slot can be the next one of a chain, with so many behind it
abbrev pub is_link : (lowest highest : ℕ) → List Slot → (last x behind : ℕ) → Bool
is_link lowest highest slots last x behind = is_item lowest highest slots x && (nat_lt 0 behind || (x == last))

-- so many slots are linked from one on, each used so, and the last of them is this
abbrev pub are_linked : (lowest highest : ℕ) → List Slot → (last x n : ℕ) → Bool
are_linked lowest highest slots last x zero = true
are_linked lowest highest slots last x (suc n) = is_link lowest highest slots last x n && are_linked lowest highest slots last (next_at slots x) n

-- a chain has no more slots than its pool, and is as long as it says
abbrev pub is_chain : (lowest highest : ℕ) → List Slot → Chain → Bool
is_chain lowest highest slots c = nat_le c.len (length slots) && are_linked lowest highest slots c.last c.first c.len

-- ---- queues
-- the head and the tail are slots of the ring, where it has any
abbrev pub is_ring : Ring → Bool
is_ring r = if r.slots == 0 then true else nat_lt r.head r.slots && nat_lt r.tail r.slots

-- the completions of a queue that has a ring go to a queue
abbrev pub is_attached : SqState → Bool
is_attached s = if s.ring.slots == 0 then true else nat_lt s.cqid MAX_REGIONS

-- the slot of the Delete of a queue that is closing is one of the pool, and its command is a Delete
abbrev pub is_deletion : List Slot → SqState → Bool
is_deletion slots s = if s.closing == 0 then true else nat_lt s.tag (length slots) && ((slot_at slots s.tag).state == 6)

-- the commands of a submission queue wait, and those of a completion queue ended
abbrev pub is_sq : List Slot → SqState → Bool
is_sq slots s = is_ring s.ring && (is_attached s && (is_deletion slots s && is_chain 1 1 slots s.window))

abbrev pub is_cq : List Slot → CqState → Bool
is_cq slots s = is_ring s.ring && is_chain 3 5 slots s.ready

-- ---- a controller
-- no more commands are outstanding than there are slots, nor more of a queue picked than are in its window
abbrev pub has_counts : Controller → List Slot → Bool
has_counts c slots = nat_le c.outstanding (length slots) && nat_le c.picked (sq_at c.sqs c.picked_qid).window.len

-- its own numbers
abbrev pub has_numbers : Controller → List Slot → Bool
has_numbers c slots = is_arbiter c.board.arbiter && (has_counts c slots && is_chain 0 0 slots c.free)

-- those of its queues
abbrev pub has_queues : Controller → List Slot → Bool
has_queues c slots = list_all (is_sq slots) c.sqs && list_all (is_cq slots) c.cqs

-- all of it
abbrev pub is_in_range : Controller → List Slot → Bool
is_in_range c slots = has_numbers c slots && (has_queues c slots && list_all is_placed slots)
