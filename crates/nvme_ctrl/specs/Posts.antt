-- The command of a completion, and what is posted next. (Base Specification, Completion Queue Entry, Full Queue)
use Rattle.std.specs.Prelude.{◌≡◌, ℕ, ◌+◌, ◌%◌, ◌==◌, ◌||◌, nat_le, Bool, if◌then◌else◌, List, Option, Some, None}
use Rattle.nvme_entry.specs.declared.completion.Cqe.{Cqe}
use Rattle.nvme_ctrl_log.specs.Doorbells.{gap}
use Rattle.nvme_slots.specs.Pool.{slot_at, flags_in}
use Rattle.nvme_ctrl.specs.kept.State.{sq_at, cq_at}
use Rattle.nvme_ctrl.specs.kept.QueueSets.{has_queue}
use Rattle.nvme_ctrl_log.specs.declared.status_flags.StatusFlags.{StatusFlags}
use Rattle.nvme_ctrl.specs.declared.posts.Post.{Post}
use Rattle.nvme_slots.specs.declared.ring.Ring.{Ring}
use Rattle.nvme_slots.specs.declared.slot.Slot.{Slot}
use Rattle.nvme_ctrl.specs.declared.state.CqState.{CqState}
use Rattle.nvme_ctrl.specs.declared.state.Controller.{Controller}

-- a completion is that of the command in a slot, with what the caller kept with it, and its flags
pub record IsPostOf (command : Slot) (cqe : Cqe) (cookie : ℕ) (flags : StatusFlags) : Type 0 where
  pub cid : cqe.cid ≡ command.entry.cid
  pub dw0 : cqe.dw0 ≡ command.dw0
  pub cookie_is : cookie ≡ command.cookie
  pub flags_are : flags ≡ flags_in command

-- ---- what is posted next
-- the completion queue entry of a command (Completion Queue Entry)
abbrev pub completion_of : Controller → Slot → Bool → Cqe
completion_of c command phase = record {
  dw0 = command.dw0;
  sqhd = (sq_at c.sqs command.sqid).ring.head;
  sqid = command.sqid;
  cid = command.entry.cid;
  phase = phase;
  status = record { sct = command.sct % 8; sc = command.sc };
}

-- no slot of a ring is free to be written (Full Queue)
abbrev pub is_full : Ring → Bool
is_full ring = nat_le ring.slots (gap ring.slots ring.head ring.tail + 1)

-- the post of the command that became ready first in a completion queue
abbrev pub first_post : Controller → List Slot → CqState → Post
first_post c slots cq = record {
  slot = cq.ring.tail;
  cqe = completion_of c (slot_at slots cq.ready.first) (cq.phase == 1);
  tag = cq.ready.first;
  cookie = (slot_at slots cq.ready.first).cookie;
  flags = flags_in (slot_at slots cq.ready.first);
}

-- the next post to a completion queue in a state: none where its ring is full, and where no command is ready
abbrev pub post_in : Controller → List Slot → CqState → Option Post
post_in c slots cq = if is_full cq.ring || cq.ready.len == 0 then None else Some (first_post c slots cq)

-- the next post to the completion queue of an identifier: none where it isn't among those that may have ready completions
abbrev pub next_post_of : Controller → List Slot → (cqid : ℕ) → Option Post
next_post_of c slots cqid = if has_queue c.readied cqid then post_in c slots (cq_at c.cqs cqid) else None
