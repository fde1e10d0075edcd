-- What a controller counts after a post (profile).
use Rattle.std.specs.Prelude.{◌-◌, ◌==◌, if◌then◌else◌, slice_set}
use Rattle.nvme_slots.specs.declared.slot.Slot.{Slot}
use Rattle.nvme_ctrl.specs.declared.state.Controller.{Controller}
use Rattle.nvme_ctrl.specs.kept.State.{sq_at}

-- the queue of a command has one less with no post, and one less is outstanding, unless it was aborted with its queue
abbrev pub counted_post : Controller → Slot → Controller
counted_post c command = record c {
  sqs = slice_set c.sqs command.sqid (record (sq_at c.sqs command.sqid) { unposted = (sq_at c.sqs command.sqid).unposted - 1 });
  outstanding = if command.state == 5 then c.outstanding else c.outstanding - 1;
}
