-- Those so far are posted, and the others stay.
use Rattle.std.proofs.Common.{◌≡◌, take, drop}
use Rattle.nvme_ctrl.specs.Standing.{IsController}
use Rattle.nvme_ctrl.specs.Own.{own_of}
use Rattle.nvme_slots.specs.Generations.{SameGenerations}
use Rattle.nvme_ctrl.specs.Calls.{depths_of}
use Rattle.nvme_capi.specs.Batches.{Each, PostsOne, with_slots}
use Rattle.nvme_capi.proofs.ctrl.batches.post_all.Given as goal

abbrev pub invariant-loop-k : goal.invariant-loop-k
invariant-loop-k l = record {
  front : IsController l.fn.ctrl l.fn.slots → IsController l.ctrl l.slots;
  depths : depths_of l.ctrl ≡ depths_of l.fn.ctrl;
  own : own_of l.ctrl ≡ own_of l.fn.ctrl;
  each : Each (PostsOne l.cqid) (take l.k l.posts) (with_slots l.fn.ctrl l.fn.slots) (with_slots l.ctrl l.slots);
  generations : SameGenerations l.fn.slots l.slots;
  rest : drop l.k l.posts ≡ drop l.k l.fn.posts;
}
