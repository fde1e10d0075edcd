-- Those so far are fetched.
use Rattle.std.proofs.Common.{◌≡◌, ◌≤◌, length, take}
use Rattle.std.specs.Prelude.{zip}
use Rattle.nvme_ctrl.specs.Standing.{IsController}
use Rattle.nvme_ctrl.specs.Own.{own_of}
use Rattle.nvme_slots.specs.Generations.{SameGenerations}
use Rattle.nvme_ctrl.specs.Calls.{depths_of}
use Rattle.nvme_capi.specs.Batches.{Each, FetchesOne, with_slots}
use Rattle.nvme_capi.proofs.ctrl.batches.fetch_all.Given as goal

abbrev pub invariant-loop-entry : goal.invariant-loop-entry
invariant-loop-entry l = record {
  done : l.done ≡ length l.yielded;
  few : l.done ≤ length (zip l.entries l.cookies);
  front : IsController l.fn.ctrl l.fn.slots → IsController l.ctrl l.slots;
  depths : depths_of l.ctrl ≡ depths_of l.fn.ctrl;
  own : own_of l.ctrl ≡ own_of l.fn.ctrl;
  each : Each (FetchesOne l.qid) (take l.done (zip l.entries l.cookies)) (with_slots l.fn.ctrl l.fn.slots) (with_slots l.ctrl l.slots);
  generations : SameGenerations l.fn.slots l.slots;
}
