use Rattle.std.proofs.Common.{◌≡◌, ◌++◌, ◌-◌}
use Rattle.nvme_waits.specs.Waits.{picked_from, queue_behind}
use Rattle.nvme_waits.proofs.waits.pick_some.Given as goal

-- the commands so far, and those that are left of the pick
abbrev pub invariant-loop-turn : goal.invariant-loop-turn
invariant-loop-turn l = record {
  taken : l.taken.items ++ picked_from l.fn.at l.pick.qid (l.pick.n - l._turn) l.queue
      ≡ l.fn.taken.items ++ picked_from l.fn.at l.pick.qid l.pick.n l.fn.queue;
  queue : queue_behind l.fn.at (l.pick.n - l._turn) l.queue ≡ queue_behind l.fn.at l.pick.n l.fn.queue;
}
