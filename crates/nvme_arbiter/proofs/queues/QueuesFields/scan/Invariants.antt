-- No queue from the least identifier on, up to this one, is wanted.
use Rattle.std.proofs.Common.{◌≡◌, ◌≤◌, ◌<◌, ℕ, false}
use Rattle.nvme_arbiter.specs.Limits.{queue_limit}
use Rattle.nvme_arbiter.specs.Observation.{is_wanted}
use Rattle.nvme_arbiter.specs.Queues.{queue_at}
use Rattle.nvme_arbiter.specs.inside.Masks.{passes}
use Rattle.nvme_arbiter.specs.Layout.{slots_in}
use Rattle.nvme_arbiter.proofs.queues.QueuesFields.scan.Given as goal

abbrev pub invariant-loop-qid : goal.invariant-loop-qid
invariant-loop-qid l = record {
  from : l.least ≤ l.qid;
  few : l.qid ≤ queue_limit;
  none : (j : ℕ) → l.least ≤ j → j < l.qid → passes (is_wanted l.class) j (queue_at (slots_in l.self) j) ≡ false;
}
