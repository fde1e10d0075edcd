use Rattle.std.proofs.Common.{◌≡◌, take}
use Rattle.nvme_latency.specs.Times.{times_of}
use Rattle.nvme_numbers.specs.inside.Unions.{all_sums, all_times}
use Rattle.nvme_numbers.proofs.answer.union_of.Given as goal

-- the commands of the queues so far
abbrev pub invariant-loop-queue : goal.invariant-loop-queue
invariant-loop-queue l = record {
  times : times_of l.union.latencies ≡ all_times l.class (take l.queue-index l.queues);
  sums : l.union.sums ≡ all_sums l.class (take l.queue-index l.queues);
}
