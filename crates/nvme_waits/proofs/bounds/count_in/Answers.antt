use Rattle.std.proofs.Common.{arith}
use Rattle.nvme_waits.specs.Bounds.{is_in}
use Rattle.nvme_waits.proofs.Greatest.{count_more}
use Rattle.nvme_waits.proofs.bounds.count_in.Goals as goal

pub loop-queue-preserved : goal.loop-queue-preserved
loop-queue-preserved c = record {
  few = omega arith;
  value = count_more (is_in c.args.class) c.args.queues.now c.loop-queue.queue-index c.queue-item.result c.loop-queue.count c.one_if-count.result
      c.loop-queue-test.true c.queue-item.is c.loop-queue.invariant.value c.one_if-count.ensures.value;
}
