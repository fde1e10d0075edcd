use Rattle.nvme_waits.specs.Longest.{longest_in}
use Rattle.nvme_waits.proofs.Greatest.{greatest_more}
use Rattle.nvme_waits.proofs.bounds.longest_of_all.Goals as goal

pub loop-queue-preserved : goal.loop-queue-preserved
loop-queue-preserved c =
    cc (greatest_more longest_in c.args.queues.now c.loop-queue.queue-index c.queue-item.result c.loop-queue.longest c.longest_in.result
    c.loop-queue-test.true c.queue-item.is c.loop-queue.invariant c.longest_in.ensures)
