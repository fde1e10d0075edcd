use Rattle.std.proofs.Common.{rules, ◌≡◌, ◌<◌, ◌≤◌, ◌++◌, length}
use Rattle.nvme_short.specs.Documents.{flat}
use Rattle.nvme_short.specs.Names.{own_cq}
use Rattle.nvme_short.proofs.Flat.{flat_more, flat_done}
use Rattle.nvme_short.proofs.names.push_own_cqs.Goals as goal

pub loop-queue-preserved : goal.loop-queue-preserved
loop-queue-preserved c =
    let there : c.loop-queue.queue-index < length c.args.queues.now = search rules in
    let more : c.push_own_cq.new.numbers.items ≡ c.loop-queue.numbers.items ++ own_cq c.queue-item.result = search rules in
    flat_more own_cq c.args.queues.now c.loop-queue.queue-index c.queue-item.result c.loop-queue.numbers.items _ (c.args.numbers.now.items ++ flat own_cq c.args.queues.now) there c.queue-item.is more c.loop-queue.invariant

pub returns : goal.returns
returns c =
    let over : length c.args.queues.now ≤ c.loop-queue.queue-index = search rules in
    flat_done own_cq c.args.queues.now c.loop-queue.queue-index c.loop-queue.numbers.items (c.args.numbers.now.items ++ flat own_cq c.args.queues.now) over c.loop-queue.invariant
