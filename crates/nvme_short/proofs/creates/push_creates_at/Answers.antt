use Rattle.std.proofs.Common.{rules, ◌≡◌, ◌<◌, ◌≤◌, ◌++◌, length}
use Rattle.nvme_short.specs.Documents.{flat, creates_at}
use Rattle.nvme_short.proofs.Flat.{flat_more, flat_done}
use Rattle.nvme_short.proofs.creates.push_creates_at.Goals as goal

pub loop-queue-preserved : goal.loop-queue-preserved
loop-queue-preserved c =
    let there : c.loop-queue.queue-index < length c.args.queues.now = search rules in
    let more : c.push_creates_if.new.items.items ≡ (c.loop-queue.items.items) ++ (creates_at c.args.number) c.queue-item.result = search rules in
    flat_more (creates_at c.args.number) c.args.queues.now c.loop-queue.queue-index c.queue-item.result (c.loop-queue.items.items) _ (c.args.items.now.items ++ flat (creates_at c.args.number) c.args.queues.now) there c.queue-item.is more c.loop-queue.invariant

pub returns : goal.returns
returns c =
    let over : length c.args.queues.now ≤ c.loop-queue.queue-index = search rules in
    flat_done (creates_at c.args.number) c.args.queues.now c.loop-queue.queue-index (c.loop-queue.items.items) (c.args.items.now.items ++ flat (creates_at c.args.number) c.args.queues.now) over c.loop-queue.invariant
