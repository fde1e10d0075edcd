use Rattle.std.proofs.Common.{rules, ◌≡◌, ◌<◌, ◌≤◌, ◌++◌, length}
use Rattle.nvme_short.specs.Documents.{flat, first_creates_of}
use Rattle.nvme_short.proofs.Flat.{flat_more, flat_done}
use Rattle.nvme_short.proofs.creates.push_first_creates.Goals as goal

pub loop-queue-preserved : goal.loop-queue-preserved
loop-queue-preserved c =
    let there : c.loop-queue.queue-index < length c.args.queues.now = search rules in
    let more : c.push_first_creates_of.new.items.items ≡ (c.loop-queue.items.items) ++ (first_creates_of c.args.steps.now) c.queue-item.result = search rules in
    flat_more (first_creates_of c.args.steps.now) c.args.queues.now c.loop-queue.queue-index c.queue-item.result (c.loop-queue.items.items) _ (c.args.items.now.items ++ flat (first_creates_of c.args.steps.now) c.args.queues.now) there c.queue-item.is more c.loop-queue.invariant

pub returns : goal.returns
returns c =
    let over : length c.args.queues.now ≤ c.loop-queue.queue-index = search rules in
    flat_done (first_creates_of c.args.steps.now) c.args.queues.now c.loop-queue.queue-index (c.loop-queue.items.items) (c.args.items.now.items ++ flat (first_creates_of c.args.steps.now) c.args.queues.now) over c.loop-queue.invariant
