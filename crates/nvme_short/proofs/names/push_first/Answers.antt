use Rattle.std.proofs.Common.{rules, ◌≡◌, ◌<◌, ◌≤◌, ◌++◌, length}
use Rattle.nvme_short.specs.Documents.{flat}
use Rattle.nvme_short.specs.Names.{first_places_of}
use Rattle.nvme_short.proofs.Flat.{flat_more, flat_done}
use Rattle.nvme_short.proofs.names.push_first.Goals as goal

pub loop-queue-preserved : goal.loop-queue-preserved
loop-queue-preserved c =
    let there : c.loop-queue.queue-index < length c.args.queues.now = search rules in
    let more : c.push_first_of.new.places.items ≡ c.loop-queue.places.items ++ (first_places_of c.args.steps.now) c.queue-item.result = search rules in
    flat_more (first_places_of c.args.steps.now) c.args.queues.now c.loop-queue.queue-index c.queue-item.result c.loop-queue.places.items _ (c.args.places.now.items ++ flat (first_places_of c.args.steps.now) c.args.queues.now) there c.queue-item.is more c.loop-queue.invariant

pub returns : goal.returns
returns c =
    let over : length c.args.queues.now ≤ c.loop-queue.queue-index = search rules in
    flat_done (first_places_of c.args.steps.now) c.args.queues.now c.loop-queue.queue-index c.loop-queue.places.items (c.args.places.now.items ++ flat (first_places_of c.args.steps.now) c.args.queues.now) over c.loop-queue.invariant
