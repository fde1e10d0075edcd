use Rattle.std.proofs.Common.{rules, ◌≡◌, ◌<◌, ◌≤◌, ◌++◌, length, map}
use Rattle.toml.specs.View.{view}
use Rattle.nvme_short.specs.Documents.{flat, completions_of}
use Rattle.nvme_short.proofs.Flat.{flat_more, flat_done}
use Rattle.nvme_short.proofs.document.push_completions.Goals as goal

pub loop-queue-preserved : goal.loop-queue-preserved
loop-queue-preserved c =
    let there : c.loop-queue.queue-index < length c.args.queues.now = search rules in
    let more : map view c.push_completion.new.values.items ≡ (map view c.loop-queue.values.items) ++ completions_of c.queue-item.result = search rules in
    flat_more completions_of c.args.queues.now c.loop-queue.queue-index c.queue-item.result (map view c.loop-queue.values.items) _ (map view c.args.values.now.items ++ flat completions_of c.args.queues.now) there c.queue-item.is more c.loop-queue.invariant

pub returns : goal.returns
returns c =
    let over : length c.args.queues.now ≤ c.loop-queue.queue-index = search rules in
    flat_done completions_of c.args.queues.now c.loop-queue.queue-index (map view c.loop-queue.values.items) (map view c.args.values.now.items ++ flat completions_of c.args.queues.now) over c.loop-queue.invariant
