use Rattle.std.proofs.Common.{rules, ◌≡◌, ◌<◌, ◌≤◌, ◌++◌, ◌∷◌, [], length, map}
use Rattle.std.proofs.lemmas.List.{map-append}
use Rattle.toml.specs.View.{view}
use Rattle.nvme_short.specs.Documents.{submission_of}
use Rattle.nvme_short.proofs.Flat.{map_more, map_done}
use Rattle.nvme_short.proofs.document.push_submissions.Goals as goal

pub loop-queue-preserved : goal.loop-queue-preserved
loop-queue-preserved c =
    let before = c.loop-queue.values.items in
    let made = c.in_ok-submission_of.field-0 in
    let there : c.loop-queue.queue-index < length c.args.queues.now = search rules in
    let pushed : c.push.new.self.items ≡ before ++ made ∷ [] = search rules in
    let more : map view c.push.new.self.items ≡ map view before ++ submission_of c.queue-item.result ∷ [] = rw (pushed, ← c.in_ok-submission_of.ensures) (map-append view before (made ∷ [])) in
    map_more submission_of c.args.queues.now c.loop-queue.queue-index c.queue-item.result (map view before) _ _ there c.queue-item.is more c.loop-queue.invariant

pub returns : goal.returns
returns c =
    let over : length c.args.queues.now ≤ c.loop-queue.queue-index = search rules in
    map_done submission_of c.args.queues.now c.loop-queue.queue-index (map view c.loop-queue.values.items) _ over c.loop-queue.invariant
