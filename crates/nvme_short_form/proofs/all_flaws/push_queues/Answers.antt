use Rattle.std.proofs.Common.{rules, ◌≡◌, ◌<◌, ◌≤◌, ◌++◌, ◌∷◌, [], length, arith, ap}
use Rattle.std.proofs.lemmas.List.{length_push}
use Rattle.toml.specs.Data.{as_table}
use Rattle.toml.specs.View.{view}
use Rattle.nvme_short_form.specs.Flaws.{cq_among, queue_flaws}
use Rattle.nvme_short_form.proofs.Gathered.{queues_more, queues_done}
use Rattle.nvme_short_form.proofs.all_flaws.push_queues.Goals as goal

pub loop-item-preserved : goal.loop-item-preserved
loop-item-preserved c =
    let there : c.loop-item.item-index < length c.args.items.now = search rules in
    let more : c.push_queue.new.flaws.items ≡ c.loop-item.flaws.items ++ queue_flaws c.loop-item.cqs.items (view c.item-item.result) = search rules in
    let pushed : c.push.new.self.items ≡ c.loop-item.cqs.items ++ cq_among c.loop-item.cqs.items (as_table (view c.item-item.result)) ∷ [] = search rules in
    record {
      flaws = rw pushed (queues_more c.args.items.now c.loop-item.item-index c.item-item.result c.loop-item.cqs.items c.loop-item.flaws.items c.push_queue.new.flaws.items _ there c.item-item.is more c.loop-item.invariant.flaws);
      count = omega (arith, ap length pushed, length_push c.loop-item.cqs.items (cq_among c.loop-item.cqs.items (as_table (view c.item-item.result))));
    }

pub returns : goal.returns
returns c =
    let over : length c.args.items.now ≤ c.loop-item.item-index = search rules in
    queues_done c.args.items.now c.loop-item.item-index c.loop-item.cqs.items c.loop-item.flaws.items _ over c.loop-item.invariant.flaws
