use Rattle.std.proofs.Common.{rules, ◌≡◌, ◌<◌, ◌≤◌, ◌++◌, length}
use Rattle.toml.specs.View.{view}
use Rattle.nvme_short_form.specs.Flaws.{entry_flaws}
use Rattle.nvme_short_form.proofs.Gathered.{each_more, each_done}
use Rattle.nvme_short_form.proofs.item_flaws.push_entries.Goals as goal

pub loop-index-preserved : goal.loop-index-preserved
loop-index-preserved c =
    let there : c.loop-index.index < length c.args.entries.now = search rules in
    let more : c.push_entry.new.flaws.items ≡ c.loop-index.flaws.items ++ entry_flaws c.args.queue c.loop-index.index (view c.index-entries-index.result) = search rules in
    each_more (entry_flaws c.args.queue) c.args.entries.now c.loop-index.index c.index-entries-index.result c.loop-index.flaws.items _ _ there c.index-entries-index.is more c.loop-index.invariant

pub returns : goal.returns
returns c =
    let over : length c.args.entries.now ≤ c.loop-index.index = search rules in
    each_done (entry_flaws c.args.queue) c.args.entries.now c.loop-index.index c.loop-index.flaws.items _ over c.loop-index.invariant
