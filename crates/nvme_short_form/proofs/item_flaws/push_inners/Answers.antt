use Rattle.std.proofs.Common.{rules, ◌≡◌, ◌<◌, ◌≤◌, ◌++◌, length}
use Rattle.toml.specs.View.{view}
use Rattle.nvme_short_form.specs.Flaws.{inner_flaws}
use Rattle.nvme_short_form.proofs.Gathered.{each_more, each_done}
use Rattle.nvme_short_form.proofs.item_flaws.push_inners.Goals as goal

pub loop-index-preserved : goal.loop-index-preserved
loop-index-preserved c =
    let there : c.loop-index.index < length c.args.items.now = search rules in
    let more : c.push_inner.new.flaws.items ≡ c.loop-index.flaws.items ++ inner_flaws c.args.place c.loop-index.index (view c.index-items-index.result) = search rules in
    each_more (inner_flaws c.args.place) c.args.items.now c.loop-index.index c.index-items-index.result c.loop-index.flaws.items _ _ there c.index-items-index.is more c.loop-index.invariant

pub returns : goal.returns
returns c =
    let over : length c.args.items.now ≤ c.loop-index.index = search rules in
    each_done (inner_flaws c.args.place) c.args.items.now c.loop-index.index c.loop-index.flaws.items _ over c.loop-index.invariant
