use Rattle.std.proofs.Common.{rules, ◌+◌, ◌<◌, ◌≤◌, ◌≡◌, Ok, Err, length, sym, ◌∙◌}
use Rattle.toml.specs.View.{view}
use Rattle.nvme_short_form.specs.declared.key.Key.TheVariants as key
use Rattle.nvme_short_form.specs.declared.place.Place.TheVariants as place
use Rattle.nvme_short_form.specs.declared.error.Fault.TheVariants.{Missing}
use Rattle.nvme_short_form.specs.declared.error.ShortError.TheVariants.{At}
use Rattle.nvme_short_form.specs.Form.{without_class}
use Rattle.nvme_short_form.proofs.Turns.{turn_more, turns_done, turn_ends}
use Rattle.nvme_short_form.proofs.form.without_classes_among.Goals as goal

pub loop-index-preserved : goal.loop-index-preserved
loop-index-preserved c =
    let there : c.loop-index.index < length c.args.queues.now = search rules in
    let passed : without_class c.loop-index.index tt (view c.index-queues-index.result) ≡ Ok tt = search rules in
    record {
      turns = turn_more without_class c.args.queues.now c.loop-index.index c.index-queues-index.result tt tt there c.index-queues-index.is passed ∙ c.loop-index.invariant.turns;
    }

pub returns : goal.returns
returns c =
    let over : length c.args.queues.now ≤ c.loop-index.index = search rules in
    sym (turns_done without_class c.args.queues.now c.loop-index.index tt over) ∙ c.loop-index.invariant.turns

pub returns-then-has_class : goal.returns-then-has_class
returns-then-has_class c =
    let there : c.loop-index.index < length c.args.queues.now = search rules in
    let failed : without_class c.loop-index.index tt (view c.index-queues-index.result) ≡ Err (At (place.Queue (c.loop-index.index + 1)) (Missing key.Mechanism)) = search rules in
    sym (turn_ends without_class c.args.queues.now c.loop-index.index c.index-queues-index.result tt _ there c.index-queues-index.is failed) ∙ c.loop-index.invariant.turns
