use Rattle.std.proofs.Common.{◌≡◌, ◌++◌, drop}
use Rattle.toml.specs.View.{items_view}
use Rattle.nvme_short_form.specs.Flaws.{each_from, step_flaws}
use Rattle.nvme_short_form.proofs.admin_flaws.push_steps.Given as goal

abbrev pub invariant-loop-index : goal.invariant-loop-index
invariant-loop-index l = l.flaws.items ++ each_from (step_flaws l.queues) l.index (items_view (drop l.index l.items)) ≡ l.fn.flaws.items ++ each_from (step_flaws l.queues) 0 (items_view l.items)
