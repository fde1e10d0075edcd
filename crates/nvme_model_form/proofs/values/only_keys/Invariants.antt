use Rattle.std.proofs.Common.{◌≡◌}
use Rattle.toml.specs.View.{members_view}
use Rattle.nvme_model_form.specs.Readings.{all_known}
use Rattle.nvme_model_form.proofs.values.only_keys.Given as goal

abbrev pub invariant-loop-name : goal.invariant-loop-name
invariant-loop-name l =
    (goal.iterator-loop-name).can_next l.name-iterator ×
    (goal.iterator-loop-name).is_finite l.name-iterator ×
    (all_known l.keys (members_view l.name-iterator) ≡ all_known l.keys (members_view l.table.entries))
