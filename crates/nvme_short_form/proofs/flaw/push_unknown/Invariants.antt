use Rattle.std.proofs.Common.{◌≡◌, ◌≤◌, ◌-◌, ◌++◌, length}
use Rattle.toml.specs.View.{members_view}
use Rattle.nvme_short_form.specs.Flaws.{unknown_from}
use Rattle.nvme_short_form.proofs.flaw.push_unknown.Given as goal

abbrev pub invariant-loop-name : goal.invariant-loop-name
invariant-loop-name l =
    (goal.iterator-loop-name).can_next l.name-iterator ×
    (goal.iterator-loop-name).is_finite l.name-iterator ×
    (length l.fn.flaws.items ≤ length l.flaws.items) ×
    (l.before ≡ length l.fn.flaws.items) ×
    (l.flaws.items ++ unknown_from l.site.place l.site.inner l.keys (length l.flaws.items - length l.fn.flaws.items) (members_view l.name-iterator) ≡ l.fn.flaws.items ++ unknown_from l.site.place l.site.inner l.keys 0 (members_view l.table.entries))
