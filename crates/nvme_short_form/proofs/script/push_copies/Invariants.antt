use Rattle.std.proofs.Common.{◌≡◌, ◌++◌}
use Rattle.nvme_short_form.specs.Scripts.{copies}
use Rattle.nvme_short_form.proofs.script.push_copies.Given as goal

abbrev pub invariant-loop-copy : goal.invariant-loop-copy
invariant-loop-copy l = record {
  items : l.script.items ≡ l.fn.script.items ++ copies l._copy l.items;
}
