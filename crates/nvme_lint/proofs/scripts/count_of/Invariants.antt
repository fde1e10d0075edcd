-- The count of the commands so far.
use Rattle.std.proofs.Common.{◌≡◌, take}
use Rattle.nvme_lint.specs.Warnings.{count_of}
use Rattle.nvme_lint.proofs.scripts.count_of.Given as goal

abbrev pub invariant-loop-entry : goal.invariant-loop-entry
invariant-loop-entry l = record {
  count : l.count ≡ count_of l.spaces l.status (take l.entry-index l.script);
}
