use Rattle.std.proofs.Common.{◌≡◌, length}
use Rattle.nvme_numbers.specs.inside.Unions.{FedAgree, RowsAgree}
use Rattle.nvme_numbers.proofs.answer.queue_rows.Given as goal

-- a row for each queue so far
abbrev pub invariant-loop-queue : goal.invariant-loop-queue
invariant-loop-queue l = record {
  count : length l.rows.items ≡ l.queue-index;
  agree : RowsAgree l.span l.whole l.queues l.rows.items;
  fed : FedAgree l.coming l.queues l.rows.items;
}
