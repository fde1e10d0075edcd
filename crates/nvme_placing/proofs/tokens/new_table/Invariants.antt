-- The regions so far have their tokens, and the first of each kind opened its admin queue.
use Rattle.std.proofs.Common.{◌≡◌, ℕ, ◌==◌, if◌then◌else◌, false, length, Some, None}
use Rattle.nvme_admin.specs.Changes.{admin_queue}
use Rattle.nvme_admin.specs.Layout.{view_of}
use Rattle.nvme_admin.specs.Standing.{sq_of, cq_of}
use Rattle.nvme_placing.specs.Telling.{AreTokens}
use Rattle.nvme_placing.proofs.tokens.new_table.Given as goal

abbrev pub invariant-loop-number : goal.invariant-loop-number
invariant-loop-number l = record {
  sqs : length (view_of l.table).sq_regions ≡ l.number;
  cqs : length (view_of l.table).cq_regions ≡ l.number;
  sq_tokens : AreTokens 0 (view_of l.table).sq_regions;
  cq_tokens : AreTokens 1 (view_of l.table).cq_regions;
  sq : (q : ℕ) → sq_of (view_of l.table) q ≡ (if q == 0 then (if l.number == 0 then None else Some admin_queue) else None);
  cq : (q : ℕ) → cq_of (view_of l.table) q ≡ (if q == 0 then (if l.number == 0 then None else Some 0) else None);
  nsq : (view_of l.table).nsq ≡ l.fn.limits.nsq;
  ncq : (view_of l.table).ncq ≡ l.fn.limits.ncq;
  numbers_set : (view_of l.table).numbers_set ≡ false;
  created : (view_of l.table).created ≡ false;
  settings_are : (view_of l.table).settings ≡ l.fn.settings;
}
