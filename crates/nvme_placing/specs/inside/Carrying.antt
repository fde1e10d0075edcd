-- What an entry makes of a table by tokens, where queues may lie anywhere (profile).
use Rattle.std.specs.Prelude.{◌≡◌, ℕ, ◌==◌, if◌then◌else◌, true, false, List, ◌++◌, Some, None, is_some, option_map}
use Rattle.nvme_entry.specs.AdminCommand.{admin_command_of}
use Rattle.nvme_entry.specs.Checks.{Check, first_failed}
use Rattle.nvme_entry.specs.Submission.{fuse_of}
use Rattle.nvme_entry.specs.declared.admin.AdminCommand.{AdminCommand}
use Rattle.nvme_arbiter.specs.Settings.{ArbitrationFields}
use Rattle.nvme_entry.specs.declared.submission.Sqe.{Sqe}
use Rattle.nvme_admin.specs.declared.verdict.Verdict.{Verdict}
use Rattle.nvme_admin.specs.History.{Placing}
use Rattle.nvme_admin.specs.QueueTable.{QueueTable}
use Rattle.nvme_admin.specs.Checks.{placing_rows_of, status_over, status_in, is_success, verdict_by}
use Rattle.nvme_admin.specs.Steps.{table_after}
use Rattle.nvme_admin.specs.Changes.{admin_queue}
use Rattle.nvme_admin.specs.declared.limits.Limits.{Limits}
use Rattle.nvme_admin.specs.Standing.{TableView, IsSized, sq_of, cq_of}
use Rattle.nvme_placing.specs.Telling.{HasTokens, unplaced, unplaced_verdict}

-- a table has the queues and the features of a queue table, wherever its queues lie
pub record HasQueues (v : TableView) (t : QueueTable) : Type 0 where
  pub sq : (q : ℕ) → option_map unplaced (sq_of v q) ≡ option_map unplaced (t.sq q)
  pub cq : (q : ℕ) → is_some (cq_of v q) ≡ is_some (t.cq q)
  pub nsq : v.nsq ≡ t.nsq
  pub ncq : v.ncq ≡ t.ncq
  pub numbers_set : v.numbers_set ≡ t.numbers_set
  pub created : v.created ≡ t.created
  pub settings : v.settings ≡ t.settings

-- an entry of this verdict is carried out over a table by tokens, as over each queue table of the same queues
pub record Carries (old new : TableView) (p : Placing) (entry : Sqe) (verdict : Verdict) : Type 0 where
  pub status : (t : QueueTable) → HasQueues old t → t.placing ≡ Some p → status_in verdict ≡ status_over t entry
  pub told : (t : QueueTable) → HasQueues old t → t.placing ≡ Some p
      → unplaced_verdict verdict ≡ unplaced_verdict (verdict_by (status_over t entry) (table_after t (admin_command_of entry)) (admin_command_of entry))
  pub after : (t : QueueTable) → HasQueues old t → t.placing ≡ Some p → is_success (status_in verdict) ≡ true
      → HasQueues new (table_after t (admin_command_of entry))
  pub tokens : HasTokens new
  pub sized : IsSized new

-- an entry is a command on its own that passes the checks of where its queue is to lie, over a table by tokens
pub record IsPlaced (v : TableView) (p : Placing) (entry : Sqe) (command : AdminCommand) : Type 0 where
  pub tokens : HasTokens v
  pub alone : fuse_of entry ≡ 0
  pub command_is : admin_command_of entry ≡ command
  pub passes : (rows : List Check) → first_failed (placing_rows_of p entry (admin_command_of entry) ++ rows) ≡ first_failed rows

-- a new table by tokens: only the admin queues are there
pub record IsNewTable (v : TableView) (limits : Limits) (settings : ArbitrationFields) : Type 0 where
  pub tokens : HasTokens v
  pub sq : (q : ℕ) → sq_of v q ≡ (if q == 0 then Some admin_queue else None)
  pub cq : (q : ℕ) → cq_of v q ≡ (if q == 0 then Some 0 else None)
  pub nsq : v.nsq ≡ limits.nsq
  pub ncq : v.ncq ≡ limits.ncq
  pub numbers_set : v.numbers_set ≡ false
  pub created : v.created ≡ false
  pub settings_are : v.settings ≡ settings
