-- The statuses that the checks of an admin command give are its own, and say nothing of aborts.
use Rattle.std.proofs.Common.{◌≡◌, ◌==◌, ◌&&◌, Bool, true, false, not, if◌then◌else◌, List, [], ◌∷◌, ◌++◌, Option, Some, None, refl}
use Rattle.nvme_entry.specs.Checks.{Check, first_failed}
use Rattle.nvme_entry.specs.Status.{StatusCode, invalid_field}
use Rattle.nvme_entry.specs.Submission.{fuse_of}
use Rattle.nvme_entry.specs.AdminCommand.{admin_command_of}
use Rattle.nvme_entry.specs.declared.submission.Sqe.{Sqe}
use Rattle.nvme_entry.specs.declared.admin.AdminCommand.{AdminCommand}
use Rattle.nvme_entry.specs.declared.admin.AdminCommand.TheVariants.{DeleteSq, CreateSq, DeleteCq, CreateCq, Abort, SetFeatures, GetFeatures, Other}
use Rattle.nvme_admin.specs.History.{Start, TableHistory, Placing}
use Rattle.nvme_admin.specs.QueueTable.{QueueTable}
use Rattle.nvme_admin.specs.Checks.{row, rows_of, placing_rows_of, placing_rows, status_over}
use Rattle.nvme_admin.specs.Accepted.{queue_table, status_of}
use Rattle.nvme_audit.specs.Answers.{is_foreign}
use Rattle.nvme_audit.specs.Aborts.{is_aborted}

-- a status of this command, which says neither that it was aborted nor that it ended with its queue
pub record IsPlain (command : AdminCommand) (status : StatusCode) : Type 0 where
  pub own : is_foreign command status ≡ false
  pub unaborted : is_aborted status ≡ false
  pub undeleted : (status.sct == 0 && status.sc == 0x08) ≡ false

abbrev ArePlain : AdminCommand → List Check → Type 0
ArePlain command [] = Unit {0}
ArePlain command (check ∷ checks) = IsPlain command check.status × ArePlain command checks

first_plain : (command : AdminCommand) (checks : List Check) → ArePlain command checks → IsPlain command (first_failed checks)
first_plain command [] h = record { own = refl; unaborted = refl; undeleted = refl }
first_plain command (check ∷ checks) h = by check.fails (first_plain command checks h.1) where
  by : (b : Bool) → IsPlain command (first_failed checks) → IsPlain command (if b then check.status else first_failed checks)
  by true rest = h.0
  by false rest = rest

plain : {command : AdminCommand} {status : StatusCode} → is_foreign command status ≡ false → is_aborted status ≡ false → (status.sct == 0 && status.sc == 0x08) ≡ false → IsPlain command status
plain o a d = record { own = o; unaborted = a; undeleted = d }

rows_plain : (t : QueueTable) (command : AdminCommand) → ArePlain command (rows_of t command)
rows_plain t (CreateCq qid qsize prp1 pc) = (plain refl refl refl, (plain refl refl refl, (plain refl refl refl, (plain refl refl refl, tt))))
rows_plain t (CreateSq qid qsize prp1 cqid qprio pc) = (plain refl refl refl, (plain refl refl refl, (plain refl refl refl, (plain refl refl refl, (plain refl refl refl, (plain refl refl refl, tt))))))
rows_plain t (DeleteSq qid) = (plain refl refl refl, tt)
rows_plain t (DeleteCq qid) = (plain refl refl refl, (plain refl refl refl, tt))
rows_plain t (Abort sqid cid) = tt
rows_plain t (SetFeatures fid sv cdw11) = (plain refl refl refl, (plain refl refl refl, (plain refl refl refl, (plain refl refl refl, tt))))
rows_plain t (GetFeatures fid) = (plain refl refl refl, tt)
rows_plain t Other = (plain refl refl refl, tt)

both_plain : (t : QueueTable) (p : Placing) (entry : Sqe) (command : AdminCommand) → ArePlain command (placing_rows_of p entry command ++ rows_of t command)
both_plain t p entry (CreateCq qid qsize prp1 pc) = (plain refl refl refl, (plain refl refl refl, (plain refl refl refl, rows_plain t (CreateCq qid qsize prp1 pc))))
both_plain t p entry (CreateSq qid qsize prp1 cqid qprio pc) = (plain refl refl refl, (plain refl refl refl, rows_plain t (CreateSq qid qsize prp1 cqid qprio pc)))
both_plain t p entry (DeleteSq qid) = rows_plain t (DeleteSq qid)
both_plain t p entry (DeleteCq qid) = rows_plain t (DeleteCq qid)
both_plain t p entry (Abort sqid cid) = rows_plain t (Abort sqid cid)
both_plain t p entry (SetFeatures fid sv cdw11) = rows_plain t (SetFeatures fid sv cdw11)
both_plain t p entry (GetFeatures fid) = rows_plain t (GetFeatures fid)
both_plain t p entry Other = rows_plain t Other

placed_plain : (t : QueueTable) (o : Option Placing) (entry : Sqe) → ArePlain (admin_command_of entry) (placing_rows o entry ++ rows_of t (admin_command_of entry))
placed_plain t None entry = rows_plain t (admin_command_of entry)
placed_plain t (Some p) entry = both_plain t p entry (admin_command_of entry)

over_plain : (t : QueueTable) (entry : Sqe) → IsPlain (admin_command_of entry) (status_over t entry)
over_plain t entry = first_plain (admin_command_of entry) (row (not (fuse_of entry == 0)) invalid_field ∷ placing_rows t.placing entry ++ rows_of t (admin_command_of entry)) (plain refl refl refl, placed_plain t t.placing entry)

pub status_plain : (start : Start) (h : TableHistory) (entry : Sqe) → IsPlain (admin_command_of entry) (status_of start h entry)
unfolding status_of
status_plain start h entry = over_plain (queue_table start h) entry
