-- The queue table, the statuses and the answers of a table history. An entry is accepted where its status after the history before it is success.
-- (Base Specification, Admin Command Set; histories: profile)
use Rattle.std.specs.Prelude.{ℕ, Bool, if◌then◌else◌, [], ◌∷◌, Option}
use Rattle.nvme_entry.specs.Status.{StatusCode}
use Rattle.nvme_entry.specs.AdminCommand.{admin_command_of}
use Rattle.nvme_entry.specs.declared.submission.Sqe.{Sqe}
use Rattle.nvme_entry.specs.declared.admin.AdminCommand.{AdminCommand}
use Rattle.nvme_arbiter.specs.Settings.{ArbitrationFields}
use Rattle.nvme_admin.specs.declared.verdict.SqEntry.{SqEntry}
use Rattle.nvme_admin.specs.declared.verdict.Verdict.{Verdict}
use Rattle.nvme_admin.specs.History.{Start, TableHistory, RegionAdded, EntryApplied, DeletionFinished, PlacedAnywhere, Added, Accepted, Finished, Anywhere, Effects}
use Rattle.nvme_admin.specs.QueueTable.{QueueTable, table_in}
use Rattle.nvme_admin.specs.Checks.{status_over, is_success, verdict_by, dw0_by}

-- an entry of success takes effect, and every other entry leaves what stood
abbrev pub after_entry : StatusCode → AdminCommand → Effects → Effects
after_entry status command past = if is_success status then Accepted command ∷ past else past

-- the steps of a history that took effect
unfoldable pub effects_of : Start → TableHistory → Effects
effects_of start [] = []
effects_of start (RegionAdded kind address slots ∷ past) = Added kind address slots ∷ effects_of start past
effects_of start (EntryApplied entry ∷ past) =
    after_entry (status_over (table_in start (effects_of start past)) entry) (admin_command_of entry) (effects_of start past)
effects_of start (DeletionFinished qid ∷ past) = Finished qid ∷ effects_of start past
effects_of start (PlacedAnywhere p ∷ past) = Anywhere p ∷ effects_of start past

-- the queue table of a history
unfoldable pub queue_table : Start → TableHistory → QueueTable
queue_table start h = table_in start (effects_of start h)

-- the status of an entry after a history
unfoldable pub status_of : Start → TableHistory → Sqe → StatusCode
status_of start h entry = status_over (queue_table start h) entry

-- an entry is accepted after a history
abbrev pub is_accepted : Start → TableHistory → Sqe → Bool
is_accepted start h entry = is_success (status_of start h entry)

-- Dword 0 of the completion of an entry after a history
unfoldable pub dw0_of : Start → TableHistory → Sqe → ℕ
dw0_of start h entry = dw0_by (status_of start h entry) (queue_table start (EntryApplied entry ∷ h)) (admin_command_of entry)

-- the verdict on an entry after a history. Its fields are those of the queue table after the entry
unfoldable pub verdict_of : Start → TableHistory → Sqe → Verdict
verdict_of start h entry = verdict_by (status_of start h entry) (queue_table start (EntryApplied entry ∷ h)) (admin_command_of entry)

-- the submission queue of an identifier after a history, open or closing
abbrev pub sq_at : Start → TableHistory → ℕ → Option SqEntry
sq_at start h q = (queue_table start h).sq q

-- the region of the completion queue of an identifier after a history
abbrev pub cq_at : Start → TableHistory → ℕ → Option ℕ
cq_at start h q = (queue_table start h).cq q

-- the allotted numbers of submission and of completion queues after a history
abbrev pub nsq_at : Start → TableHistory → ℕ
nsq_at start h = (queue_table start h).nsq

abbrev pub ncq_at : Start → TableHistory → ℕ
ncq_at start h = (queue_table start h).ncq

-- the settings of the Arbitration feature after a history
abbrev pub settings_at : Start → TableHistory → ArbitrationFields
settings_at start h = (queue_table start h).settings
