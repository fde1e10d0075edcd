-- What each step of a table history changes, and when a verdict is due.
-- (Base Specification, Create and Delete I/O Submission and Completion Queue; when a verdict is due: profile)
use Rattle.std.specs.Prelude.{◌≡◌, ◌≢◌, ℕ, ◌<◌, ◌==◌, if◌then◌else◌, true, false, length, ◌∷◌, Option, Some, None, is_some, option_map}
use Rattle.nvme_entry.specs.declared.submission.Sqe.{Sqe}
use Rattle.nvme_arbiter.specs.Settings.{ArbitrationFields}
use Rattle.nvme_arbiter.specs.declared.settings.Class.{Class}
use Rattle.nvme_arbiter.specs.declared.settings.Class.TheVariants.{Admin}
use Rattle.nvme_admin.specs.declared.verdict.SqEntry.{SqEntry}
use Rattle.nvme_admin.specs.declared.verdict.Verdict.{Verdict}
use Rattle.nvme_admin.specs.declared.verdict.Verdict.TheVariants.{OpenSq, OpenCq, BeginDelete, CloseCq, SetArbitration}
use Rattle.nvme_admin.specs.History.{Start, TableHistory, Submission, Completion, RegionAdded, EntryApplied, DeletionFinished}
use Rattle.nvme_admin.specs.QueueTable.{QueueTable, as_closing, unless_closing}
use Rattle.nvme_admin.specs.Checks.{is_open, is_attached}
use Rattle.nvme_admin.specs.Accepted.{queue_table, sq_at, cq_at, settings_at, verdict_of}

-- the submission queues after a verdict, by those before it
abbrev pub sq_after : Verdict → (ℕ → Option SqEntry) → ℕ → Option SqEntry
sq_after (OpenSq qid region cqid class) before q =
    if qid == q then Some (record { region = region; cqid = cqid; class = class; closing = false }) else before q
sq_after (BeginDelete qid) before q = if qid == q then option_map as_closing (before q) else before q
sq_after verdict before q = before q

-- the regions of the completion queues after a verdict, by those before it
abbrev pub cq_after : Verdict → (ℕ → Option ℕ) → ℕ → Option ℕ
cq_after (OpenCq qid region) before q = if qid == q then Some region else before q
cq_after (CloseCq qid) before q = if qid == q then None else before q
cq_after verdict before q = before q

-- the settings of the Arbitration feature after a verdict, by those before it
abbrev pub settings_after : Verdict → ArbitrationFields → ArbitrationFields
settings_after (SetArbitration settings) before = settings
settings_after verdict before = before

-- a submission queue may be opened over a queue table
pub record MayOpenSq (t : QueueTable) (qid region cqid : ℕ) (class : Class) : Type 0 where
  pub not_admin : qid ≢ 0
  pub free : t.sq qid ≡ None
  pub cq_not_admin : cqid ≢ 0
  pub cq_open : is_some (t.cq cqid) ≡ true
  pub unused : t.sq_region_used region ≡ false
  pub there : t.placing ≡ None → region < length t.sq_regions
  pub class_of_io : class ≢ Admin

-- a completion queue may be opened over a queue table
pub record MayOpenCq (t : QueueTable) (qid region : ℕ) : Type 0 where
  pub not_admin : qid ≢ 0
  pub free : t.cq qid ≡ None
  pub unused : t.cq_region_used region ≡ false
  pub there : t.placing ≡ None → region < length t.cq_regions

-- the deletion of a submission queue may begin over a queue table
pub record MayBeginDelete (t : QueueTable) (qid : ℕ) : Type 0 where
  pub not_admin : qid ≢ 0
  pub open_sq : is_open (t.sq qid) ≡ true

-- a completion queue may be closed over a queue table
pub record MayCloseCq (t : QueueTable) (qid : ℕ) : Type 0 where
  pub not_admin : qid ≢ 0
  pub open_cq : is_some (t.cq qid) ≡ true
  pub unattached : is_attached t qid ≡ false

-- a verdict is due over a queue table
abbrev pub IsDue : QueueTable → Verdict → Type 0
IsDue t (OpenSq qid region cqid class) = MayOpenSq t qid region cqid class
IsDue t (OpenCq qid region) = MayOpenCq t qid region
IsDue t (BeginDelete qid) = MayBeginDelete t qid
IsDue t (CloseCq qid) = MayCloseCq t qid
IsDue t verdict = Unit {0}

-- a verdict tells all that an entry changes of the queues and the settings
pub record TellsChange (start : Start) (h : TableHistory) (entry : Sqe) (verdict : Verdict) : Type 0 where
  pub due : IsDue (queue_table start h) verdict
  pub sqs : (q : ℕ) → sq_at start (EntryApplied entry ∷ h) q ≡ sq_after verdict (sq_at start h) q
  pub cqs : (q : ℕ) → cq_at start (EntryApplied entry ∷ h) q ≡ cq_after verdict (cq_at start h) q
  pub settings : settings_at start (EntryApplied entry ∷ h) ≡ settings_after verdict (settings_at start h)

-- the admin submission queue
abbrev pub admin_queue : SqEntry
admin_queue = record { region = 0; cqid = 0; class = Admin; closing = false }

-- the law: the verdict of an entry tells its change
abbrev pub VerdictsTellChange : Type 0
VerdictsTellChange = (start : Start) (h : TableHistory) (entry : Sqe) → TellsChange start h entry (verdict_of start h entry)

-- the law: a finished deletion takes a closing queue away, and leaves every other queue
abbrev pub FinishTakesOne : Type 0
FinishTakesOne = (start : Start) (h : TableHistory) (qid q : ℕ)
    → sq_at start (DeletionFinished qid ∷ h) q ≡ (if qid == q then unless_closing (sq_at start h q) else sq_at start h q)

-- the law: an added submission region leaves the admin submission queue open, and leaves every other queue
abbrev pub RegionOpensAdmin : Type 0
RegionOpensAdmin = (start : Start) (h : TableHistory) (address slots q : ℕ)
    → sq_at start (RegionAdded Submission address slots ∷ h) q ≡ (if q == 0 then Some admin_queue else sq_at start h q)

-- the law: the same of completion regions
abbrev pub CqRegionOpensAdmin : Type 0
CqRegionOpensAdmin = (start : Start) (h : TableHistory) (address slots q : ℕ)
    → cq_at start (RegionAdded Completion address slots ∷ h) q ≡ (if q == 0 then Some 0 else cq_at start h q)
