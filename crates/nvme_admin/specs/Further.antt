-- Further laws over table histories: a queue table step by step, and regions where queues may lie anywhere (profile).
use Rattle.std.specs.Prelude.{◌≡◌, ℕ, ◌<◌, true, [], ◌∷◌, ◌++◌, length, is_some}
use Rattle.nvme_entry.specs.AdminCommand.{admin_command_of}
use Rattle.nvme_entry.specs.declared.submission.Sqe.{Sqe}
use Rattle.nvme_admin.specs.History.{Start, TableHistory, Kind, RegionAdded, EntryApplied}
use Rattle.nvme_admin.specs.QueueTable.{QueueTable}
use Rattle.nvme_admin.specs.Accepted.{queue_table, status_of, is_accepted, dw0_of, verdict_of}
use Rattle.nvme_admin.specs.Steps.{table_after, empty_table}

-- two queue tables are alike in all but their regions
pub record AreAlike (a b : QueueTable) : Type 0 where
  pub sq : (q : ℕ) → a.sq q ≡ b.sq q
  pub cq : (q : ℕ) → a.cq q ≡ b.cq q
  pub sq_region_used : (k : ℕ) → a.sq_region_used k ≡ b.sq_region_used k
  pub cq_region_used : (k : ℕ) → a.cq_region_used k ≡ b.cq_region_used k
  pub nsq : a.nsq ≡ b.nsq
  pub ncq : a.ncq ≡ b.ncq
  pub numbers_set : a.numbers_set ≡ b.numbers_set
  pub created : a.created ≡ b.created
  pub settings : a.settings ≡ b.settings
  pub placing : a.placing ≡ b.placing
  pub sqs_made : a.sqs_made ≡ b.sqs_made
  pub cqs_made : a.cqs_made ≡ b.cqs_made

-- and their regions are the same too
pub record AreSame (a b : QueueTable) : Type 0 where
  pub alike : AreAlike a b
  pub sq_regions : a.sq_regions ≡ b.sq_regions
  pub cq_regions : a.cq_regions ≡ b.cq_regions

-- a queue table may be kept step by step: it begins as the empty one, and an accepted entry makes of it what its command does
abbrev pub TablesBeginEmpty : Type 0
TablesBeginEmpty = (start : Start) → AreSame (queue_table start []) (empty_table start)

abbrev pub TablesGoByCommands : Type 0
TablesGoByCommands = (start : Start) (h : TableHistory) (entry : Sqe) → is_accepted start h entry ≡ true
    → AreSame (queue_table start (EntryApplied entry ∷ h)) (table_after (queue_table start h) (admin_command_of entry))

-- a region of each kind is there, those of the admin queues
pub record HasRegions (t : QueueTable) : Type 0 where
  pub sq : 0 < length t.sq_regions
  pub cq : 0 < length t.cq_regions

-- two histories come to the same, but for their regions: so do their queue tables, and each entry is answered the same after both
pub record ComeToSame (start : Start) (a b : TableHistory) : Type 0 where
  pub alike : AreAlike (queue_table start a) (queue_table start b)
  pub status : (entry : Sqe) → status_of start a entry ≡ status_of start b entry
  pub dw0 : (entry : Sqe) → dw0_of start a entry ≡ dw0_of start b entry
  pub verdict : (entry : Sqe) → verdict_of start a entry ≡ verdict_of start b entry

-- where queues may lie anywhere and the admin queues have their regions, one more region changes nothing, whatever follows it
abbrev pub RegionsDontMatter : Type 0
RegionsDontMatter = (start : Start) (later first : TableHistory) (kind : Kind) (address slots : ℕ)
    → is_some (queue_table start first).placing ≡ true → HasRegions (queue_table start first)
    → ComeToSame start (later ++ RegionAdded kind address slots ∷ first) (later ++ first)
