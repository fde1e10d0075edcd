-- Table histories: what happened to a queue table (profile).
use Rattle.std.specs.Prelude.{ℕ, List}
use Rattle.nvme_arbiter.specs.Settings.{ArbitrationFields}
use Rattle.nvme_entry.specs.declared.submission.Sqe.{Sqe}
use Rattle.nvme_entry.specs.declared.admin.AdminCommand.{AdminCommand}

-- the two kinds of queue, and of region
pub data Kind : Type 0 where
  Submission : Kind
  Completion : Kind

-- what a table begins with: the limits on the number of I/O queues of each kind, and the first settings of the Arbitration feature
pub record Start : Type 0 where
  pub nsq : ℕ
  pub ncq : ℕ
  pub settings : ArbitrationFields

-- what a Create may ask for where queues may lie anywhere in memory: PRP1 is a multiple of the memory page in bytes, QSIZE is at most MQES,
-- which is zero based, and the interrupt vector is below their number.
-- (Base Specification, Controller Capabilities, MQES, and Create I/O Completion Queue; pages and vectors: profile)
pub record Placing : Type 0 where
  pub page : ℕ
  pub mqes : ℕ
  pub vectors : ℕ

-- a step of a table history: a region is added at an address, with a number of slots; an admin entry is applied, whatever its status;
-- the deletion of a submission queue is finished; queues may lie anywhere in memory from here on, not only on regions
pub data TableStep : Type 0 where
  RegionAdded : Kind → (address slots : ℕ) → TableStep
  EntryApplied : Sqe → TableStep
  DeletionFinished : (qid : ℕ) → TableStep
  PlacedAnywhere : Placing → TableStep

-- a table history, the newest step first: `step ∷ past` is the step after the steps of `past`
abbrev pub TableHistory : Type 0
TableHistory = List TableStep

-- a step that took effect: of the admin entries just the accepted ones, each as its command
pub data Effect : Type 0 where
  Added : Kind → (address slots : ℕ) → Effect
  Accepted : AdminCommand → Effect
  Finished : (qid : ℕ) → Effect
  Anywhere : Placing → Effect

-- the steps that took effect, the newest first
abbrev pub Effects : Type 0
Effects = List Effect
