-- The queues that a log opens and closes, read backwards.
-- (Base Specification, Create and Delete I/O Submission and Completion Queue)
use Rattle.std.specs.Prelude.{ℕ, ◌==◌, Bool, false, if◌then◌else◌, ◌||◌, [], ◌∷◌, Option, Some, None}
use Rattle.std.specs.List.{list_any}
use Rattle.nvme_arbiter.specs.Limits.{queue_limit}
use Rattle.nvme_arbiter.specs.declared.settings.Class.{Class}
use Rattle.nvme_arbiter.specs.declared.settings.Class.TheVariants.{Admin}
use Rattle.nvme_log.specs.declared.event.Event.TheVariants.{OpenSq, OpenCq, Closing, ClosedSq, ClosedCq}
use Rattle.nvme_log.specs.Rules.{Past, upto}

-- a submission queue: its region, the completion queue that it posts to, its class
pub record Queue : Type 0 where
  pub region : ℕ
  pub cqid : ℕ
  pub class : Class

-- the admin submission queue, which is always open
abbrev pub admin_queue : Queue
admin_queue = record { region = 0; cqid = 0; class = Admin }

-- the submission queue of an identifier, where it is open and not closing
abbrev pub open_sq : Past → ℕ → Option Queue
open_sq [] q = if q == 0 then Some admin_queue else None
open_sq (OpenSq qid region cqid class ∷ past) q = if qid == q then Some (record { region = region; cqid = cqid; class = class }) else open_sq past q
open_sq (Closing qid region ∷ past) q = if qid == q then None else open_sq past q
open_sq (e ∷ past) q = open_sq past q

-- the region of the completion queue of an identifier, where it is open
abbrev pub open_cq : Past → ℕ → Option ℕ
open_cq [] q = if q == 0 then Some 0 else None
open_cq (OpenCq qid region ∷ past) q = if qid == q then Some region else open_cq past q
open_cq (ClosedCq qid region ∷ past) q = if qid == q then None else open_cq past q
open_cq (e ∷ past) q = open_cq past q

-- a queue has this region
abbrev pub has_region : ℕ → Option Queue → Bool
has_region r None = false
has_region r (Some queue) = queue.region == r

-- a region is that of an open submission queue
abbrev pub is_open_region : Past → ℕ → Bool
is_open_region past r = list_any (λ (q : ℕ). has_region r (open_sq past q)) (upto queue_limit)

-- a deletion that began: its queue and region
pub record Deletion : Type 0 where
  pub qid : ℕ
  pub region : ℕ

-- the deletion that began and isn't finished
abbrev pub pending : Past → Option Deletion
pending [] = None
pending (Closing qid region ∷ past) = Some (record { qid = qid; region = region })
pending (ClosedSq qid region ∷ past) = None
pending (e ∷ past) = pending past

-- the deletion of a region's queue was finished
abbrev pub is_closed_region : Past → ℕ → Bool
is_closed_region [] r = false
is_closed_region (ClosedSq qid region ∷ past) r = region == r || is_closed_region past r
is_closed_region (e ∷ past) r = is_closed_region past r

-- the identifier of the queue that a region was opened for (a region is used by one queue in its life: profile)
abbrev pub qid_of_region : Past → ℕ → Option ℕ
qid_of_region [] r = if r == 0 then Some 0 else None
qid_of_region (OpenSq qid region cqid class ∷ past) r = if region == r then Some qid else qid_of_region past r
qid_of_region (e ∷ past) r = qid_of_region past r

-- the completion region of a submission region's queue: that which was open under its completion queue's identifier when the
-- queue was opened
abbrev pub cq_region_of : Past → ℕ → Option ℕ
cq_region_of [] r = if r == 0 then Some 0 else None
cq_region_of (OpenSq qid region cqid class ∷ past) r = if region == r then open_cq past cqid else cq_region_of past r
cq_region_of (e ∷ past) r = cq_region_of past r

-- the region of a pending deletion
abbrev pub is_deleted_region : Option Deletion → ℕ → Bool
is_deleted_region None r = false
is_deleted_region (Some deletion) r = deletion.region == r

-- a queue of the region is open or closing
abbrev pub is_serving : Past → ℕ → Bool
is_serving past r = is_open_region past r || is_deleted_region (pending past) r
