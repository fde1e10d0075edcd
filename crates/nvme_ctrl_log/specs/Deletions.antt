-- The deletions of submission queues, any number of which may have begun and not be finished.
-- (Base Specification, Delete I/O Submission Queue; the waiting, and one queue a region: profile)
use Rattle.std.specs.Prelude.{◌≡◌, ℕ, ◌==◌, ◌&&◌, Bool, true, false, if◌then◌else◌, [], ◌∷◌, Option, Some, None, is_some}
use Rattle.std.specs.List.{list_all}
use Rattle.nvme_log.specs.declared.event.Event.{Event}
use Rattle.nvme_log.specs.declared.event.Event.TheVariants.{Fetch, Pick, Closing, Abort, Post, ClosedSq}
use Rattle.nvme_log.specs.Rules.{Past}
use Rattle.nvme_log.specs.Queues.{Queue, open_sq, is_closed_region, qid_of_region}
use Rattle.nvme_log.specs.Places.{places}
use Rattle.nvme_log.specs.Aborts.{is_index}
use Rattle.nvme_log.specs.Completions.{is_posted}
use Rattle.nvme_log.specs.Account.{latest_admin_place}

-- the admin place whose command is deleting the queue of a region: the deletion began, and isn't finished
abbrev pub deleting : Past → ℕ → Option ℕ
deleting [] r = None
deleting (Closing qid region ∷ past) r = if region == r then latest_admin_place past else deleting past r
deleting (ClosedSq qid region ∷ past) r = if region == r then None else deleting past r
deleting (e ∷ past) r = deleting past r

-- the queue of some region is being deleted
pub record IsDeletingSome (past : Past) : Type 0 where
  pub region : ℕ
  pub index : ℕ
  pub deletes : deleting past region ≡ Some index

-- a queue's deletion began, and isn't finished
abbrev pub is_deleted_queue : Past → Option Queue → Bool
is_deleted_queue past None = false
is_deleted_queue past (Some queue) = is_some (deleting past queue.region)

-- each deletion that the command of an admin place began is finished
abbrev pub DeletesNone : Past → ℕ → Type 0
DeletesNone past i = (r : ℕ) → is_index i (deleting past r) ≡ false

-- a deletion begins once, and is finished once, when all of its queue's places are posted. While it is pending nothing is fetched from its queue or
-- picked of it, and its command isn't answered; after it nothing more happens to its region. Other queues go on
abbrev pub FollowsDeletions : Past → Event → Type 0
FollowsDeletions past (Fetch r i entry) = (deleting past r ≡ None) × (is_closed_region past r ≡ false)
FollowsDeletions past (Pick seen pick) = is_deleted_queue past (open_sq past pick.qid) ≡ false
FollowsDeletions past (Closing qid r) = (deleting past r ≡ None) × (is_closed_region past r ≡ false)
FollowsDeletions past (Abort r i) = is_closed_region past r ≡ false
FollowsDeletions past (Post c r i cqe) = (is_closed_region past r ≡ false) × ((s : ℕ) → (r == 0 && is_index i (deleting past s)) ≡ false)
FollowsDeletions past (ClosedSq qid r) =
    (is_some (deleting past r) ≡ true) × (qid_of_region past r ≡ Some qid) × (list_all (λ (i : ℕ). is_posted past r i) (places past r) ≡ true)
FollowsDeletions past e = Unit {0}
