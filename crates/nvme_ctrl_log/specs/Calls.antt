-- When the calls of a controller may be made, in the words of its log. (Base Specification, Command Submission and Completion Mechanism)
use Rattle.std.specs.Prelude.{◌≡◌, ℕ, ◌+◌, ◌<◌, ◌%◌, true, List, length, replicate, Some}
use Rattle.nvme_entry.specs.declared.submission.Sqe.{Sqe}
use Rattle.nvme_admin.specs.declared.bounds.TheConstants.{MAX_REGIONS}
use Rattle.nvme_log.specs.Rules.{FrontRules, window_at}
use Rattle.nvme_log.specs.Queues.{Queue, open_sq, open_cq, qid_of_region}
use Rattle.nvme_log.specs.Places.{fetched, waiting, entry_at}
use Rattle.nvme_log.specs.declared.place.Place.{Place}
use Rattle.nvme_log.specs.Completions.{unposted_of}
use Rattle.nvme_ctrl_log.specs.Notes.{Notes, logged}
use Rattle.nvme_ctrl_log.specs.Doorbells.{submitted, sq_slots}
use Rattle.nvme_ctrl_log.specs.Tags.{holder, is_out, all_fetches, all_posts}
use Rattle.nvme_ctrl_log.specs.Account.{IsTail, IsHead}

-- ---- doorbells
-- a slot is one to which the tail doorbell of an open submission queue may be written
pub record IsTailOf (rules : FrontRules) (notes : Notes) (qid slot : ℕ) : Type 0 where
  pub queue : Queue
  pub is_open : open_sq (logged notes) qid ≡ Some queue
  pub is_tail : IsTail rules notes queue.region slot

-- so the head doorbell of an open completion queue
pub record IsHeadOf (rules : FrontRules) (notes : Notes) (cqid slot : ℕ) : Type 0 where
  pub region : ℕ
  pub is_open : open_cq (logged notes) cqid ≡ Some region
  pub is_head : IsHead rules notes region slot

-- one depth for all of them
abbrev pub equal_depths : ℕ → List ℕ
equal_depths depth = replicate MAX_REGIONS depth

-- the slot of an open queue that is to be fetched next: the host submitted it, fewer of its commands hold a slot than its depth, of which some wait and
-- the others have no completion posted, it has room for one that waits, and of a pool of so many slots one is free
pub record MayFetch (rules : FrontRules) (notes : Notes) (depth pool qid slot : ℕ) : Type 0 where
  pub queue : Queue
  pub is_open : open_sq (logged notes) qid ≡ Some queue
  pub submitted : length (fetched (logged notes) queue.region) < submitted rules notes queue.region
  pub in_depth : length (waiting (logged notes) queue.region) + unposted_of (logged notes) queue.region < depth
  pub has_room : length (waiting (logged notes) queue.region) < window_at rules queue.region
  pub some_free : all_fetches (logged notes) < pool + all_posts (logged notes)
  pub slot_is : slot ≡ length (fetched (logged notes) queue.region) % sq_slots rules queue.region

-- a tag is that of a command that the device has: it has this command identifier, and is of the submission queue of this identifier
pub record IsTagOf (notes : Notes) (qid cid tag : ℕ) : Type 0 where
  pub out : is_out notes tag ≡ true
  pub place : Place
  pub held : holder notes tag ≡ Some place
  pub queue : qid_of_region (logged notes) place.region ≡ Some qid
  pub entry : Sqe
  pub is_there : entry_at (logged notes) place.region place.index ≡ Some entry
  pub cid_is : entry.cid ≡ cid
