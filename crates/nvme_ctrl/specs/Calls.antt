-- What the calls of a controller answer, and what they note. (Base Specification, Command Submission and Completion Mechanism)
use Rattle.std.specs.Prelude.{◌≡◌, ℕ, ◌%◌, Bool, true, List, ◌∷◌, length, get_or, Some, None}
use Rattle.nvme_entry.specs.declared.submission.Sqe.{Sqe}
use Rattle.nvme_entry.specs.declared.completion.Cqe.{Cqe}
use Rattle.nvme_log.specs.declared.event.Event.TheVariants.{Fetch, Post}
use Rattle.nvme_log.specs.Rules.{FrontRules}
use Rattle.nvme_log.specs.Queues.{Queue, open_sq, open_cq, qid_of_region}
use Rattle.nvme_log.specs.Places.{fetched}
use Rattle.nvme_log.specs.Completions.{posted_to}
use Rattle.nvme_log.specs.Answers.{Answer}
use Rattle.nvme_ctrl_log.specs.Notes.{Notes, Logged, Tail, Head, Kept, Taken, Answered, Flagged, logged}
use Rattle.nvme_ctrl_log.specs.Doorbells.{cq_slots}
use Rattle.nvme_ctrl_log.specs.StatusFlags.{flags_or}
use Rattle.nvme_ctrl_log.specs.Tags.{holder, answer_of, cookie_of, flags_of, is_through}
use Rattle.nvme_ctrl_log.specs.declared.status_flags.StatusFlags.{StatusFlags}
use Rattle.nvme_slots.specs.declared.slot.Slot.{Slot}
use Rattle.nvme_ctrl.specs.declared.state.Controller.{Controller}
use Rattle.nvme_ctrl.specs.Standing.{Stands}
use Rattle.nvme_ctrl_log.specs.Calls.{MayFetch}

-- the doorbell is noted
pub record TailRung (rules : FrontRules) (late : Bool) (notes : Notes) (qid slot : ℕ) (c : Controller) (slots : List Slot) : Type 0 where
  pub queue : Queue
  pub is_open : open_sq (logged notes) qid ≡ Some queue
  pub stands : Stands rules late (Tail queue.region slot ∷ notes) c slots

pub record HeadRung (rules : FrontRules) (late : Bool) (notes : Notes) (cqid slot : ℕ) (c : Controller) (slots : List Slot) : Type 0 where
  pub region : ℕ
  pub is_open : open_cq (logged notes) cqid ≡ Some region
  pub stands : Stands rules late (Head region slot ∷ notes) c slots

-- ---- fetches
-- the depths of the submission queues, by identifier: the most commands of each that hold a slot, from the fetch to the posting of the completion
abbrev pub depths_of : Controller → List ℕ
depths_of c = c.depths

-- that of one queue; beyond the last identifier, 0
abbrev pub depth_of : Controller → ℕ → ℕ
depth_of c qid = get_or (depths_of c) qid 0

-- the fetch is noted, and what the caller keeps with its command
pub record HasFetched (rules : FrontRules) (late : Bool) (notes : Notes) (qid : ℕ) (entry : Sqe) (cookie : ℕ) (c : Controller) (slots : List Slot) : Type 0 where
  pub slot : ℕ
  pub may : MayFetch rules notes (depth_of c qid) (length slots) qid slot
  pub stands : Stands rules late (Kept may.queue.region (length (fetched (logged notes) may.queue.region)) cookie
      ∷ Logged (Fetch may.queue.region (length (fetched (logged notes) may.queue.region)) entry) ∷ notes) c slots

-- ---- the device
-- the device takes a command, which it hasn't answered, under a tag that stands for no command
pub record HasTaken (rules : FrontRules) (late : Bool) (notes : Notes) (tag : ℕ) (c : Controller) (slots : List Slot) : Type 0 where
  pub region : ℕ
  pub index : ℕ
  pub free : holder notes tag ≡ None
  pub unanswered : answer_of notes region index ≡ None
  pub stands : Stands rules late (Taken tag region index ∷ notes) c slots

-- the device answers the command of a tag, and flags its completion
pub record HasAnswered (rules : FrontRules) (late : Bool) (notes : Notes) (tag : ℕ) (answer : Answer) (flags : StatusFlags) (c : Controller) (slots : List Slot) : Type 0 where
  pub region : ℕ
  pub index : ℕ
  pub held : holder notes tag ≡ Some (record { region = region; index = index })
  pub stands : Stands rules late (Flagged region index flags ∷ Answered region index answer ∷ notes) c slots

-- ---- completions
-- a completion is posted to an open completion queue, into the slot that is its next, and what the caller keeps with its command is given back. It
-- has the identifier of its command's queue. Its flags are those of the device where it answered, else those of the completion's status
pub record HasPosted (rules : FrontRules) (late : Bool) (notes : Notes) (cqid slot : ℕ) (cqe : Cqe) (cookie : ℕ) (flags : StatusFlags) (c : Controller) (slots : List Slot) : Type 0 where
  pub x : ℕ
  pub is_open : open_cq (logged notes) cqid ≡ Some x
  pub region : ℕ
  pub index : ℕ
  pub queue : qid_of_region (logged notes) region ≡ Some cqe.sqid
  pub slot_is : slot ≡ length (posted_to (logged notes) x) % cq_slots rules x
  pub kept : cookie_of notes region index ≡ Some cookie
  pub flagged : flags ≡ flags_or cqe.status (flags_of notes region index)
  -- its command was aborted or answered
  pub through : is_through notes region index ≡ true
  pub stands : Stands rules late (Logged (Post x region index cqe) ∷ notes) c slots
