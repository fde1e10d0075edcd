-- What a controller may note, after what it noted before.
-- (Base Specification, Command Submission and Completion Mechanism, Command Arbitration, Admin Command Set; tags, windows, queues that
-- are held, classes that are set: profile)
use Rattle.std.specs.Prelude.{◌≡◌, ◌≢◌, ℕ, ◌+◌, ◌<◌, ◌≤◌, Bool, true, false, ◌∷◌, length, Some, None, is_some, slice_get, MatchBool, ◌==◌, ◌&&◌}
use Rattle.std.specs.List.{list_any}
use Rattle.nvme_entry.specs.Status.{StatusCode}
use Rattle.nvme_entry.specs.declared.submission.Sqe.{Sqe}
use Rattle.nvme_entry.specs.declared.completion.Cqe.{Cqe}
use Rattle.nvme_arbiter.specs.Lawful.{IsLimitedRun}
use Rattle.nvme_arbiter.specs.declared.settings.Class.{Class}
use Rattle.nvme_arbiter.specs.declared.settings.Class.TheVariants.{Admin}
use Rattle.nvme_log.specs.declared.event.Event.{Event}
use Rattle.nvme_log.specs.declared.event.Event.TheVariants.{Fetch, Pick, Post}
use Rattle.nvme_log.specs.Rules.{FrontRules, upto}
use Rattle.nvme_log.specs.Queues.{Queue, is_open_region, open_sq, open_cq}
use Rattle.nvme_log.specs.Places.{fetched, fate_of, is_picked, entry_at}
use Rattle.nvme_log.specs.Histories.{arbitration_of}
use Rattle.nvme_log.specs.Effects.{made_last, effects_since, EffectsAtOnce}
use Rattle.nvme_log.specs.Dispatches.{place_at}
use Rattle.nvme_log.specs.Completions.{posted_to, own_status, own_dw0}
use Rattle.nvme_log.specs.Answers.{Answer, by_answers}
use Rattle.nvme_log.specs.Account.{IndexCounts, ServedWhileOpen, PostsOwnBy}
use Rattle.nvme_arbiter.specs.Limits.{queue_limit}
use Rattle.nvme_log.specs.Aborts.{is_index, just_picked}
use Rattle.nvme_ctrl_log.specs.Notes.{Notes, Note, Logged, Tail, Head, Kept, Passed, Taken, Answered, Flagged, Held, Classed, EachNote, logged}
use Rattle.nvme_ctrl_log.specs.Doorbells.{sq_slots, cq_slots, submitted, consumed}
use Rattle.nvme_ctrl_log.specs.Own.{may_be_own, before_pick}
use Rattle.nvme_ctrl_log.specs.Observation.{observed_of}
use Rattle.nvme_ctrl_log.specs.Deletions.{DeletesNone, FollowsDeletions}
use Rattle.nvme_ctrl_log.specs.Ready.{PostsInOrder}
use Rattle.nvme_ctrl_log.specs.Tags.{is_passed, is_of_device, handed, taken, holder, answer_of, cookie_of, flags_of, answers, is_through}

-- ---- events
-- a fetch takes a command that the host submitted (Submission Queue y Tail Doorbell)
abbrev pub FetchesSubmitted : FrontRules → Notes → Event → Type 0
FetchesSubmitted rules notes (Fetch r i entry) = length (fetched (logged notes) r) < submitted rules notes r
FetchesSubmitted rules notes e = Unit {0}

-- a pick is made on exactly what arbitration sees (Command Arbitration)
abbrev pub PicksOnObservation : Notes → Event → Type 0
PicksOnObservation notes (Pick seen pick) = seen ≡ observed_of notes
PicksOnObservation notes e = Unit {0}

-- a completion goes into a slot that the host consumed. A full queue has one slot less than its ring (Completion Queue y Head Doorbell, Full Queue)
abbrev pub PostsOnFreeSlot : FrontRules → Notes → Event → Type 0
PostsOnFreeSlot rules notes (Post c r i cqe) = length (posted_to (logged notes) c) + 1 < consumed rules notes c + cq_slots rules c
PostsOnFreeSlot rules notes e = Unit {0}

-- a completion is posted when its command was answered or aborted
abbrev pub PostsWhatIsThrough : Notes → Event → Type 0
PostsWhatIsThrough notes (Post c r i cqe) = is_through notes r i ≡ true
PostsWhatIsThrough notes e = Unit {0}

-- a completion is the own one of its place. An admin command that was passed on has the status and Dword 0 of the device's answer, and all else
-- is as it would be without (Completion Queue Entry)
pub record PostsAnswer (rules : FrontRules) (notes : Notes) (c i : ℕ) (cqe : Cqe) : Type 0 where
  pub answer : Answer
  pub answered : answer_of notes 0 i ≡ Some answer
  pub status_is : cqe.status ≡ answer.status
  pub dw0_is : cqe.dw0 ≡ answer.dw0
  pub other_status : StatusCode
  pub other_dw0 : ℕ
  pub all_else : PostsOwnBy rules (by_answers (answers notes)) (logged notes) (Post c 0 i (record cqe { status = other_status; dw0 = other_dw0 }))

abbrev pub PostsOwn : FrontRules → Notes → Event → Type 0
PostsOwn rules notes (Post c r i cqe) =
    MatchBool (r == 0 && is_passed notes i) (PostsAnswer rules notes c i cqe) (PostsOwnBy rules (by_answers (answers notes)) (logged notes) (Post c r i cqe))
PostsOwn rules notes e = Unit {0}

-- an event is lawful: it is one of an accounted log, where commands are answered and queues are shown as the notes say, and follows the doorbells
pub record IsLawfulEvent (rules : FrontRules) (notes : Notes) (e : Event) : Type 0 where
  pub index_counts : IndexCounts (logged notes) e
  pub served_while_open : ServedWhileOpen rules (logged notes) e
  pub observed : PicksOnObservation notes e
  pub effects_at_once : EffectsAtOnce rules (logged notes) e
  pub deletes : FollowsDeletions (logged notes) e
  pub posts_own : PostsOwn rules notes e
  pub fetches_submitted : FetchesSubmitted rules notes e
  pub posts_on_free_slot : PostsOnFreeSlot rules notes e
  pub posts_what_is_through : PostsWhatIsThrough notes e
  pub posts_in_order : PostsInOrder notes e

-- ---- doorbells
-- a tail is a slot of an open queue, no further on than where the ring is full (Full Queue)
pub record IsTail (rules : FrontRules) (notes : Notes) (r slot : ℕ) : Type 0 where
  pub is_open : is_open_region (logged notes) r ≡ true
  pub is_slot : slot < sq_slots rules r
  pub fits : submitted rules (Tail r slot ∷ notes) r < length (fetched (logged notes) r) + sq_slots rules r

-- a region is that of an open completion queue
abbrev pub is_open_cq_region : Notes → ℕ → Bool
is_open_cq_region notes c = list_any (λ (q : ℕ). is_index c (open_cq (logged notes) q)) (upto queue_limit)

-- a head is a slot of an open queue, no further on than what was posted
pub record IsHead (rules : FrontRules) (notes : Notes) (c slot : ℕ) : Type 0 where
  pub is_open : is_open_cq_region notes c ≡ true
  pub is_slot : slot < cq_slots rules c
  pub posted : consumed rules (Head c slot ∷ notes) c ≤ length (posted_to (logged notes) c)

-- ---- the caller
-- it keeps one number with a command that was fetched
pub record IsKept (notes : Notes) (r i : ℕ) : Type 0 where
  pub fetched : i < length (fetched (logged notes) r)
  pub first : cookie_of notes r i ≡ None

-- ---- the device
-- an admin command is passed on to the device at once when it was picked, where it may be the device's. Of an Abort what waited at its pick tells that (Abort)
pub record IsPassed (notes : Notes) (i : ℕ) : Type 0 where
  pub latest : just_picked (logged notes) ≡ Some i
  pub picked : is_picked (fate_of (logged notes) 0 i) ≡ true
  pub entry : Sqe
  pub is_there : entry_at (logged notes) 0 i ≡ Some entry
  pub may_be : may_be_own (before_pick (logged notes)) entry ≡ true
  pub first : is_passed notes i ≡ false
  pub unanswered : answer_of notes 0 i ≡ None

-- the device takes the picked commands that are its own in the order of the picks, each under a tag that stands for no command
pub record IsTaken (notes : Notes) (tag r i : ℕ) : Type 0 where
  pub next : slice_get (handed notes) (length (taken notes)) ≡ Some (place_at r i)
  pub free : holder notes tag ≡ None

-- the controller carried out an admin command: all that it makes is there, and each deletion that it began is finished
pub record IsCarriedOut (rules : FrontRules) (notes : Notes) (i : ℕ) (answer : Answer) : Type 0 where
  pub entry : Sqe
  pub is_there : entry_at (logged notes) 0 i ≡ Some entry
  pub picked : is_picked (fate_of (logged notes) 0 i) ≡ true
  pub whole : effects_since (logged notes) ≡ made_last rules (logged notes)
  pub finished : DeletesNone (logged notes) i
  pub status : answer.status ≡ own_status rules (logged notes) 0 i entry
  pub dw0 : answer.dw0 ≡ own_dw0 rules (logged notes) 0 i entry

-- the device has the command of a place
pub record HasTag (notes : Notes) (r i : ℕ) : Type 0 where
  pub tag : ℕ
  pub stands : holder notes tag ≡ Some (place_at r i)

-- a command is answered once: one of the device's by the device, which has it, and any other when it is carried out
pub record IsAnswer (rules : FrontRules) (notes : Notes) (r i : ℕ) (answer : Answer) : Type 0 where
  pub first : answer_of notes r i ≡ None
  pub executed : MatchBool (is_of_device notes r i) (HasTag notes r i) (IsCarriedOut rules notes i answer)

-- the device flags a completion once: that of a command that it has and answered
pub record IsFlagged (notes : Notes) (r i : ℕ) : Type 0 where
  pub first : flags_of notes r i ≡ None
  pub answered : is_some (answer_of notes r i) ≡ true
  pub by_device : HasTag notes r i

-- the device holds an open submission queue, or holds it no longer
pub record MayBeHeld (notes : Notes) (q : ℕ) : Type 0 where
  pub queue : Queue
  pub is_open : open_sq (logged notes) q ≡ Some queue

-- it sets the class of an open I/O submission queue, which isn't that of the admin queue
pub record MayBeClassed (notes : Notes) (q : ℕ) (class : Class) : Type 0 where
  pub queue : Queue
  pub is_open : open_sq (logged notes) q ≡ Some queue
  pub io : q ≢ 0
  pub class_of_io : class ≢ Admin

-- ---- all of it
abbrev pub IsLawful : FrontRules → Notes → Note → Type 0
IsLawful rules notes (Logged e) = IsLawfulEvent rules notes e
IsLawful rules notes (Tail r slot) = IsTail rules notes r slot
IsLawful rules notes (Head c slot) = IsHead rules notes c slot
IsLawful rules notes (Kept r i cookie) = IsKept notes r i
IsLawful rules notes (Passed i) = IsPassed notes i
IsLawful rules notes (Taken tag r i) = IsTaken notes tag r i
IsLawful rules notes (Answered r i answer) = IsAnswer rules notes r i answer
IsLawful rules notes (Flagged r i flags) = IsFlagged notes r i
IsLawful rules notes (Held q on) = MayBeHeld notes q
IsLawful rules notes (Classed q class) = MayBeClassed notes q class

pub record IsAccount (rules : FrontRules) (notes : Notes) : Type 0 where
  pub each : EachNote (IsLawful rules) notes
  -- the picks are a lawful run of the configured arbitration
  pub lawful : IsLimitedRun rules.mechanism rules.start.settings (arbitration_of (logged notes))
  -- what the latest admin command makes is all there
  pub effects_whole : effects_since (logged notes) ≡ made_last rules (logged notes)
