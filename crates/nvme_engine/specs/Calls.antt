-- What the calls of an engine answer, and the notes at which it stands after them. (Base Specification, Command Submission and Completion Mechanism)
use Rattle.std.specs.Prelude.{◌≡◌, ℕ, ◌+◌, ◌<◌, ◌≤◌, Bool, true, List, ◌∷◌, ◌++◌, length, Option, Some, None, option_map, slice_get}
use Rattle.nvme_entry.specs.Status.{StatusCode, success}
use Rattle.nvme_entry.specs.declared.submission.Sqe.{Sqe}
use Rattle.nvme_entry.specs.declared.completion.Cqe.{Cqe}
use Rattle.nvme_arbiter.specs.Lawful.{lawful_pick}
use Rattle.nvme_arbiter.specs.declared.pick.Pick.{Pick}
use Rattle.nvme_admin.specs.declared.verdict.Verdict.{Verdict}
use Rattle.nvme_log.specs.declared.event.Event.{Event}
use Rattle.nvme_log.specs.declared.event.Event.TheVariants as event
use Rattle.nvme_log.specs.declared.place.Place.{Place}
use Rattle.nvme_log.specs.Limits.{max_outstanding}
use Rattle.nvme_log.specs.Rules.{FrontRules, window_at, slots_at, sq_regions_of}
use Rattle.nvme_log.specs.Queues.{Queue, Deletion, open_sq, pending}
use Rattle.nvme_log.specs.Places.{fetched, waiting, entry_at, observation_of}
use Rattle.nvme_log.specs.Histories.{arbitration_of}
use Rattle.nvme_log.specs.Aborts.{places_for}
use Rattle.nvme_log.specs.Dispatches.{dispatched_by}
use Rattle.nvme_log.specs.Completions.{outstanding}
use Rattle.nvme_log.specs.Effects.{made_by}
use Rattle.nvme_log.specs.Answers.{Answer}
use Rattle.nvme_ctrl_log.specs.Notes.{Notes, Logged, Tail, Head, Kept, Taken, Answered, Flagged, logged}
use Rattle.nvme_ctrl_log.specs.Steps.{with_logged, with_answer}
use Rattle.nvme_ctrl_log.specs.Tags.{holder, answer_of, is_through}
use Rattle.nvme_ctrl.specs.Posts.{next_post_of}
use Rattle.nvme_ctrl_log.specs.declared.status_flags.StatusFlags.{StatusFlags}
use Rattle.nvme_ctrl.specs.declared.posts.Post.{Post}
use Rattle.nvme_engine.specs.Standing.{StandsBut, StandsAt}
use Rattle.nvme_engine.specs.declared.engine.Engine.{Engine}
use Rattle.nvme_engine.specs.declared.answers.Taking.{Taking}

-- ---- fetches
-- a command of an open queue may be fetched, the one of this index of a ring of so many slots: its window has room, and no deletion is pending
pub record MayFetch (rules : FrontRules) (notes : Notes) (qid slots index : ℕ) : Type 0 where
  pub queue : Queue
  pub is_open : open_sq (logged notes) qid ≡ Some queue
  pub none_pending : pending (logged notes) ≡ None
  pub room : length (waiting (logged notes) queue.region) < window_at rules queue.region
  pub slots_are : slots ≡ slots_at (sq_regions_of rules) queue.region
  pub next : index ≡ length (fetched (logged notes) queue.region)

-- it is fetched: its doorbell was rung, and its index is kept with it
pub record HasFetched (rules : FrontRules) (late : Bool) (notes : Notes) (qid slot index : ℕ) (entry : Sqe) (e : Engine) : Type 0 where
  pub queue : Queue
  pub is_open : open_sq (logged notes) qid ≡ Some queue
  pub stands : StandsAt rules late (Kept queue.region index index ∷ Logged (event.Fetch queue.region index entry) ∷ Tail queue.region slot ∷ notes) e

-- ---- picks
-- the pick that arbitration makes next
abbrev pub next_of : FrontRules → Notes → Option Pick
next_of rules notes = lawful_pick rules.mechanism rules.start.settings (arbitration_of (logged notes)) (observation_of (logged notes))

-- a pick is the next one, its places are free, and no deletion is pending
pub record MayPick (rules : FrontRules) (notes : Notes) (pick : Pick) : Type 0 where
  pub next : next_of rules notes ≡ Some pick
  pub places : outstanding rules (logged notes) + places_for (logged notes) pick ≤ max_outstanding
  pub none_pending : pending (logged notes) ≡ None

-- the notes after a pick, on exactly the open queues and their candidates
abbrev pub seen_notes : Notes → Pick → Notes
seen_notes notes pick = Logged (event.Pick (observation_of (logged notes)) pick) ∷ notes

-- a pick of an I/O queue: its commands are to be taken
pub record HasPicked (rules : FrontRules) (late : Bool) (notes : Notes) (pick : Pick) (e : Engine) : Type 0 where
  pub queue : Queue
  pub is_open : open_sq (logged notes) pick.qid ≡ Some queue
  pub stands : StandsBut rules late (seen_notes notes pick) (dispatched_by (logged notes) pick (Some queue)) e

-- a picked command is taken, under a tag that stood for none: its index, and its entry
pub record HasTaken (rules : FrontRules) (late : Bool) (notes : Notes) (p : Place) (rest : List Place) (t : Taking) (e : Engine) : Type 0 where
  pub index_is : t.index ≡ p.index
  pub entry_is : entry_at (logged notes) p.region p.index ≡ Some t.entry
  pub free : holder notes t.tag ≡ None
  pub unanswered : answer_of notes p.region p.index ≡ None
  pub stands : StandsBut rules late (Taken t.tag p.region p.index ∷ notes) rest e

-- a pick of the admin queue: its command is carried out, and what it makes is logged. It is answered at once, but for the Delete of a submission queue
pub record HasCarriedOut (rules : FrontRules) (late : Bool) (notes : Notes) (pick : Pick) (old new : List Event) (e : Engine) : Type 0 where
  pub index : ℕ
  pub oldest : slice_get (waiting (logged notes) 0) 0 ≡ Some index
  pub verdict : Verdict
  pub log_is : new ≡ old ++ made_by (logged notes) verdict
  pub answer : Option Answer
  pub stands : StandsAt rules late (with_answer index answer (with_logged (made_by (logged notes) verdict) (seen_notes notes pick))) e

-- ---- answers
-- the command of a tag is answered with a status
pub record HasAnswered (rules : FrontRules) (late : Bool) (notes : Notes) (p : Place) (status : StatusCode) (e : Engine) : Type 0 where
  pub flags : StatusFlags
  pub stands : StandsAt rules late (Flagged p.region p.index flags ∷ Answered p.region p.index (record { status = status; dw0 = 0 }) ∷ notes) e

-- ---- completions
-- the completion that is posted next to the completion queue of an identifier
abbrev pub next_cqe : Engine → ℕ → Option Cqe
next_cqe e cqid = option_map (λ (p : Post). p.cqe) (next_post_of e.controller e.slots.items cqid)

-- a completion was posted to an open completion queue: that of a place. The host's head doorbell follows it
pub record HasPosted (rules : FrontRules) (late : Bool) (notes : Notes) (x : ℕ) (cqe : Cqe) (p : Place) (e : Engine) : Type 0 where
  pub slot : ℕ
  -- its command was aborted or answered
  pub through : is_through notes p.region p.index ≡ true
  pub stands : StandsAt rules late (Head x slot ∷ Logged (event.Post x p.region p.index cqe) ∷ notes) e

-- ---- deletions
-- the pending deletion is finished
pub record HasFinished (rules : FrontRules) (late : Bool) (notes : Notes) (d : Deletion) (e : Engine) : Type 0 where
  pub index : ℕ
  pub stands : StandsAt rules late (Answered 0 index (record { status = success; dw0 = 0 }) ∷ Logged (event.ClosedSq d.qid d.region) ∷ notes) e
