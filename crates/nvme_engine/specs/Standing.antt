-- When an engine stands at the log of a front, which keeps the events of the notes (profile).
use Rattle.std.specs.Prelude.{◌≡◌, ℕ, ◌+◌, ◌*◌, ◌<◌, ◌≤◌, ◌==◌, Bool, true, false, List, [], ◌++◌, length, Some, None, is_some}
use Rattle.nvme_entry.specs.declared.submission.Sqe.{Sqe}
use Rattle.nvme_arbiter.specs.Limits.{highest_count, queue_limit}
use Rattle.nvme_arbiter.specs.Lawful.{IsLawfulRun}
use Rattle.nvme_admin.specs.declared.bounds.TheConstants.{MAX_REGIONS}
use Rattle.nvme_admin.specs.declared.region.Region.{Region}
use Rattle.nvme_log.specs.Limits.{max_outstanding}
use Rattle.nvme_log.specs.Rules.{FrontRules, Past, Each, sq_regions_of, cq_regions_of, slots_at}
use Rattle.nvme_log.specs.Queues.{Deletion, open_sq, open_cq, pending, is_serving, qid_of_region, is_closed_region}
use Rattle.nvme_log.specs.Places.{fetched, entry_at}
use Rattle.nvme_log.specs.declared.place.Place.{Place}
use Rattle.nvme_log.specs.Completions.{posted_to, outstanding}
use Rattle.nvme_log.specs.Histories.{arbitration_of}
use Rattle.nvme_log.specs.Answers.{Answer, outcome_answer}
use Rattle.nvme_log.specs.Account.{Deletes, LeavesPlaces, latest_admin_place}
use Rattle.nvme_log.specs.declared.event.Event.{Event}
use Rattle.nvme_log.specs.declared.event.Event.TheVariants.{Closing}
use Rattle.nvme_ctrl_log.specs.Notes.{Notes, logged}
use Rattle.nvme_ctrl_log.specs.Doorbells.{submitted, consumed}
use Rattle.nvme_ctrl_log.specs.Tags.{handed, taken, answer_of, cookie_of}
use Rattle.nvme_ctrl_log.specs.Observation.{NoneArranged}
use Rattle.nvme_engine.specs.Regions.{only_adds}
use Rattle.nvme_ctrl.specs.Own.{no_own, own_of}
use Rattle.nvme_ctrl.specs.Calls.{depths_of}
use Rattle.nvme_ctrl_log.specs.Calls.{equal_depths}
use Rattle.nvme_ctrl_log.specs.Laws.{NonePassed}
use Rattle.nvme_ctrl.specs.Standing as ctrl
use Rattle.nvme_engine.specs.declared.engine.Engine.{Engine}

-- rules with the same regions of each kind, in whatever order of the kinds they were added
pub record AreAlike (rules other : FrontRules) : Type 0 where
  pub mechanism : other.mechanism ≡ rules.mechanism
  pub start : other.start ≡ rules.start
  pub sqs : sq_regions_of other ≡ sq_regions_of rules
  pub cqs : cq_regions_of other ≡ cq_regions_of rules
  -- the queues of both lie on regions that were added
  pub adds : only_adds other.regions ≡ true
  pub own_adds : only_adds rules.regions ≡ true
  -- there are no more submission regions than there may be
  pub few_sqs : length (sq_regions_of rules) ≤ MAX_REGIONS

-- a deletion begins while none is pending, by the admin command that was picked last (Delete I/O Submission Queue)
abbrev pub BeginsAlone : Past → Event → Type 0
BeginsAlone past (Closing qid region) = (pending past ≡ None) × (is_some (latest_admin_place past) ≡ true)
BeginsAlone past e = Unit {0}

-- the notes of a front: no command was passed on, no queue held and no class set, and one deletion was pending at a time, with nothing fetched or picked
-- meanwhile
pub record IsPlain (notes : Notes) : Type 0 where
  pub none_passed : NonePassed notes
  pub none_arranged : NoneArranged notes
  pub deletes : Each Deletes (logged notes)
  pub alone : Each BeginsAlone (logged notes)

-- the slots of an engine: as many for each submission region as commands of its queue may wait, and one for each place that may be outstanding
abbrev pub pool_size : ℕ
pool_size = MAX_REGIONS * highest_count + max_outstanding

-- the depth of each queue: no fetch waits for it, since fewer commands of the queue wait then than arbitration counts, and no more are unposted than may be
-- outstanding
abbrev pub queue_depth : ℕ
queue_depth = highest_count + max_outstanding

-- each of these regions may have a ring: one with at least two slots. (Full Queue)
abbrev pub HaveRings : List Region → Type 0
HaveRings regions = (r : ℕ) → r < length regions → 2 ≤ slots_at regions r

-- a queue that was opened and isn't closed is open or is the one that is being deleted
abbrev pub ServesItsQueues : Past → Type 0
ServesItsQueues past = (r q : ℕ) → qid_of_region past r ≡ Some q → is_closed_region past r ≡ false → is_serving past r ≡ true

-- the pending deletion is of the queue that its region was opened for
abbrev pub DeletesItsQueue : Past → Type 0
DeletesItsQueue past = (d : Deletion) → pending past ≡ Some d → qid_of_region past d.region ≡ Some d.qid

-- each open queue of either kind has an identifier below this number, which is within the limit
abbrev pub OpensBelow : Past → ℕ → Type 0
OpensBelow past n = (n ≤ queue_limit) × ((q : ℕ) → n ≤ q → (open_sq past q ≡ None) × (open_cq past q ≡ None))

-- an I/O command that was answered was answered with its outcome
abbrev pub AnswersByOutcome : FrontRules → Notes → Type 0
AnswersByOutcome rules notes =
    (r i : ℕ) (entry : Sqe) (answer : Answer) → (r == 0) ≡ false → entry_at (logged notes) r i ≡ Some entry → answer_of notes r i ≡ Some answer → answer ≡ outcome_answer rules entry

-- no more places are outstanding than there may be, and no more were after any pick or abort (profile)
pub record HasPlaces (rules : FrontRules) (past : Past) : Type 0 where
  pub each : Each (LeavesPlaces rules) past
  pub few : outstanding rules past ≤ max_outstanding

-- an engine stands at these notes, but for these picked places, which are still to be taken. `late` says that a region was added after the first event. Each
-- fetched command was submitted just before, and each posted completion consumed right after. What is kept with a command is its index
pub record StandsBut (rules : FrontRules) (late : Bool) (notes : Notes) (rest : List Place) (e : Engine) : Type 0 where
  -- the rules at which its controller stands
  pub their : FrontRules
  pub their_late : Bool
  pub alike : AreAlike rules their
  pub in_time : late ≡ false → (their ≡ rules) × (their_late ≡ false)
  pub stands : ctrl.Stands their their_late notes e.controller e.slots.items
  pub plain : IsPlain notes
  pub sq_rings : HaveRings (sq_regions_of rules)
  pub cq_rings : HaveRings (cq_regions_of rules)
  pub served : ServesItsQueues (logged notes)
  pub named : DeletesItsQueue (logged notes)
  pub few : OpensBelow (logged notes) e.queues
  -- no note is made before the first event
  pub begun : logged notes ≡ [] → notes ≡ []
  pub rung : (r : ℕ) → submitted their notes r ≡ length (fetched (logged notes) r)
  pub read : (c : ℕ) → consumed their notes c ≡ length (posted_to (logged notes) c)
  pub cookies : (r i : ℕ) → i < length (fetched (logged notes) r) → cookie_of notes r i ≡ Some i
  pub answers : AnswersByOutcome rules notes
  pub untaken : handed notes ≡ taken notes ++ rest
  -- each pick was made without a limit
  pub lawful : IsLawfulRun their.mechanism their.start.settings (arbitration_of (logged notes))
  -- a pick is made where its places are free
  pub places : HasPlaces their (logged notes)
  pub pool : pool_size ≤ length e.slots.items
  pub depths : depths_of e.controller ≡ equal_depths queue_depth
  pub own : own_of e.controller ≡ no_own

-- all that was picked is taken
abbrev pub StandsAt : FrontRules → Bool → Notes → Engine → Type 0
StandsAt rules late notes e = StandsBut rules late notes [] e

-- it stands at some log
pub record IsEngine (e : Engine) : Type 0 where
  pub rules : FrontRules
  pub late : Bool
  pub notes : Notes
  pub rest : List Place
  pub stands : StandsBut rules late notes rest e

-- it has its slots
abbrev pub HasPool : Engine → Type 0
HasPool e = pool_size ≤ length e.slots.items
