-- Laws of the log of a controller, in the words of those who embed one. (profile)
use Rattle.std.specs.Prelude.{◌≡◌, ◌≢◌, ◌⊎◌, ℕ, ◌+◌, ◌<◌, ◌≤◌, ◌%◌, ◌&&◌, true, false, not, List, ◌∷◌, ◌++◌, length, Some, None, slice_get, sum_by}
use Rattle.std.specs.List.{list_all, All}
use mathlib.Core.List.{IsPrefix}
use Rattle.nvme_entry.specs.declared.submission.Sqe.{Sqe}
use Rattle.nvme_entry.specs.declared.completion.Cqe.{Cqe}
use Rattle.nvme_arbiter.specs.declared.pick.Seen.{Seen}
use Rattle.nvme_arbiter.specs.declared.pick.Pick.{Pick}
use Rattle.nvme_arbiter.specs.Lawful.{IsLawfulRun, IsLimitedPick}
use Rattle.nvme_log.specs.declared.event.Event.TheVariants as event
use Rattle.nvme_log.specs.Rules.{FrontRules, sq_regions_of, cq_regions_of, Each, Past, upto}
use Rattle.nvme_log.specs.Places.{fetched, is_aborted, places, observation_of, waiting}
use Rattle.nvme_log.specs.declared.place.Place.{Place}
use Rattle.nvme_log.specs.Aborts.{is_aborted_with_queue}
use Rattle.nvme_log.specs.Dispatches.{place_at}
use Rattle.nvme_log.specs.Histories.{arbitration_of}
use Rattle.nvme_log.specs.Completions.{is_posted, posted_to, posts_of, phase_after, outstanding}
use Rattle.nvme_log.specs.Answers.{Answer, by_answers}
use Rattle.nvme_log.specs.Account.{Deletes, IsAccountBy, latest_admin_place, LeavesPlaces}
use Rattle.nvme_log.specs.Laws.{PicksPlace, count_of}
use Rattle.nvme_admin.specs.History.{Kind}
use Rattle.nvme_ctrl_log.specs.Notes.{Notes, Logged, logged, Note, Held}
use Rattle.nvme_ctrl_log.specs.Making.{with_region, is_named}
use Rattle.nvme_ctrl_log.specs.Doorbells.{sq_slots, cq_slots, submitted, consumed}
use Rattle.nvme_ctrl_log.specs.Tags.{is_passed, is_of_device, holder, answer_of, answers, all_fetches, all_posts}
use Rattle.nvme_ctrl_log.specs.Ready.{ready_in}
use Rattle.nvme_ctrl_log.specs.Deletions.{deleting}
use Rattle.nvme_ctrl_log.specs.Observation.{is_held, observed_of, NoneArranged}
use Rattle.nvme_ctrl_log.specs.Account.{IsAccount}

-- no admin command was passed on
abbrev pub NonePassed : Notes → Type 0
NonePassed notes = (i : ℕ) → is_passed notes i ≡ false

-- the events of a controller's log, where no admin command was passed on, no queue was held, no class was set and each pick was made without a limit, and
-- which keep a front's order of deletions, one at a time with nothing fetched or picked meanwhile, and its limit of outstanding places, are those of an
-- accounted log, where the device answers: so every law of such logs holds of it
abbrev pub EventsAreAccounted : Type 0
EventsAreAccounted = (rules : FrontRules) (notes : Notes) (sent : ℕ → List Sqe) (collected : ℕ → List Cqe) → NonePassed notes → NoneArranged notes → Each Deletes (logged notes)
    → Each (LeavesPlaces rules) (logged notes) → IsAccount rules notes → IsLawfulRun rules.mechanism rules.start.settings (arbitration_of (logged notes))
    → ((r : ℕ) → IsPrefix (fetched (logged notes) r) (sent r)) → ((c : ℕ) → IsPrefix (collected c) (posted_to (logged notes) c))
    → IsAccountBy rules (by_answers (answers notes)) sent (logged notes) collected

-- a fetch takes the next command: its slot was submitted before, and the host may not write there again until it is fetched
pub record FetchesTheNext (rules : FrontRules) (before : Notes) (r i : ℕ) : Type 0 where
  pub next : i ≡ length (fetched (logged before) r)
  pub was_submitted : i < submitted rules before r
  pub is_kept : submitted rules before r < i + sq_slots rules r

-- each submitted slot is fetched once, in order, and never before its doorbell
abbrev pub SlotsAreFetchedInOrder : Type 0
SlotsAreFetchedInOrder = (rules : FrontRules) (later before : Notes) (r i : ℕ) (entry : Sqe) → IsAccount rules (later ++ Logged (event.Fetch r i entry) ∷ before)
    → FetchesTheNext rules before r i

-- a place was aborted, or its command was answered; the completion of a command that is the device's has that answer
pub record AnswersPlace (before : Notes) (r i : ℕ) (cqe : Cqe) : Type 0 where
  pub answer : Answer
  pub answered : answer_of before r i ≡ Some answer
  pub status : is_of_device before r i ≡ true → cqe.status ≡ answer.status
  pub dw0 : is_of_device before r i ≡ true → cqe.dw0 ≡ answer.dw0

-- a completion is posted after the command's answer or its abort
abbrev pub CompletionsFollowAnswers : Type 0
CompletionsFollowAnswers = (rules : FrontRules) (later before : Notes) (c r i : ℕ) (cqe : Cqe) → IsAccount rules (later ++ Logged (event.Post c r i cqe) ∷ before)
    → (is_aborted (logged before) r i ≡ true) ⊎ AnswersPlace before r i cqe

-- a command has at most one completion
abbrev pub OneCompletionEach : Type 0
OneCompletionEach = (rules : FrontRules) (notes : Notes) → IsAccount rules notes → (r i : ℕ) → posts_of (logged notes) r i ≤ 1

-- where a slot of a completion queue is written twice, the host had consumed the first completion before the second was written
abbrev pub SlotsAreFree : Type 0
SlotsAreFree = (rules : FrontRules) (later between before : Notes) (c r i s j : ℕ) (first second : Cqe)
    → IsAccount rules (later ++ Logged (event.Post c s j second) ∷ (between ++ Logged (event.Post c r i first) ∷ before))
    → length (posted_to (logged (between ++ Logged (event.Post c r i first) ∷ before)) c) % cq_slots rules c ≡ length (posted_to (logged before) c) % cq_slots rules c
    → length (posted_to (logged before) c) < consumed rules (between ++ Logged (event.Post c r i first) ∷ before) c

-- the completions of a queue are posted in the order in which they became ready, the nth as the nth: one that is ready is posted within as many posts of its
-- queue as were to come before it, and its own
abbrev pub ReadyArePostedInTurn : Type 0
ReadyArePostedInTurn = (rules : FrontRules) (later before : Notes) (c n r i : ℕ) → IsAccount rules (later ++ before)
    → slice_get (ready_in before c) n ≡ Some (place_at r i) → n < length (posted_to (logged (later ++ before)) c) → is_posted (logged (later ++ before)) r i ≡ true

-- SQHD and phase tag of a completion (Completion Queue Entry, Phase Tag)
abbrev pub CompletionsTellTheHead : Type 0
CompletionsTellTheHead = (rules : FrontRules) (later before : Notes) (c r i : ℕ) (cqe : Cqe) → IsAccount rules (later ++ Logged (event.Post c r i cqe) ∷ before)
    → (cqe.sqhd ≡ length (fetched (logged before) r) % sq_slots rules r) × (cqe.phase ≡ phase_after (length (posted_to (logged before) c)) (cq_slots rules c))

-- a command that deletes a queue is answered when all of the queue's fetched commands have their completions
abbrev pub DeletesAreAnsweredLast : Type 0
DeletesAreAnsweredLast = (rules : FrontRules) (later middle before : Notes) (qid r c i : ℕ) (cqe : Cqe)
    → IsAccount rules (later ++ Logged (event.Post c 0 i cqe) ∷ (middle ++ Logged (event.Closing qid r) ∷ before))
    → latest_admin_place (logged before) ≡ Some i
    → list_all (λ (k : ℕ). is_posted (logged (middle ++ Logged (event.Closing qid r) ∷ before)) r k) (places (logged (middle ++ Logged (event.Closing qid r) ∷ before)) r) ≡ true

-- nothing is fetched from a queue after its deletion began (Delete I/O Submission Queue)
abbrev pub NoneFetchedAfterDeletion : Type 0
NoneFetchedAfterDeletion = (rules : FrontRules) (later before : Notes) (qid r : ℕ) → IsAccount rules (later ++ Logged (event.Closing qid r) ∷ before)
    → fetched (logged (later ++ Logged (event.Closing qid r) ∷ before)) r ≡ fetched (logged before) r

-- and no command of it is picked
abbrev pub NonePickedAfterDeletion : Type 0
NonePickedAfterDeletion = (rules : FrontRules) (later middle before : Notes) (seen : List Seen) (pick : Pick) (qid r i : ℕ)
    → IsAccount rules (later ++ Logged (event.Pick seen pick) ∷ (middle ++ Logged (event.Closing qid r) ∷ before))
    → PicksPlace (logged (middle ++ Logged (event.Closing qid r) ∷ before)) pick r i → ⊥

-- each pick is the lawful one on the open queues with exactly their numbers of candidates, but for queues that the device holds, of which arbitration sees
-- none, and with the classes that it set (Command Arbitration)
abbrev pub PicksAreLawful : Type 0
PicksAreLawful = (rules : FrontRules) (later before : Notes) (seen : List Seen) (pick : Pick) → IsAccount rules (later ++ Logged (event.Pick seen pick) ∷ before)
    → (seen ≡ observed_of before) × IsLimitedPick rules.mechanism rules.start.settings (arbitration_of (logged before)) seen pick

-- where the device neither held a queue nor set a class, arbitration sees what it does of a front's log
abbrev pub ObservedAsInTheLog : Type 0
ObservedAsInTheLog = (notes : Notes) → NoneArranged notes → observed_of notes ≡ observation_of (logged notes)

-- no command of a queue is picked while the device holds it, whatever its class
abbrev pub HeldQueuesWait : Type 0
HeldQueuesWait = (rules : FrontRules) (later before : Notes) (seen : List Seen) (pick : Pick) → IsAccount rules (later ++ Logged (event.Pick seen pick) ∷ before)
    → is_held before pick.qid ≡ false

-- a note leaves a queue held: it neither holds the queue no longer, nor opens another queue under its identifier
abbrev pub LeavesHeld : ℕ → Note → Type 0
LeavesHeld q (Held qid on) = qid ≡ q → on ≡ true
LeavesHeld q (Logged (event.OpenSq qid region cqid class)) = qid ≢ q
LeavesHeld q note = Unit {0}

-- so from the note that a queue is held no command of it is picked, until a note says that it isn't held, or another queue is opened under its identifier
abbrev pub HeldQueuesWaitUntilTold : Type 0
HeldQueuesWaitUntilTold = (rules : FrontRules) (later middle before : Notes) (seen : List Seen) (pick : Pick) (q : ℕ)
    → IsAccount rules (later ++ Logged (event.Pick seen pick) ∷ (middle ++ Held q true ∷ before))
    → All (LeavesHeld q) middle → pick.qid ≢ q

-- a tag stands for one command at a time, and a command has one tag
abbrev pub TagsAreApart : Type 0
TagsAreApart = (rules : FrontRules) (notes : Notes) → IsAccount rules notes → (t u : ℕ) (place : Place) → holder notes t ≡ Some place → holder notes u ≡ Some place → t ≡ u

-- and it stays one at the rules with a region more, where no Create that was picked named the region's address. The admin regions are there
abbrev pub RegionsLeaveAccounts : Type 0
RegionsLeaveAccounts = (rules : FrontRules) (notes : Notes) (kind : Kind) (address slots : ℕ) → 0 < length (sq_regions_of rules) → 0 < length (cq_regions_of rules)
    → IsAccount rules notes → is_named rules notes address ≡ false → IsAccount (with_region kind address slots rules) notes

-- how many commands wait, of all queues
abbrev pub all_waiting : FrontRules → Past → ℕ
all_waiting rules past = sum_by (λ (r : ℕ). length (waiting past r)) (upto (length (sq_regions_of rules)))

-- how many commands were aborted with their queue and have no completion posted, of all queues
abbrev pub all_dropped : FrontRules → Past → ℕ
all_dropped rules past =
    sum_by (λ (r : ℕ). count_of (λ (i : ℕ). is_aborted_with_queue past r i && not (is_posted past r i)) (places past r)) (upto (length (sq_regions_of rules)))

-- no queue is being deleted
abbrev pub NoneDeleting : Past → Type 0
NoneDeleting past = (r : ℕ) → deleting past r ≡ None

-- beside the commands that wait and those that were aborted with their queue, no more have no completion than are outstanding; where no queue is being
-- deleted, that is so beside the commands that wait alone. Each command without a completion holds a slot of the pool
pub record HoldsFewSlots (rules : FrontRules) (past : Past) : Type 0 where
  pub always : all_fetches past ≤ all_posts past + all_waiting rules past + all_dropped rules past + outstanding rules past
  pub none_deleting : NoneDeleting past → all_fetches past ≤ all_posts past + all_waiting rules past + outstanding rules past
