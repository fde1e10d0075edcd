-- Laws of logs, which test the definitions (profile).
use Rattle.std.specs.Prelude.{◌≡◌, ℕ, ◌+◌, ◌<◌, ◌≤◌, ◌==◌, ◌⊎◌, Bool, true, false, if◌then◌else◌, List, [], ◌∷◌, ◌++◌, length, filter, Option, Some, None, slice_get}
use mathlib.Core.List.{IsPrefix}
use Rattle.nvme_entry.specs.declared.submission.Sqe.{Sqe}
use Rattle.nvme_entry.specs.declared.completion.Cqe.{Cqe}
use Rattle.nvme_arbiter.specs.Lawful.{IsLawfulRun}
use Rattle.nvme_arbiter.specs.declared.pick.Pick.{Pick}
use Rattle.nvme_arbiter.specs.declared.pick.Seen.{Seen}
use Rattle.nvme_admin.specs.History.{TableHistory}
use Rattle.nvme_admin.specs.Accepted.{sq_at, cq_at}
use Rattle.nvme_admin.specs.declared.verdict.SqEntry.{SqEntry}
use Rattle.nvme_admin.specs.declared.verdict.Verdict.TheVariants as verdict
use Rattle.nvme_log.specs.declared.event.Event.{Event}
use Rattle.nvme_log.specs.declared.event.Event.TheVariants.{Closing, Post}
use Rattle.nvme_log.specs.declared.event.Event.TheVariants as event
use Rattle.nvme_log.specs.Limits.{max_outstanding}
use Rattle.nvme_log.specs.Rules.{Past, FrontRules, Each}
use Rattle.nvme_log.specs.Places.{fetched, waiting, places, fate_of, is_waiting, is_picked, is_aborted}
use Rattle.nvme_log.specs.declared.place.Place.{Place}
use Rattle.nvme_log.specs.Queues.{Queue, open_sq, open_cq}
use Rattle.nvme_log.specs.Histories.{arbitration_of, table_history}
use Rattle.nvme_log.specs.Answers.{Executor, by_outcome}
use Rattle.nvme_log.specs.Completions.{posted_to, posts_of, outstanding, IsOwnBy}
use Rattle.nvme_log.specs.Dispatches.{place_at}
use Rattle.nvme_log.specs.Effects.{made_last, effects_since, EffectsAtOnce}
use Rattle.nvme_log.specs.Account.{IndexCounts, ServedWhileOpen, Observed, Deletes, PostsOwnBy, LeavesPlaces, IsAccount, IsWholeAccount, latest_admin_place}
use Rattle.nvme_log.specs.AbortLaws.{TakesCommand}

-- a submission queue of the table, where it is open and not closing
abbrev pub as_open : Option SqEntry → Option Queue
as_open None = None
as_open (Some entry) = if entry.closing then None else Some (record { region = entry.region; cqid = entry.cqid; class = entry.class })

-- the places of a region that a test of their fates passes
abbrev pub count_of : (ℕ → Bool) → List ℕ → ℕ
count_of test is = length (filter test is)

-- each fetched place has exactly one fate: those aborted, those picked and those that wait are together the fetched ones
abbrev pub OneFateEach : Type 0
OneFateEach = (past : Past) (r : ℕ) →
    count_of (λ i. is_aborted past r i) (places past r) + count_of (λ i. is_picked (fate_of past r i)) (places past r)
    + count_of (λ i. is_waiting (fate_of past r i)) (places past r) ≡ length (fetched past r)

-- what the account says of a log as far as it has come. What a picked command makes may not all be there yet, and more may have been
-- collected
pub record AccountsSoFarBy (rules : FrontRules) (executor : Executor) (sent : ℕ → List Sqe) (past : Past) : Type 0 where
  pub fetched_in_order : (r : ℕ) → IsPrefix (fetched past r) (sent r)
  pub indexes_count : Each IndexCounts past
  pub served_while_open : Each (ServedWhileOpen rules) past
  pub observed : Each Observed past
  pub effects_at_once : Each (EffectsAtOnce rules) past
  pub deletes : Each Deletes past
  pub posts_own : Each (PostsOwnBy rules executor) past
  pub leaves_places : Each (LeavesPlaces rules) past
  pub lawful : IsLawfulRun rules.mechanism rules.start.settings (arbitration_of past)

-- where commands are answered by their outcomes
abbrev pub AccountsSoFar : FrontRules → (ℕ → List Sqe) → Past → Type 0
AccountsSoFar rules sent past = AccountsSoFarBy rules (by_outcome rules) sent past

-- the events of an accounted log up to any of them are accounted as far as they have come
abbrev pub PrefixesAreAccounted : Type 0
PrefixesAreAccounted = (rules : FrontRules) (sent : ℕ → List Sqe) (later past : Past) (collected : ℕ → List Cqe)
    → IsAccount rules sent (later ++ past) collected → AccountsSoFar rules sent past

-- no place of an accounted log has two completions
abbrev pub OnePostEach : Type 0
OnePostEach = (rules : FrontRules) (sent : ℕ → List Sqe) (past : Past) (collected : ℕ → List Cqe)
    → IsAccount rules sent past collected → (r i : ℕ) → posts_of past r i ≤ 1

-- a place has one completion: it is its own, it was collected, in its turn, and the place has no other
pub record HasOneCompletionBy (rules : FrontRules) (executor : Executor) (past : Past) (collected : ℕ → List Cqe) (r i : ℕ) : Type 0 where
  -- the completion region, and the completion
  pub region : ℕ
  pub cqe : Cqe
  -- the events before it, and after it
  pub before : Past
  pub later : Past
  pub stands : later ++ Post region r i cqe ∷ before ≡ past
  pub own : IsOwnBy rules (executor (place_at r i)) before region r i cqe
  pub was_collected : slice_get (collected region) (length (posted_to before region)) ≡ Some cqe
  pub only : posts_of past r i ≡ 1

-- where commands are answered by their outcomes
abbrev pub HasOneCompletion : FrontRules → Past → (ℕ → List Cqe) → (r i : ℕ) → Type 0
HasOneCompletion rules past collected r i = HasOneCompletionBy rules (by_outcome rules) past collected r i

-- in a whole account what was fetched from each region is what was submitted first, in order, and every fetched command has exactly one
-- collected completion, its own
pub record IsAnsweredBy (rules : FrontRules) (executor : Executor) (sent : ℕ → List Sqe) (past : Past) (collected : ℕ → List Cqe) : Type 0 where
  pub in_order : (r : ℕ) → IsPrefix (fetched past r) (sent r)
  pub one_completion : (r i : ℕ) → i < length (fetched past r) → HasOneCompletionBy rules executor past collected r i

-- where commands are answered by their outcomes
abbrev pub IsAnswered : FrontRules → (ℕ → List Sqe) → Past → (ℕ → List Cqe) → Type 0
IsAnswered rules sent past collected = IsAnsweredBy rules (by_outcome rules) sent past collected

abbrev pub WholeAccountsAnswer : Type 0
WholeAccountsAnswer = (rules : FrontRules) (loaded : Bool) (scripts sent : ℕ → List Sqe) (past : Past) (collected : ℕ → List Cqe)
    → IsWholeAccount rules loaded scripts sent past collected → IsAnswered rules sent past collected

-- an admin command was picked that deletes an open submission queue: the command's place, the queue's identifier and its region
pub record DeletesQueue (rules : FrontRules) (past : Past) (i qid r : ℕ) : Type 0 where
  pub later : Past
  pub before : Past
  pub seen : List Seen
  pub pick : Pick
  pub stands : past ≡ later ++ event.Pick seen pick ∷ before
  pub taken : TakesCommand rules before pick i (verdict.BeginDelete qid)
  pub queue : Queue
  pub is_open : open_sq before qid ≡ Some queue
  pub region : queue.region ≡ r

-- after the completion of a command that deletes a queue nothing is fetched from the queue's region. It names the command and no event
-- that the command makes
abbrev pub NoneAfterDelete : FrontRules → Past → Type 0
NoneAfterDelete rules past = (i qid r : ℕ) → DeletesQueue rules past i qid r
    → (later before : Past) (c : ℕ) (cqe : Cqe) → past ≡ later ++ Post c 0 i cqe ∷ before → fetched past r ≡ fetched before r

-- a pick, after these events, takes a place: it is one of the oldest that wait, as many as the pick takes, of the queue that the pick names
pub record PicksPlace (before : Past) (pick : Pick) (r i : ℕ) : Type 0 where
  pub queue : Queue
  pub is_open : open_sq before pick.qid ≡ Some queue
  pub region : queue.region ≡ r
  pub position : ℕ
  pub among : position < pick.n
  pub stands : slice_get (waiting before r) position ≡ Some i

-- a pick took a place
pub record HasPick (past : Past) (r i : ℕ) : Type 0 where
  pub later : Past
  pub before : Past
  pub seen : List Seen
  pub pick : Pick
  pub stands : past ≡ later ++ event.Pick seen pick ∷ before
  pub takes : PicksPlace before pick r i

-- no two picks take one place
abbrev pub PickedOnce : Past → Type 0
PickedOnce past = (later middle before : Past) (seen others : List Seen) (pick first : Pick) (r i : ℕ)
    → past ≡ later ++ event.Pick seen pick ∷ (middle ++ event.Pick others first ∷ before)
    → PicksPlace before first r i → PicksPlace (middle ++ event.Pick others first ∷ before) pick r i → ⊥

-- no pick takes a place that is aborted
abbrev pub AbortedUnpicked : Past → Type 0
AbortedUnpicked past = (r i : ℕ) → is_aborted past r i ≡ true → HasPick past r i → ⊥

-- the completion of a place comes after the pick that took it or after its abort
abbrev pub CompletedAfter : Past → Type 0
CompletedAfter past = (later before : Past) (c r i : ℕ) (cqe : Cqe) → past ≡ later ++ Post c r i cqe ∷ before
    → HasPick before r i ⊎ (is_aborted before r i ≡ true)

-- what a run promises, sentence by sentence
pub record KeepsThePromiseBy (rules : FrontRules) (executor : Executor) (sent : ℕ → List Sqe) (past : Past) (collected : ℕ → List Cqe) : Type 0 where
  -- the commands fetched from each submission queue are a prefix of those submitted to it, in order, each once
  pub fetched_in_order : (r : ℕ) → IsPrefix (fetched past r) (sent r)
  -- none is fetched after the deletion of its queue began
  pub none_after_deletion : (later before : Past) (qid r : ℕ) → past ≡ later ++ Closing qid r ∷ before → fetched past r ≡ fetched before r
  -- and none after the completion of the command that began it was posted
  pub none_after_answer : (later middle before : Past) (qid r c i : ℕ) (cqe : Cqe) → past ≡ later ++ Post c 0 i cqe ∷ (middle ++ Closing qid r ∷ before)
      → latest_admin_place before ≡ Some i → fetched past r ≡ fetched (middle ++ Closing qid r ∷ before) r
  -- every fetched command has exactly one collected completion, its own
  pub one_completion : (r i : ℕ) → i < length (fetched past r) → HasOneCompletionBy rules executor past collected r i
  -- the picks are a lawful run of the configured arbitration
  pub lawful : IsLawfulRun rules.mechanism rules.start.settings (arbitration_of past)
  -- over what the arbiter observed: the open queues, each with its number of candidates
  pub observed : Each Observed past
  -- queues open and close, settings change and commands are aborted by admin commands alone: what one makes stands whole right after its
  -- pick, and nowhere else
  pub effects_at_once : Each (EffectsAtOnce rules) past
  pub effects_whole : effects_since past ≡ made_last rules past
  -- none is fetched from a queue after the command that deletes it was answered
  pub none_after_delete : NoneAfterDelete rules past
  -- nothing is collected but the completions that were posted
  pub nothing_else : (c : ℕ) → collected c ≡ posted_to past c
  -- each command is executed once, and answered afterwards. A log has no event for an execution: it says that a command is picked once or
  -- aborted, never both, and that its completion comes afterwards
  pub picked_once : PickedOnce past
  pub aborted_unpicked : AbortedUnpicked past
  pub completed_after : CompletedAfter past

-- what a run of a front promises that executes commands by itself
abbrev pub KeepsThePromise : FrontRules → (ℕ → List Sqe) → Past → (ℕ → List Cqe) → Type 0
KeepsThePromise rules sent past collected = KeepsThePromiseBy rules (by_outcome rules) sent past collected

abbrev pub WholeAccountsKeepThePromise : Type 0
WholeAccountsKeepThePromise = (rules : FrontRules) (loaded : Bool) (scripts sent : ℕ → List Sqe) (past : Past) (collected : ℕ → List Cqe)
    → IsWholeAccount rules loaded scripts sent past collected → KeepsThePromise rules sent past collected

-- a place was picked once, or it was aborted and never picked; and each completion of it comes afterwards
pub record IsServedOnce (past : Past) (r i : ℕ) : Type 0 where
  pub served : (HasPick past r i × (is_aborted past r i ≡ false)) ⊎ ((is_aborted past r i ≡ true) × (HasPick past r i → ⊥))
  pub one_pick : (p q : HasPick past r i) → p.before ≡ q.before
  pub answered_after : (later before : Past) (c : ℕ) (cqe : Cqe) → past ≡ later ++ Post c r i cqe ∷ before → HasPick before r i ⊎ (is_aborted before r i ≡ true)

-- it is so of each fetched command, by the promise alone
abbrev pub PromisesServeOnce : Type 0
PromisesServeOnce = (rules : FrontRules) (sent : ℕ → List Sqe) (past : Past) (collected : ℕ → List Cqe) → KeepsThePromise rules sent past collected
    → (r i : ℕ) → i < length (fetched past r) → IsServedOnce past r i

-- with its regions alone a front has just the admin queues
pub record StartsWithAdmin (rules : FrontRules) : Type 0 where
  pub sq : (q : ℕ) → open_sq [] q ≡ as_open (sq_at rules.start rules.regions q)
  pub cq : (q : ℕ) → open_cq [] q ≡ cq_at rules.start rules.regions q

-- the queues of a log are those of a table history: the open submission queues with their regions, completion queues and classes, and the
-- open completion queues with their regions
pub record QueuesAre (rules : FrontRules) (history : TableHistory) (past : Past) : Type 0 where
  pub sq : (q : ℕ) → open_sq past q ≡ as_open (sq_at rules.start history q)
  pub cq : (q : ℕ) → open_cq past q ≡ cq_at rules.start history q

-- the queues that an accounted log opens and closes are those of its table history
abbrev pub QueuesAreTheTables : Type 0
QueuesAreTheTables = (rules : FrontRules) (sent : ℕ → List Sqe) (past : Past) (collected : ℕ → List Cqe)
    → StartsWithAdmin rules → IsAccount rules sent past collected → QueuesAre rules (table_history rules past) past

-- the last outstanding place may be taken, and no place more
pub record TakesThePlace (rules : FrontRules) (past : Past) (e : Event) : Type 0 where
  pub last : outstanding rules (e ∷ past) ≡ max_outstanding → LeavesPlaces rules past e
  pub one_more : outstanding rules (e ∷ past) ≡ max_outstanding + 1 → LeavesPlaces rules past e → ⊥

-- by a pick and by an abort
pub record PlacesAreTaken (rules : FrontRules) (past : Past) : Type 0 where
  pub by_pick : (seen : List Seen) (pick : Pick) → TakesThePlace rules past (event.Pick seen pick)
  pub by_abort : (r i : ℕ) → TakesThePlace rules past (event.Abort r i)
