-- Accounts where anything may execute the picked I/O commands: which of them are those of a front that executes by itself, and the laws
-- that hold whatever executes (profile).
use Rattle.std.specs.Prelude.{◌≡◌, ◌≢◌, ◌↔◌, ℕ, ◌*◌, ◌<◌, ◌≤◌, Bool, true, List, [], ◌∷◌, ◌++◌, length, take, reverse, Some, slice_get}
use Rattle.std.specs.List.{All}
use Rattle.nvme_entry.specs.declared.submission.Sqe.{Sqe}
use Rattle.nvme_entry.specs.declared.completion.Cqe.{Cqe}
use Rattle.nvme_arbiter.specs.declared.pick.Seen.{Seen}
use Rattle.nvme_arbiter.specs.declared.pick.Pick.{Pick}
use Rattle.nvme_admin.specs.Accepted.{status_of}
use Rattle.nvme_admin.specs.declared.verdict.Verdict.TheVariants as verdict
use Rattle.nvme_log.specs.declared.event.Event.TheVariants as event
use Rattle.nvme_log.specs.Rules.{Past, FrontRules}
use Rattle.nvme_log.specs.Places.{fetched, fate_of, is_picked, is_aborted, entry_at}
use Rattle.nvme_log.specs.declared.place.Place.{Place}
use Rattle.nvme_log.specs.Histories.{table_history}
use Rattle.nvme_log.specs.Answers.{Executor, Answers, by_answers, outcomes}
use Rattle.nvme_log.specs.Completions.{is_posted, posts_of}
use Rattle.nvme_log.specs.Dispatches.{place_at, dispatched}
use Rattle.nvme_log.specs.Account.{IsAccount, IsAccountBy, IsWholeAccountBy, latest_admin_place}
use Rattle.nvme_log.specs.Bounds.{events_each, sent_below}
use Rattle.nvme_log.specs.AbortLaws.{TakesCommand, TellsAbort, TakesOldest, TellsFound}
use Rattle.nvme_log.specs.Laws.{StartsWithAdmin, QueuesAre, NoneAfterDelete, AbortedUnpicked, CompletedAfter, IsServedOnce}
use Rattle.nvme_log.specs.Laws.{AccountsSoFarBy, IsAnsweredBy, KeepsThePromiseBy}
use Rattle.nvme_log.specs.Foreseen.{foreseen}

-- ---- answers and outcomes
-- a place has a picked I/O command whose completion was posted
pub record IsAnsweredPick (past : Past) (r i : ℕ) : Type 0 where
  pub of_io : r ≢ 0
  pub picked : is_picked (fate_of past r i) ≡ true
  pub posted : is_posted past r i ≡ true

-- two executors answer alike for each picked I/O command whose completion was posted
abbrev pub AnswerAlike : Past → Executor → Executor → Type 0
AnswerAlike past one other = (r i : ℕ) (entry : Sqe) → IsAnsweredPick past r i → entry_at past r i ≡ Some entry
    → one (place_at r i) entry ≡ other (place_at r i) entry

-- then what is accounted by one is accounted by the other
abbrev pub AccountsAnswerAlike : Type 0
AccountsAnswerAlike = (rules : FrontRules) (one other : Executor) (sent : ℕ → List Sqe) (past : Past) (collected : ℕ → List Cqe)
    → AnswerAlike past one other → IsAccountBy rules one sent past collected → IsAccountBy rules other sent past collected

-- a log is that of a front that executes by itself exactly where it is accounted by the outcomes of its commands
abbrev pub AccountsAnswerByOutcome : Type 0
AccountsAnswerByOutcome = (rules : FrontRules) (sent : ℕ → List Sqe) (past : Past) (collected : ℕ → List Cqe)
    → IsAccount rules sent past collected ↔ IsAccountBy rules (by_answers (outcomes rules past)) sent past collected

-- so is one that is accounted by answers which are the outcomes of the picked I/O commands whose completions were posted
abbrev pub AnswersByOutcomeAreAccounted : Type 0
AnswersByOutcomeAreAccounted = (rules : FrontRules) (answers : Answers) (sent : ℕ → List Sqe) (past : Past) (collected : ℕ → List Cqe)
    → ((r i : ℕ) → IsAnsweredPick past r i → answers (place_at r i) ≡ outcomes rules past (place_at r i))
    → IsAccountBy rules (by_answers answers) sent past collected → IsAccount rules sent past collected

-- ---- what holds whatever executes
-- what is said of an accounted log without a word of what executes. The fields are those of the promise, and the laws of accounts
pub record KeepsTheLaws (rules : FrontRules) (sent : ℕ → List Sqe) (past : Past) : Type 0 where
  -- no place has two completions, and each comes after the pick or the abort of its place
  pub one_post_each : (r i : ℕ) → posts_of past r i ≤ 1
  pub completed_after : CompletedAfter past
  pub aborted_unpicked : AbortedUnpicked past
  -- nothing is fetched from a queue after its deletion began, nor after the command that deletes it was answered
  pub none_after_deletion : (later before : Past) (qid r : ℕ) → past ≡ later ++ event.Closing qid r ∷ before → fetched past r ≡ fetched before r
  pub none_after_answer : (later middle before : Past) (qid r c i : ℕ) (cqe : Cqe) → past ≡ later ++ event.Post c 0 i cqe ∷ (middle ++ event.Closing qid r ∷ before)
      → latest_admin_place before ≡ Some i → fetched past r ≡ fetched (middle ++ event.Closing qid r ∷ before) r
  pub none_after_delete : NoneAfterDelete rules past
  -- a log is short (`LogsAreShort`)
  pub short : (n : ℕ) → ((r : ℕ) → n ≤ r → sent r ≡ []) → length past ≤ events_each * sent_below sent n
  -- queues are those of the table, and the statuses of admin commands are foreseen (`QueuesAreTheTables`, `AnswersAreForeseen`)
  pub queues : StartsWithAdmin rules → QueuesAre rules (table_history rules past) past
  pub statuses_foreseen : StartsWithAdmin rules → (later before : Past) (c k : ℕ) (cqe : Cqe) (entry : Sqe) → past ≡ later ++ event.Post c 0 k cqe ∷ before
      → slice_get (sent 0) k ≡ Some entry → cqe.status ≡ status_of rules.start (foreseen rules.start rules.regions (reverse (take k (sent 0)))) entry
  -- who is aborted, and what each is told (`AbortLaws`)
  pub aborted_not_dispatched : (r i : ℕ) → is_aborted past r i ≡ true → All (λ (p : Place). p ≢ place_at r i) (dispatched past)
  pub admin_not_aborted : (i : ℕ) → is_aborted past 0 i ≢ true
  pub aborted_told : (r i : ℕ) → is_aborted past r i ≡ true → TellsAbort rules past r i
  pub aborts_take : (later before : Past) (seen : List Seen) (pick : Pick) (i sqid cid : ℕ) → past ≡ later ++ event.Pick seen pick ∷ before
      → TakesCommand rules before pick i (verdict.Abort sqid cid) → TakesOldest later before sqid cid
  pub aborts_told : (later before : Past) (seen : List Seen) (pick : Pick) (i sqid cid : ℕ) → past ≡ later ++ event.Pick seen pick ∷ before
      → TakesCommand rules before pick i (verdict.Abort sqid cid)
      → (rest earlier : Past) (c : ℕ) (cqe : Cqe) → past ≡ rest ++ event.Post c 0 i cqe ∷ earlier → TellsFound later cqe

-- every accounted log keeps them
abbrev pub AccountsKeepTheLaws : Type 0
AccountsKeepTheLaws = (rules : FrontRules) (executor : Executor) (sent : ℕ → List Sqe) (past : Past) (collected : ℕ → List Cqe)
    → IsAccountBy rules executor sent past collected → KeepsTheLaws rules sent past

-- the events up to any of them are accounted as far as they have come
abbrev pub PrefixesAreAccountedBy : Type 0
PrefixesAreAccountedBy = (rules : FrontRules) (executor : Executor) (sent : ℕ → List Sqe) (later past : Past) (collected : ℕ → List Cqe)
    → IsAccountBy rules executor sent (later ++ past) collected → AccountsSoFarBy rules executor sent past

-- a whole account answers each command, and keeps the promise of a run
abbrev pub WholeAccountsAnswerBy : Type 0
WholeAccountsAnswerBy = (rules : FrontRules) (executor : Executor) (loaded : Bool) (scripts sent : ℕ → List Sqe) (past : Past) (collected : ℕ → List Cqe)
    → IsWholeAccountBy rules executor loaded scripts sent past collected → IsAnsweredBy rules executor sent past collected

abbrev pub WholeAccountsKeepThePromiseBy : Type 0
WholeAccountsKeepThePromiseBy = (rules : FrontRules) (executor : Executor) (loaded : Bool) (scripts sent : ℕ → List Sqe) (past : Past) (collected : ℕ → List Cqe)
    → IsWholeAccountBy rules executor loaded scripts sent past collected → KeepsThePromiseBy rules executor sent past collected

-- and by the promise alone each fetched command is served once
abbrev pub PromisesServeOnceBy : Type 0
PromisesServeOnceBy = (rules : FrontRules) (executor : Executor) (sent : ℕ → List Sqe) (past : Past) (collected : ℕ → List Cqe)
    → KeepsThePromiseBy rules executor sent past collected → (r i : ℕ) → i < length (fetched past r) → IsServedOnce past r i
