-- What every accounted log says of Abort commands, in words of its events: who is aborted, and what each of them is told.
-- (Base Specification, Abort)
use Rattle.std.specs.Prelude.{◌≡◌, ◌≢◌, ℕ, ◌<◌, ◌⊎◌, true, List, [], ◌∷◌, ◌++◌, Some, slice_get}
use Rattle.std.specs.List.{All}
use Rattle.nvme_entry.specs.Status.{success, abort_requested, aborted_by_deletion}
use Rattle.nvme_entry.specs.declared.submission.Sqe.{Sqe}
use Rattle.nvme_entry.specs.declared.completion.Cqe.{Cqe}
use Rattle.nvme_arbiter.specs.declared.pick.Seen.{Seen}
use Rattle.nvme_arbiter.specs.declared.pick.Pick.{Pick}
use Rattle.nvme_admin.specs.Accepted.{verdict_of}
use Rattle.nvme_admin.specs.declared.verdict.Verdict.{Verdict}
use Rattle.nvme_admin.specs.declared.verdict.Verdict.TheVariants as verdict
use Rattle.nvme_log.specs.declared.event.Event.{Event}
use Rattle.nvme_log.specs.declared.event.Event.TheVariants as event
use Rattle.nvme_log.specs.Rules.{Past, FrontRules}
use Rattle.nvme_log.specs.Queues.{Queue, open_sq}
use Rattle.nvme_log.specs.Places.{Waits, waiting, entry_at, fate_of, is_aborted}
use Rattle.nvme_log.specs.declared.place.Place.{Place}
use Rattle.nvme_log.specs.Histories.{table_history, picks_in}
use Rattle.nvme_log.specs.Effects.{is_effect}
use Rattle.nvme_log.specs.Account.{IsAccount}
use Rattle.nvme_log.specs.Dispatches.{dispatched, place_at}

-- a pick, after these events, takes an admin command: its place, and its verdict
pub record TakesCommand (rules : FrontRules) (before : Past) (pick : Pick) (i : ℕ) (v : Verdict) : Type 0 where
  pub of_admin : pick.qid ≡ 0
  pub oldest : slice_get (waiting before 0) 0 ≡ Some i
  pub entry : Sqe
  pub is_there : entry_at before 0 i ≡ Some entry
  pub comes_to : verdict_of rules.start (table_history rules before) entry ≡ v

-- a place was aborted after the pick of an admin command, with no other pick between
pub record IsAbortedBy (rules : FrontRules) (past : Past) (v : Verdict) (r i : ℕ) : Type 0 where
  pub later : Past
  pub between : Past
  pub before : Past
  pub seen : List Seen
  pub pick : Pick
  pub stands : past ≡ later ++ event.Abort r i ∷ (between ++ event.Pick seen pick ∷ before)
  pub no_pick : picks_in between ≡ 0
  pub place : ℕ
  pub taken : TakesCommand rules before pick place v

-- ---- who isn't served
-- no worker ever gets a place that is aborted
abbrev pub AbortedAreNotDispatched : Type 0
AbortedAreNotDispatched = (rules : FrontRules) (sent : ℕ → List Sqe) (past : Past) (collected : ℕ → List Cqe)
    → IsAccount rules sent past collected → (r i : ℕ) → is_aborted past r i ≡ true → All (λ (p : Place). p ≢ place_at r i) (dispatched past)

-- no command of the admin queue is ever aborted
abbrev pub AdminIsNotAborted : Type 0
AdminIsNotAborted = (rules : FrontRules) (sent : ℕ → List Sqe) (past : Past) (collected : ℕ → List Cqe)
    → IsAccount rules sent past collected → (i : ℕ) → is_aborted past 0 i ≢ true

-- ---- what an aborted command is told
-- an aborted place was aborted by an Abort command, or with its queue by the command that began the deletion. The status of its completion
-- tells which, and Dword 0 is 0
pub record TellsAbort (rules : FrontRules) (past : Past) (r i : ℕ) : Type 0 where
  pub aborted_by : ((sqid : ℕ) × (cid : ℕ) × IsAbortedBy rules past (verdict.Abort sqid cid) r i) ⊎ ((qid : ℕ) × IsAbortedBy rules past (verdict.BeginDelete qid) r i)
  pub by_command : (sqid cid : ℕ) → IsAbortedBy rules past (verdict.Abort sqid cid) r i
      → (later before : Past) (c : ℕ) (cqe : Cqe) → past ≡ later ++ event.Post c r i cqe ∷ before → cqe.status ≡ abort_requested
  pub with_queue : (qid : ℕ) → IsAbortedBy rules past (verdict.BeginDelete qid) r i
      → (later before : Past) (c : ℕ) (cqe : Cqe) → past ≡ later ++ event.Post c r i cqe ∷ before → cqe.status ≡ aborted_by_deletion
  pub dw0 : (later before : Past) (c : ℕ) (cqe : Cqe) → past ≡ later ++ event.Post c r i cqe ∷ before → cqe.dw0 ≡ 0

abbrev pub AbortedAreTold : Type 0
AbortedAreTold = (rules : FrontRules) (sent : ℕ → List Sqe) (past : Past) (collected : ℕ → List Cqe)
    → IsAccount rules sent past collected → (r i : ℕ) → is_aborted past r i ≡ true → TellsAbort rules past r i

-- ---- what an Abort command takes
-- a waiting place with this command identifier, of the I/O queue that is open under an identifier, and none of that queue with it is older
pub record IsOldestNamed (before : Past) (sqid cid r i : ℕ) : Type 0 where
  pub of_io : sqid ≢ 0
  pub queue : Queue
  pub is_open : open_sq before sqid ≡ Some queue
  pub region : queue.region ≡ r
  pub waits : fate_of before r i ≡ Waits
  pub entry : Sqe
  pub is_there : entry_at before r i ≡ Some entry
  pub named : entry.cid ≡ cid
  pub oldest : (k : ℕ) (other : Sqe) → k < i → fate_of before r k ≡ Waits → entry_at before r k ≡ Some other → other.cid ≢ cid

-- an Abort command that was picked after `before` aborts just that place, and at once. What it makes is one abort at most: each effect of it
-- comes right after the pick
pub record TakesOldest (later before : Past) (sqid cid : ℕ) : Type 0 where
  pub at_once : (rest between : Past) (e : Event) → later ≡ rest ++ e ∷ between → picks_in between ≡ 0 → is_effect e ≡ true
      → (between ≡ []) × ((r : ℕ) × (i : ℕ) × (e ≡ event.Abort r i))
  pub takes : (rest : Past) (r i : ℕ) → later ≡ rest ++ event.Abort r i ∷ [] → IsOldestNamed before sqid cid r i
  pub finds : (r i : ℕ) → IsOldestNamed before sqid cid r i → (rest : Past) × (later ≡ rest ++ event.Abort r i ∷ [])

abbrev pub AbortsTakeTheOldest : Type 0
AbortsTakeTheOldest = (rules : FrontRules) (sent : ℕ → List Sqe) (past : Past) (collected : ℕ → List Cqe) → IsAccount rules sent past collected
    → (later before : Past) (seen : List Seen) (pick : Pick) (i sqid cid : ℕ) → past ≡ later ++ event.Pick seen pick ∷ before
    → TakesCommand rules before pick i (verdict.Abort sqid cid) → TakesOldest later before sqid cid

-- ---- what an Abort command is told
-- the completion of an Abort command says success, and by Dword 0 whether an abort followed its pick at once
pub record TellsFound (later : Past) (cqe : Cqe) : Type 0 where
  pub status : cqe.status ≡ success
  pub found : (rest : Past) (r i : ℕ) → later ≡ rest ++ event.Abort r i ∷ [] → cqe.dw0 ≡ 0
  pub none : ((rest : Past) (r i : ℕ) → later ≢ rest ++ event.Abort r i ∷ []) → cqe.dw0 ≡ 1

abbrev pub AbortsAreTold : Type 0
AbortsAreTold = (rules : FrontRules) (sent : ℕ → List Sqe) (past : Past) (collected : ℕ → List Cqe) → IsAccount rules sent past collected
    → (later before : Past) (seen : List Seen) (pick : Pick) (i sqid cid : ℕ) → past ≡ later ++ event.Pick seen pick ∷ before
    → TakesCommand rules before pick i (verdict.Abort sqid cid)
    → (rest earlier : Past) (c : ℕ) (cqe : Cqe) → past ≡ rest ++ event.Post c 0 i cqe ∷ earlier → TellsFound later cqe
