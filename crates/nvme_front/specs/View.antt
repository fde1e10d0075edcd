-- What a contract sees of a front, and what its answers mean (profile; Base Specification, Submission Queue and Completion Queue, Command Arbitration).
use Rattle.std.specs.Prelude.{◌≡◌, ◌≢◌, ◌⊎◌, ℕ, ◌+◌, ◌<◌, ◌≤◌, ◌==◌, ◌&&◌, ◌||◌, Bool, true, false, List, [], ◌∷◌, ◌++◌, length, map, Option, Some, None, IfSome, slice_index_or, reverse}
use Rattle.std.specs.List.{All, list_any}
use mathlib.Core.List.{IsPrefix}
use Rattle.nvme_entry.specs.declared.submission.Sqe.{Sqe}
use Rattle.nvme_entry.specs.declared.completion.Cqe.{Cqe}
use Rattle.nvme_lane.specs.View.{GetView, PutView}
use Rattle.nvme_pool.specs.declared.jobs.Finished.{Finished}
use Rattle.nvme_pool.specs.Seat.{SameSeat, Ends, IsUnknown}
use Rattle.nvme_arbiter.specs.Lawful.{lawful_pick}
use Rattle.nvme_arbiter.specs.declared.pick.Pick.{Pick}
use Rattle.nvme_arbiter.specs.declared.pick.Seen.{Seen}
use Rattle.nvme_log.specs.declared.event.Event.{Event}
use Rattle.nvme_log.specs.declared.event.Event.TheVariants as event
use Rattle.nvme_front.specs.declared.front.Step.{Step}
use Rattle.nvme_front.specs.declared.front.Step.TheVariants.{Picked, Moved, Idle, Stalled}
use Rattle.nvme_front.specs.declared.front.FrontError.{FrontError}
use Rattle.nvme_front.specs.declared.front.FrontError.TheVariants.{NoMemory, LogFull, Stray}
use Rattle.nvme_log.specs.Limits.{max_outstanding, admin_events}
use Rattle.nvme_log.specs.Rules.{FrontRules, Past, window_at}
use Rattle.nvme_log.specs.Queues.{Queue, Deletion, open_sq, pending, cq_region_of}
use Rattle.nvme_log.specs.Places.{fetched, waiting, observation_of, is_served}
use Rattle.nvme_log.specs.Histories.{arbitration_of, picks_in}
use Rattle.nvme_log.specs.Completions.{is_posted, posted_to, outstanding}
use Rattle.nvme_log.specs.Aborts.{is_index, places_for}
use Rattle.nvme_log.specs.Account.{IsAccount, deleting_place}
use Rattle.nvme_jobs.specs.Hands.{Hands, IsOfNone, is_in_hand, gained_count}
use Rattle.nvme_jobs.specs.Balance.{Balances}
use Rattle.nvme_front.specs.Regions.{sq_steps, cq_steps}
use Rattle.nvme_front.specs.Ends.{get_place, put_place}

pub record FrontView : Type 0 where
  -- what the front was given: mechanism, limits, first settings, namespaces and regions
  pub rules : FrontRules
  -- the most events of its log
  pub limit : ℕ
  -- a region was added after the first event
  pub late : Bool
  -- what the front did, the oldest event first
  pub log : List Event
  -- its ends, by region
  pub gets : List (GetView Sqe)
  pub puts : List (PutView Cqe)
  -- its seat at the workers, and the picked I/O commands that have no result yet
  pub hands : Hands

-- its log, the newest event first
abbrev pub past_in : FrontView → Past
past_in v = reverse v.log

-- what was got and is known to come in a submission region, and what was put and is known to be free in a completion region; nothing where
-- there is no such region
abbrev pub got_in : FrontView → ℕ → List Sqe
got_in v r = slice_index_or (map (λ (g : GetView Sqe). g.got) v.gets) r []

abbrev pub known_in : FrontView → ℕ → List Sqe
known_in v r = slice_index_or (map (λ (g : GetView Sqe). g.known) v.gets) r []

abbrev pub sent_in : FrontView → ℕ → List Cqe
sent_in v c = slice_index_or (map (λ (p : PutView Cqe). p.sent) v.puts) c []

abbrev pub free_in : FrontView → ℕ → ℕ
free_in v c = slice_index_or (map (λ (p : PutView Cqe). p.free) v.puts) c 0

-- the log accounts for the front's own ends: all that was got is fetched, and all that was put is posted
pub record AccountsForEnds (v : FrontView) : Type 0 where
  pub account : IsAccount v.rules (got_in v) (past_in v) (sent_in v)
  pub all_fetched : (r : ℕ) → fetched (past_in v) r ≡ got_in v r
  pub all_posted : (c : ℕ) → posted_to (past_in v) c ≡ sent_in v c

-- the same front later on: the same regions, rules and seat, and a log that begins with the old one
pub record GoesOn (old new : FrontView) : Type 0 where
  pub grew : IsPrefix old.log new.log
  pub rules : new.rules ≡ old.rules
  pub limit : new.limit ≡ old.limit
  pub late : new.late ≡ old.late
  pub gets : map get_place new.gets ≡ map get_place old.gets
  pub puts : map put_place new.puts ≡ map put_place old.puts
  -- what was got from a submission region and was known to come next, in this order
  pub comes : (r : ℕ) → IsPrefix (got_in old r ++ known_in old r) (got_in new r ++ known_in new r)
  pub came : new.hands.came ≡ old.hands.came
  pub seat : SameSeat old.hands.seat new.hands.seat

-- ---- what a turn's answer means
-- a place was picked or aborted, has no completion posted, doesn't wait for its result, and isn't that of the command whose deletion is
-- pending
pub record IsReadyPlace (v : FrontView) (r i : ℕ) : Type 0 where
  pub served : is_served (past_in v) r i ≡ true
  pub unposted : is_posted (past_in v) r i ≡ false
  pub has_result : is_in_hand v.hands r i ≡ false
  pub not_deleting : (r == 0 && is_index i (deleting_place (past_in v))) ≡ false

-- no ready completion has a ring that is known to have a free place
abbrev pub NoneCanBePosted : FrontView → Type 0
NoneCanBePosted v = (r i : ℕ) → IsReadyPlace v r i → (c : ℕ) → cq_region_of (past_in v) r ≡ Some c → free_in v c ≡ 0

-- a place of a region was picked or aborted and has no completion posted
pub record HasUnposted (past : Past) (r : ℕ) : Type 0 where
  pub index : ℕ
  pub served : is_served past r index ≡ true
  pub unposted : is_posted past r index ≡ false

-- nothing waits for a front: a deletion waits for a completion, or no open queue has a candidate or a command that is known to come
abbrev pub WaitsForNothing : FrontView → Option Deletion → Type 0
WaitsForNothing v (Some deletion) = HasUnposted (past_in v) deletion.region
WaitsForNothing v None = (q : ℕ) (queue : Queue) → open_sq (past_in v) q ≡ Some queue → (waiting (past_in v) queue.region ≡ []) × (known_in v queue.region ≡ [])

pub record IsIdleFront (v : FrontView) : Type 0 where
  pub nothing : WaitsForNothing v (pending (past_in v))
  pub none_posted : NoneCanBePosted v
  pub none_gained : All IsUnknown v.hands.seat.ends

-- the pick that arbitration makes next
abbrev pub next_lawful : FrontView → Option Pick
next_lawful v = lawful_pick v.rules.mechanism v.rules.start.settings (arbitration_of (past_in v)) (observation_of (past_in v))

-- after these events the places of a pick are free, or it needs more places than are free
abbrev pub HasPlaces : FrontRules → Past → Pick → Type 0
HasPlaces rules past pick = outstanding rules past + places_for past pick ≤ max_outstanding

abbrev pub LacksPlaces : FrontRules → Past → Pick → Type 0
LacksPlaces rules past pick = max_outstanding < outstanding rules past + places_for past pick

-- the next pick needs more places than are free
pub record IsStalledFront (v : FrontView) : Type 0 where
  pub pick : Pick
  pub next : next_lawful v ≡ Some pick
  pub too_many : LacksPlaces v.rules (past_in v) pick
  pub none_posted : NoneCanBePosted v
  pub none_gained : All IsUnknown v.hands.seat.ends

-- the log has too few free events for the admin command that arbitration picks next, where no deletion is pending and its places are free
pub record NeedsAdminEvents (v : FrontView) : Type 0 where
  pub pick : Pick
  pub none_pending : pending (past_in v) ≡ None
  pub next : next_lawful v ≡ Some pick
  pub of_admin : pick.qid ≡ 0
  pub place : HasPlaces v.rules (past_in v) pick
  pub too_few : v.limit < length v.log + admin_events

abbrev pub IsFullLog : FrontView → Type 0
IsFullLog v = (v.limit < length v.log + 1) ⊎ NeedsAdminEvents v

-- the log has as many picks as before
abbrev pub HasNoPickMore : FrontView → FrontView → Type 0
HasNoPickMore old new = picks_in new.log ≡ picks_in old.log

-- an event was logged, a job was handed over, or a result was gained
abbrev pub HasMoved : FrontView → FrontView → Type 0
HasMoved old new =
    (length old.log < length new.log)
    ⊎ (length old.hands.seat.handed < length new.hands.seat.handed)
    ⊎ (gained_count old.hands < gained_count new.hands)

-- no event was logged, no job was handed over, and no result was gained
pub record IsStill (old new : FrontView) : Type 0 where
  pub log : new.log ≡ old.log
  pub hands : new.hands ≡ old.hands

-- each result that was gained since an earlier time is of a job that waited for it then or was handed over since, and waits no longer
abbrev pub HasNoStray : FrontView → FrontView → Type 0
HasNoStray old new = Balances old.rules.sizes old.hands new.hands []

-- a result with this ticket was gained, the last of its end, and it belongs to no job that was handed over and has no result. It is the only stray
pub record GainedStray (ticket : ℕ) (old new : FrontView) : Type 0 where
  pub result : Finished
  pub ticket_is : result.ticket ≡ ticket
  pub more : gained_count old.hands < gained_count new.hands
  pub before : Ends
  pub end : GetView Finished
  pub after : Ends
  pub got : List Finished
  pub ends_are : new.hands.seat.ends ≡ before ++ end ∷ after
  pub last : end.got ≡ got ++ result ∷ []
  pub of_none : IsOfNone new.rules.sizes new.hands.running result
  pub stray : Balances old.rules.sizes old.hands new.hands (result ∷ [])

-- what an answer means
abbrev pub StepMeans : Step → FrontView → FrontView → Type 0
StepMeans Picked old new = picks_in new.log ≡ picks_in old.log + 1
StepMeans Moved old new = HasMoved old new × HasNoPickMore old new
StepMeans Idle old new = IsIdleFront new × IsStill old new
StepMeans Stalled old new = IsStalledFront new × IsStill old new

abbrev pub ErrorMeans : FrontError → FrontView → FrontView → Type 0
ErrorMeans NoMemory old new = HasNoPickMore old new × HasNoStray old new
ErrorMeans LogFull old new = IsFullLog new × HasNoPickMore old new × HasNoStray old new
ErrorMeans (Stray ticket) old new = GainedStray ticket old new × HasNoPickMore old new

-- ---- executions
-- no command that has no result yet has its completion posted
abbrev pub NoneInHandPosted : FrontView → Type 0
NoneInHandPosted v = (r i : ℕ) → is_in_hand v.hands r i ≡ true → is_posted (past_in v) r i ≡ false

-- ---- how far a turn goes
-- the window of an open queue is full, or nothing is known to come for it
abbrev pub IsFilled : FrontView → Past → Queue → Type 0
IsFilled v past queue = (window_at v.rules queue.region ≤ length (waiting past queue.region)) ⊎ (known_in v queue.region ≡ [])

-- so it is with each open queue of a log
abbrev pub AreFilled : FrontView → Past → Type 0
AreFilled v past = (q : ℕ) (queue : Queue) → open_sq past q ≡ Some queue → IsFilled v past queue

-- no pick can be made: arbitration has none next, or the next one needs more places than are free
abbrev pub NoneCanBePicked : FrontView → Type 0
NoneCanBePicked v = IfSome (next_lawful v) (LacksPlaces v.rules (past_in v))

-- the one pick of a turn, made when each window was filled, no ready completion could be posted and its places were free. The pick of an admin
-- command had the events that its effect may need
pub record PicksOne (old new : FrontView) : Type 0 where
  pub before : List Event
  pub seen : List Seen
  pub pick : Pick
  pub after : List Event
  pub log_is : new.log ≡ before ++ event.Pick seen pick ∷ after
  pub since : IsPrefix old.log before
  pub first : picks_in before ≡ picks_in old.log
  pub room : pick.qid ≡ 0 → length before + admin_events ≤ new.limit
  pub places : HasPlaces new.rules (reverse before) pick
  pub filled : AreFilled new (reverse before)
  pub posted : pick.qid ≢ 0 → NoneCanBePosted new

-- where no deletion was pending each window is filled and no pick can be made; where none was finished no ready completion can be posted;
-- and a deletion that is pending waits for a completion
pub record EndsSteps (old new : FrontView) : Type 0 where
  pub filled : pending (past_in old) ≡ None → AreFilled new (past_in new)
  pub unpicked : pending (past_in old) ≡ None → NoneCanBePicked new
  pub posted : pending (past_in new) ≡ pending (past_in old) → NoneCanBePosted new
  pub waits : (deletion : Deletion) → pending (past_in new) ≡ Some deletion → HasUnposted (past_in new) deletion.region

-- each step of a turn went on as far as it could
abbrev pub GoesToEnd : Step → FrontView → FrontView → Type 0
GoesToEnd Picked old new = PicksOne old new
GoesToEnd Moved old new = EndsSteps old new
GoesToEnd Idle old new = EndsSteps old new
GoesToEnd Stalled old new = EndsSteps old new

-- the regions of a front's rules are those of its ends
abbrev pub HasItsRegions : FrontView → Type 0
HasItsRegions v = v.rules.regions ≡ cq_steps v.puts ++ sq_steps v.gets

-- ---- clear fronts, and served regions
-- an address is that of a region of either kind
abbrev pub is_address : FrontView → ℕ → Bool
is_address v address = list_any (λ (g : GetView Sqe). g.address == address) v.gets || list_any (λ (p : PutView Cqe). p.address == address) v.puts
