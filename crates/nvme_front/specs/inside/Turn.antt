-- What the parts of a turn leave (profile).
use Rattle.std.specs.Prelude.{◌≡◌, ◌≢◌, ◌+◌, ◌<◌, ◌≤◌, Bool, true, false, List, [], ◌∷◌, ◌++◌, length, Option, Some, None, IfSome, IsSome}
use Rattle.std.specs.List.{All}
use Rattle.nvme_pool.specs.Seat.{IsUnknown}
use Rattle.nvme_arbiter.specs.declared.pick.Pick.{Pick}
use Rattle.nvme_arbiter.specs.declared.pick.Seen.{Seen}
use Rattle.nvme_log.specs.declared.event.Event.{Event}
use Rattle.nvme_log.specs.declared.event.Event.TheVariants as event
use Rattle.nvme_jobs.specs.Balance.{Balances}
use Rattle.nvme_log.specs.Limits.{admin_events}
use Rattle.nvme_log.specs.Histories.{picks_in}
use Rattle.nvme_front.specs.declared.front.Step.{Step}
use Rattle.nvme_front.specs.declared.front.Step.TheVariants.{Picked, Moved, Idle, Stalled}
use Rattle.nvme_front.specs.declared.state.FrontState.{FrontState}
use Rattle.nvme_front.specs.inside.Goes.{IsSame, AllScanned}
use Rattle.nvme_front.specs.inside.State.{past_of, rules_of, view_of}
use Rattle.nvme_log.specs.Queues.{Deletion, pending}
use Rattle.nvme_front.specs.View.{HasMoved, HasNoPickMore, HasUnposted, NoneCanBePosted, HasPlaces, LacksPlaces, next_lawful}

-- each result that was gained since an earlier time is of a job that waited for it then or was handed over since, and waits no longer
abbrev pub Balanced : FrontState → FrontState → Type 0
Balanced old new = Balances old.config.spaces old.jobs.hands new.jobs.hands []

-- nothing changed, no result is known to come, and each completion region is drained
pub record IsQuiet (old new : FrontState) : Type 0 where
  pub same : IsSame old new
  pub none_gained : All IsUnknown old.jobs.hands.seat.ends
  pub drained : NoneCanBePosted (view_of old)

-- what a turn did before it looked for commands
abbrev pub HasDone : Bool → FrontState → FrontState → Type 0
HasDone true old new = HasMoved (view_of old) (view_of new)
HasDone false old new = IsQuiet old new

-- the pending deletion waits for a completion, or no queue gives a command and no pick is next
abbrev pub IsWaiting : FrontState → Option Deletion → Type 0
IsWaiting s (Some deletion) = HasUnposted (past_of s) deletion.region
IsWaiting s None = AllScanned s × (next_lawful (view_of s) ≡ None)

-- the next pick needs more places than are free
abbrev pub NeedsPlaces : FrontState → Type 0
NeedsPlaces s = IfSome (next_lawful (view_of s)) (LacksPlaces (rules_of s) (past_of s)) × IsSome (next_lawful (view_of s))

-- the log has too few free events for the admin pick that is next, whose places are free
abbrev pub LacksAdminEvents : FrontState → Type 0
LacksAdminEvents s =
    (s.config.max_events < length s.log.items + admin_events)
    × IfSome (next_lawful (view_of s)) (λ (pick : Pick). (pick.qid ≡ 0) × HasPlaces (rules_of s) (past_of s) pick) × IsSome (next_lawful (view_of s))

-- the pending deletion was finished, which is logged
pub record Finishes (old new : FrontState) : Type 0 where
  pub deletion : Deletion
  pub was_pending : pending (past_of old) ≡ Some deletion
  pub log_is : new.log.items ≡ old.log.items ++ event.ClosedSq deletion.qid deletion.region ∷ []

-- what a turn did with the pending deletion, or with the queues where none is pending
abbrev pub Proceeds : Step → FrontState → FrontState → Type 0
Proceeds Picked old new = picks_in new.log.items ≡ picks_in old.log.items + 1
Proceeds Moved old new = (length old.log.items < length new.log.items) × HasNoPickMore (view_of old) (view_of new)
Proceeds Idle old new = IsSame old new × IsWaiting old (pending (past_of old))
Proceeds Stalled old new = IsSame old new × NeedsPlaces old

-- the answer after something was done before it, or nothing: a pick stays a pick
abbrev pub told_after : Bool → Step → Step
told_after false step = step
told_after true Picked = Picked
told_after true Moved = Moved
told_after true Idle = Moved
told_after true Stalled = Moved

-- the log went on with a pick, whose places were free, with what an admin command made of it behind, for which the log had room
pub record IsPickOf (old new : FrontState) : Type 0 where
  pub seen : List Seen
  pub pick : Pick
  pub after : List Event
  pub log_is : new.log.items ≡ old.log.items ++ event.Pick seen pick ∷ after
  pub room : pick.qid ≡ 0 → length old.log.items + admin_events ≤ old.config.max_events
  pub places : HasPlaces (rules_of old) (past_of old) pick
  pub cqs : new.cqs.items ≡ old.cqs.items
  -- an I/O pick makes no completion ready
  pub posted : pick.qid ≢ 0 → NoneCanBePosted (view_of old) → NoneCanBePosted (view_of new)
