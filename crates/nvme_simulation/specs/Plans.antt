-- The events to come. (profile)
use Rattle.std.specs.Prelude.{◌≡◌, ℕ, zero, suc, ◌+◌, ◌*◌, ◌/◌, Bool, true, false, List, [], ◌∷◌, Option, Some, None}
use Rattle.nvme_clock.specs.Held.{Held, held, popped, pushed}
use Rattle.nvme_clock.specs.declared.events.Event.{Event as Timed}
use Rattle.nvme_simulation.specs.declared.agenda.Agenda.{Agenda}
use Rattle.nvme_simulation.specs.declared.agenda.Event.{Event}
use Rattle.nvme_simulation.specs.declared.agenda.Event.TheVariants.{Arrival, End, Pause, Resume}
use Rattle.nvme_simulation.specs.declared.happening.Happening.{Happening}
use Rattle.nvme_simulation.specs.declared.happening.Happening.TheVariants.{Came, Picked, Settled, Finished, Paused, Resumed, Over}

-- an event is planned for a time
pub record Plan : Type 0 where
  pub at : ℕ
  pub what : Event

-- after plans, the newest first
unfoldable pub planned : List Plan → Held Event → Held Event
planned [] h = h
planned (p ∷ ps) h = pushed p.at p.what (planned ps h)

-- events are planned, and none comes or is lost
pub record Follows (before after : Held Event) : Type 0 where
  pub plans : List Plan
  pub is : after ≡ planned plans before

-- so many commands come at a time, the first one planned first
unfoldable pub arrivals_at : (at qid : ℕ) → ℕ → List Plan
arrivals_at at qid zero = []
arrivals_at at qid (suc n) = record { at = at; what = Arrival qid } ∷ arrivals_at at qid n

-- the first pauses of so many of the channels of a device: spread over the time from one to the next
unfoldable pub first_pauses : (every count : ℕ) → ℕ → List Plan
first_pauses every count zero = []
first_pauses every count (suc k) = record { at = every * (k + 1) / count; what = Pause k } ∷ first_pauses every count k

abbrev pub events_of : Agenda → Held Event
events_of a = held a.events

-- the event that makes a thing happen: none makes a pick, nor the end
abbrev pub cause : Happening → Option Event
cause (Came queue) = Some (Arrival queue)
cause (Finished command counts) = Some (End command.channel)
cause (Paused channel) = Some (Pause channel)
cause (Resumed channel) = Some (Resume channel)
cause h = None

-- the first event comes, and events are planned. Where none is to come, all is over
abbrev pub IsFirst : Option (Timed Event) × Held Event → (after : Held Event) → Happening → Type 0
IsFirst (None, rest) after h = (h ≡ Over) × (after ≡ rest)
IsFirst (Some event, rest) after h = (cause h ≡ Some event.what) × Follows rest after

-- it is told that commands are picked, or that none can be
abbrev pub IsOfPicks : Happening → Type 0
IsOfPicks (Picked p) = Unit {0}
IsOfPicks Settled = Unit {0}
IsOfPicks h = ⊥

-- what comes next: picks, until it is told that there is none, and else the first event
abbrev pub IsNext : (picks : Bool) → (before after : Held Event) → Happening → Type 0
IsNext true before after h = IsOfPicks h × Follows before after
IsNext false before after h = IsFirst (popped before) after h

abbrev pub is_pick : Happening → Bool
is_pick (Picked p) = true
is_pick h = false

-- whether picks come behind what happens
abbrev pub picks_behind : Happening → Bool → Bool
picks_behind Settled before = false
picks_behind Over before = before
picks_behind h before = true
