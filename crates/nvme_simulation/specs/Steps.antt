-- How many steps a simulation has left. (profile)
use Rattle.std.specs.Prelude.{◌≡◌, ◌⊎◌, ◌<◌, ℕ, ◌+◌, ◌-◌, ◌*◌, if◌then◌else◌, Option, Some, None, sum_by}
use Rattle.nvme_clock.specs.declared.events.Event.{Event as Timed}
use Rattle.nvme_simulation.specs.Devices.{room_in}
use Rattle.nvme_simulation.specs.Plans.{events_of}
use Rattle.nvme_simulation.specs.declared.agenda.Agenda.{Agenda}
use Rattle.nvme_simulation.specs.declared.agenda.Event.{Event}
use Rattle.nvme_simulation.specs.declared.agenda.Event.TheVariants.{Arrival, End, Pause, Resume}
use Rattle.nvme_simulation.specs.declared.happening.Happening.{Happening}
use Rattle.nvme_simulation.specs.declared.happening.Happening.TheVariants.{Over, Picked}
use Rattle.nvme_simulation.specs.declared.machine.Machine.{Machine}
use Rattle.nvme_simulation.specs.declared.simulation.Simulation.{Simulation}

-- what an event costs of the steps that are left: itself and the look for a pick behind it. A channel pauses and goes on later and later, until time is over
abbrev pub cost : (at : ℕ) → Event → ℕ
cost at (Arrival qid) = 2
cost at (End channel) = 2
cost at (Pause channel) = 4 * (0x1_0000_0000_0000_0000 - at)
cost at (Resume channel) = 4 * (0x1_0000_0000_0000_0000 - at)

-- where it is planned
abbrev pub cost_at : Option ℕ → Event → ℕ
cost_at None event = 0
cost_at (Some at) event = cost at event

abbrev pub cost_of : Timed Event → ℕ
cost_of e = cost e.at e.what

-- of the events to come
abbrev pub cost_in : Agenda → ℕ
cost_in a = sum_by cost_of (events_of a).events

-- and of the commands that the device has room for: each is a pick at most, and its end an event
abbrev pub cost_with : Machine → ℕ
cost_with m = cost_in m.agenda + 3 * room_in m.device

-- no more steps are left than this, until all is over: two for each event to come but pauses, nine for each command that is to come, and seven for each that came
-- and isn't done
abbrev pub steps_left : Simulation → ℕ
steps_left s =
    cost_with s.machine + (if s.picks then 1 else 0) + 9 * (s.end.commands - s.occupancy.came) + 7 * (s.occupancy.came - s.occupancy.left)

-- a pick takes a step of them at least
abbrev pub picked_in : Happening → ℕ
picked_in (Picked p) = 1
picked_in h = 0

-- a step less is left, or all is over
abbrev pub IsStepLess : (before after : Simulation) → Happening → Type 0
IsStepLess before after h = (h ≡ Over) ⊎ (steps_left after < steps_left before)
