-- What comes of an event. (profile)
use Rattle.std.specs.Prelude.{◌≡◌, ◌≤◌, ◌+◌, Some}
use Rattle.nvme_simulation.specs.Counts.{Counts}
use Rattle.nvme_simulation.specs.Machines.{Works}
use Rattle.nvme_simulation.specs.Passing.{Passes}
use Rattle.nvme_simulation.specs.Picks.{IsTimed}
use Rattle.nvme_simulation.specs.Planning.{PlansFor}
use Rattle.nvme_simulation.specs.Plans.{cause}
use Rattle.nvme_simulation.specs.Simulations.{counts_next, end_of, hosts_of, may_come_to, occupancy_of, time_of}
use Rattle.nvme_simulation.specs.Steps.{cost, steps_left}
use Rattle.nvme_simulation.specs.declared.agenda.Event.{Event}
use Rattle.nvme_simulation.specs.declared.happening.Happening.{Happening}
use Rattle.nvme_simulation.specs.declared.happening.Happening.TheVariants.{Over}
use Rattle.nvme_simulation.specs.declared.simulation.Simulation.{Simulation}

-- nothing else is changed, whatever comes of it
pub record Stays (before after : Simulation) : Type 0 where
  pub works : Works before.machine after.machine
  pub rest : after ≡ record before { machine = after.machine; occupancy = after.occupancy }

-- an event that came makes this happen
pub record Handles (event : Event) (before after : Simulation) (h : Happening) : Type 0 where
  pub tells : cause h ≡ Some event
  pub timed : IsTimed (time_of after) h
  pub counts : Counts (end_of before) (time_of after) (occupancy_of before) (occupancy_of after) h
  pub passes : Passes (may_come_to before (time_of after)) (counts_next before) (time_of after) (hosts_of before) (hosts_of after) h
  pub plans : PlansFor h before after
  pub cost : steps_left after + 2 ≤ steps_left before + cost (time_of before) event

-- no event is to come: all that came is done
abbrev pub IsOver : Simulation → Happening → Type 0
IsOver s h = (h ≡ Over) × Counts (end_of s) (time_of s) (occupancy_of s) (occupancy_of s) h × Passes (may_come_to s (time_of s)) (counts_next s) (time_of s) (hosts_of s) (hosts_of s) h
