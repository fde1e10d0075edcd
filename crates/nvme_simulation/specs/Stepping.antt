-- What a step makes happen. (profile)
use Rattle.std.specs.Prelude.{◌≡◌, ◌≤◌, ◌⊎◌, Bool}
use Rattle.nvme_log.specs.Rules.{FrontRules}
use Rattle.nvme_ctrl_log.specs.Notes.{Notes}
use Rattle.nvme_simulation.specs.Counts.{Counts}
use Rattle.nvme_simulation.specs.Passing.{Passes}
use Rattle.nvme_simulation.specs.Picks.{IsLawful, IsTimed}
use Rattle.nvme_simulation.specs.Planning.{StepPlans}
use Rattle.nvme_simulation.specs.Plans.{IsNext, events_of, picks_behind}
use Rattle.nvme_simulation.specs.Quiet.{NotesAs}
use Rattle.nvme_simulation.specs.Simulations.{IsSameModel, StandsAt, counts_next, end_of, hosts_of, may_come_to, occupancy_of, picks_of, room_at, time_of}
use Rattle.nvme_simulation.specs.Steps.{IsStepLess}
use Rattle.nvme_simulation.specs.declared.happening.Happening.{Happening}
use Rattle.nvme_simulation.specs.declared.happening.Happening.TheVariants.{Settled}
use Rattle.nvme_simulation.specs.declared.simulation.Simulation.{Simulation}

pub record HasStepped (before after : Simulation) (h : Happening) : Type 0 where
  -- the same model is simulated, and time never falls
  pub same : IsSameModel before after
  pub forward : time_of before ≤ time_of after
  -- a pick, or the first event, and what is planned then
  pub next : IsNext (picks_of before) (events_of before.machine.agenda) (events_of after.machine.agenda) h
  pub picks : picks_of after ≡ picks_behind h (picks_of before)
  -- it is told with its time
  pub timed : IsTimed (time_of after) h
  -- how many came and are done
  pub counts : Counts (end_of before) (time_of after) (occupancy_of before) (occupancy_of after) h
  -- how far each command is, the times at which it comes to its stages, and what it asks for
  pub passes : Passes (may_come_to before (time_of after)) (counts_next before) (time_of after) (hosts_of before) (hosts_of after) h
  -- the events that are planned, which commands are picked and start, and what the controller reads
  pub plans : StepPlans h before after
  -- a pick is the lawful one, and it is told that there is none only where the device is full or no command waits
  pub lawful : (rules : FrontRules) (late : Bool) (notes : Notes) → StandsAt rules late notes before → IsLawful rules notes (room_at before) h
  -- what the controller notes
  pub notes : NotesAs h before.machine.front after.machine.front
  -- fewer steps are left
  pub falls : IsStepLess before after h

-- a step makes it happen, or does so behind one that tells that no command can be picked
abbrev pub GoesOn : (before after : Simulation) → Happening → Type 0
GoesOn before after h =
    HasStepped before after h ⊎ ((mid : Simulation) × (HasStepped before mid Settled × HasStepped mid after h))
