-- Which events a step plans, and which commands are picked and start. (profile)
use Rattle.std.specs.Prelude.{◌≡◌, ◌&&◌, ℕ, Bool, true, false}
use Rattle.nvme_clock.specs.Held.{popped}
use Rattle.nvme_simulation.specs.Following.{ComesAndFollows, PlansIf, closed_in}
use Rattle.nvme_simulation.specs.Machines.{EndsAndStarts}
use Rattle.nvme_simulation.specs.Pausing.{GoesOnFor, PausesNow}
use Rattle.nvme_simulation.specs.Plans.{events_of}
use Rattle.nvme_simulation.specs.Progress.{AllGoOn, OneEnds}
use Rattle.nvme_simulation.specs.Reading.{HasRead}
use Rattle.nvme_simulation.specs.Resting.{AllRest}
use Rattle.nvme_simulation.specs.Rings.{HasSubmitted}
use Rattle.nvme_simulation.specs.Simulations.{counts_next, may_come_to, time_of}
use Rattle.nvme_simulation.specs.Taking.{PicksAsTold}
use Rattle.nvme_simulation.specs.Times.{now_of}
use Rattle.nvme_simulation.specs.declared.agenda.Agenda.{Agenda}
use Rattle.nvme_simulation.specs.declared.flight.Flight.{Flight}
use Rattle.nvme_simulation.specs.declared.front.Taken.{Taken}
use Rattle.nvme_simulation.specs.declared.happening.Happening.{Happening}
use Rattle.nvme_simulation.specs.declared.happening.Happening.TheVariants.{Came, Finished, Paused, Resumed}
use Rattle.nvme_simulation.specs.declared.machine.Machine.{Machine}
use Rattle.nvme_simulation.specs.declared.simulation.Simulation.{Simulation}

-- a command comes where one may, and the next one of its queue is planned behind it, where more may come and it waits for no completion. Else nothing is planned
abbrev pub ArrivalPlans : (may : Bool) → (queue : ℕ) → (counts more : Bool) → (before after : Machine) → Type 0
ArrivalPlans true queue counts more before after = ComesAndFollows queue counts more before after
ArrivalPlans false queue counts more before after = after ≡ before

-- a command ends on a channel. The end of the one that starts there is planned, and the next command of a closed host, when it thought, where one may come. Nothing
-- else is planned, none is picked, and no other one starts. Its host submits what its ring has room for, as far as the completion told it, and the controller reads what it may
pub record EndPlans (channel queue number : ℕ) (before : Machine) (after : Simulation) : Type 0 where
  pub taken : Taken
  pub queue_is : queue ≡ taken.qid
  pub number_is : number ≡ taken.number
  pub flight : Flight
  pub ended : Machine
  pub done : OneEnds queue number (now_of before.agenda) flight before.hosts ended.hosts
  pub ends : EndsAndStarts channel taken before ended
  pub thought : Machine
  pub thinks : PlansIf (closed_in ended.hosts queue && may_come_to after (time_of after)) queue (time_of after) ended thought
  pub goes : AllGoOn (now_of before.agenda) thought.hosts after.machine.hosts
  pub rests : AllRest thought.hosts after.machine.hosts
  pub submits : HasSubmitted queue after.machine.hosts
  pub reads : HasRead queue after.machine.front
  pub device : after.machine.device ≡ ended.device
  pub events : events_of after.machine.agenda ≡ events_of thought.agenda

-- what is planned where a command comes or is done, and where a channel pauses or goes on
abbrev pub PlansFor : Happening → (before after : Simulation) → Type 0
PlansFor (Came queue) before after =
    ArrivalPlans (may_come_to before (time_of after)) queue (counts_next before) (may_come_to after (time_of after)) before.machine after.machine
PlansFor (Finished command counts) before after = EndPlans command.channel command.queue command.number before.machine after
PlansFor (Paused channel) before after = PausesNow channel before after
PlansFor (Resumed channel) before after = GoesOnFor channel before.machine after
PlansFor h before after = Unit {0}

-- so in a step, whose first event is gone
pub record IsPlannedBehind (h : Happening) (before after : Simulation) : Type 0 where
  pub rest : Agenda
  pub is : events_of rest ≡ (popped (events_of before.machine.agenda)).1
  pub plans : PlansFor h (record before { machine = record before.machine { agenda = rest } }) after

-- what is planned, and of a pick which commands are picked and start
abbrev pub StepPlans : Happening → (before after : Simulation) → Type 0
StepPlans (Came queue) before after = IsPlannedBehind (Came queue) before after
StepPlans (Finished command counts) before after = IsPlannedBehind (Finished command counts) before after
StepPlans (Paused channel) before after = IsPlannedBehind (Paused channel) before after
StepPlans (Resumed channel) before after = IsPlannedBehind (Resumed channel) before after
StepPlans h before after = PicksAsTold before.machine after.machine h
