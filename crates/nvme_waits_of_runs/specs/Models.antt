-- What holds in each run of a model, and how long its queues wait for arbitration. (Base Specification, Command Arbitration; device and time: profile)
use Rattle.std.specs.Prelude.{◌≡◌, ◌≤◌, ◌+◌, ◌==◌, ◌∷◌, [], ℕ, false, map, if◌then◌else◌, All, List, Ok, Some, slice_get}
use Rattle.nvme_arbiter.specs.Settings.{number_of_class}
use Rattle.nvme_arbiter.specs.declared.settings.Class.{Class}
use Rattle.nvme_arbiter.specs.declared.settings.Class.TheVariants.{High, Low}
use Rattle.nvme_model.specs.declared.model.Model.{Model}
use Rattle.nvme_model.specs.declared.queue.Queue.{Queue}
use Rattle.nvme_simulation.specs.Beginnings.{IsNewOf}
use Rattle.nvme_simulation.specs.Runs.{IsRun, Moment}
use Rattle.nvme_simulation.specs.Simulations.{hosts_of, picks_of, time_of}
use Rattle.nvme_simulation.specs.Stepping.{HasStepped}
use Rattle.nvme_simulation.specs.Waits.{IsReady}
use Rattle.nvme_simulation.specs.declared.happening.Happening.{Happening}
use Rattle.nvme_simulation.specs.declared.simulation.Simulation.{Simulation}
use Rattle.nvme_waits.specs.Bounds.{bound_of}
use Rattle.nvme_waits.specs.Longest.{longest_of}
use Rattle.nvme_waits_of_runs.specs.Waits.{AllRunAtMost, HasSettings, PassesBy, SeesAmong, settles}

-- the identifiers of the queues of a class, by the classes of all queues, where identifiers count from one on
unfoldable pub ids_from : (first : ℕ) → List Class → Class → List ℕ
ids_from first [] class = []
ids_from first (c ∷ classes) class =
    if number_of_class c == number_of_class class then first ∷ ids_from (first + 1) classes class else ids_from (first + 1) classes class

-- those of a model's queues
abbrev pub ids_of : List Queue → Class → List ℕ
ids_of queues class = ids_from 1 (map (λ q. q.class) queues) class

-- of three queues, the first and the last one are of High
abbrev pub IdsAreCounted : Type 0
IdsAreCounted = ids_from 1 (High ∷ Low ∷ High ∷ []) High ≡ 1 ∷ 3 ∷ []

-- the settings of the model are in force in each run of it
abbrev pub SettingsStay : Type 0
SettingsStay = (model : Model) (first s : Simulation) (past : List Moment) → IsNewOf model first → IsRun first past s → HasSettings model.settings s

-- arbitration sees only its queues ready, each in its class
abbrev pub OnlyQueuesAreReady : Type 0
OnlyQueuesAreReady = (model : Model) (first s : Simulation) (past : List Moment) → IsNewOf model first → IsRun first past s → SeesAmong (ids_of model.queues.items) s

-- no command runs longer than the longest service that is told of it
abbrev pub NoneRunsLonger : Type 0
NoneRunsLonger = (model : Model) (first s : Simulation) (past : List Moment) → IsNewOf model first → IsRun first past s
    → AllRunAtMost (longest_of model.queues.items) (hosts_of s)

-- in a step a queue is ready in a class and isn't picked
pub record StaysReady (class : Class) (qid : ℕ) (m : Moment) : Type 0 where
  pub ready : IsReady class qid m.before
  pub passed : PassesBy qid m.told

-- the queue at a place of a model waits in a run of it, in some steps and until the event behind them
pub record WaitsInRun (model : Model) (q : Queue) (place : ℕ) (first from to next : Simulation) (past steps : List Moment) : Type 0 where
  pub queue : slice_get model.queues.items place ≡ Some q
  pub new : IsNewOf model first
  -- until it is told that none can be picked, while the queue is ready
  pub begin : Simulation
  pub before : IsRun first (settles begin from ∷ past) from
  pub ready : IsReady q.class (place + 1) begin
  -- the steps in which the queue waits, until it is told so again
  pub run : IsRun from steps to
  pub waits : All (StaysReady q.class (place + 1)) steps
  pub still : picks_of to ≡ false
  -- then the next event comes
  pub event : Happening
  pub comes : HasStepped to next event

-- it waits no longer than is told of it, where a bound in time is
abbrev pub WaitsAreAsTold : Type 0
WaitsAreAsTold = (model : Model) (q : Queue) (place : ℕ) (first from to next : Simulation) (past steps : List Moment)
    → WaitsInRun model q place first from to next past steps → (bound : ℕ) → (bound_of model q).time ≡ Ok bound → time_of next ≤ time_of from + bound
