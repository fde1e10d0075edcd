-- How long a queue waits for arbitration in a run of a simulation. (Base Specification, Command Arbitration; device and time: profile)
use Rattle.std.specs.Prelude.{◌≡◌, ◌≢◌, ◌≤◌, ◌+◌, ◌++◌, ◌∷◌, ℕ, Bool, false, min, All, IfSome, List, None, Some, slice_get}
use Rattle.nvme_arbiter.specs.History.{settings_after}
use Rattle.nvme_arbiter.specs.Settings.{ArbitrationFields}
use Rattle.nvme_arbiter.specs.declared.settings.Class.{Class}
use Rattle.nvme_bounds.specs.Before.{most_before}
use Rattle.nvme_bounds.specs.Runs.{time_behind}
use Rattle.nvme_bounds.specs.Stretches.{IsAmong, counts}
use Rattle.nvme_channels.specs.declared.placement.Placement.TheVariants.{Pool}
use Rattle.nvme_log.specs.Histories.{arbitration_of}
use Rattle.nvme_log.specs.Rules.{FrontRules}
use Rattle.nvme_ctrl_log.specs.Notes.{Notes, logged}
use Rattle.nvme_ctrl_log.specs.Observation.{observed_of}
use Rattle.nvme_model.specs.declared.model.Model.{Model}
use Rattle.nvme_simulation.specs.Beginnings.{IsNewOf}
use Rattle.nvme_simulation.specs.Marks.{flight_at}
use Rattle.nvme_simulation.specs.Runs.{IsRun, Moment}
use Rattle.nvme_simulation.specs.Simulations.{StandsAt, hosts_of, picks_of, time_of}
use Rattle.nvme_simulation.specs.Stepping.{HasStepped}
use Rattle.nvme_simulation.specs.Waits.{IsReady}
use Rattle.nvme_simulation.specs.declared.happening.Happening.{Happening}
use Rattle.nvme_simulation.specs.declared.happening.Happening.TheVariants.{Picked, Settled}
use Rattle.nvme_simulation.specs.declared.host.Host.{Host}
use Rattle.nvme_simulation.specs.declared.hosts.Hosts.{Hosts}
use Rattle.nvme_simulation.specs.declared.simulation.Simulation.{Simulation}

-- a step picks no command of a queue
abbrev pub PassesBy : (qid : ℕ) → Happening → Type 0
PassesBy qid (Picked p) = p.pick.qid ≢ qid
PassesBy qid h = Unit {0}

-- the ready queues that arbitration sees in a class are of these
abbrev pub SeesAmong : (Class → List ℕ) → Simulation → Type 0
SeesAmong ids s = (rules : FrontRules) (late : Bool) (notes : Notes) → StandsAt rules late notes s → IsAmong ids (observed_of notes)

-- in a step a queue waits: it is ready in a class and isn't picked, and only queues that were counted are ready
pub record WaitsIn (ids : Class → List ℕ) (class : Class) (qid : ℕ) (m : Moment) : Type 0 where
  pub ready : IsReady class qid m.before
  pub passed : PassesBy qid m.told
  pub among : SeesAmong ids m.before

-- these settings are in force
abbrev pub HasSettings : ArbitrationFields → Simulation → Type 0
HasSettings settings s =
    (rules : FrontRules) (late : Bool) (notes : Notes) → StandsAt rules late notes s → settings_after rules.start.settings (arbitration_of (logged notes)) ≡ settings

-- no command of a host runs longer
abbrev pub RunsAtMost : (longest : ℕ) → Host → Type 0
RunsAtMost longest h = (n : ℕ) → IfSome (flight_at h.flights n) (λ f. f.request.service ≤ longest)

abbrev pub AllRunAtMost : (longest : ℕ) → Hosts → Type 0
AllRunAtMost longest hosts = (k : ℕ) → IfSome (slice_get hosts.all.items k) (RunsAtMost longest)

-- the step that tells that none can be picked
abbrev pub settles : (before after : Simulation) → Moment
settles before after = record { before = before; told = Settled; after = after }

-- a queue waits in a run of a model, in some steps and until the event behind them
pub record IsWaitOf (model : Model) (ids : Class → List ℕ) (class : Class) (qid longest : ℕ) (first from to next : Simulation) (past steps : List Moment) : Type 0 where
  -- the device is a pool that doesn't pause
  pub pool : model.device.placement ≡ Pool
  pub goes_on : model.device.pauses ≡ None
  -- a run of the model, under its settings, until it is told that none can be picked, while the queue is ready
  pub new : IsNewOf model first
  pub settings : HasSettings model.settings first
  pub begin : Simulation
  pub before : IsRun first (settles begin from ∷ past) from
  pub ready : IsReady class qid begin
  -- the steps in which the queue waits, until it is told so again
  pub run : IsRun from steps to
  pub waits : All (WaitsIn ids class qid) steps
  pub still : picks_of to ≡ false
  -- then the next event comes
  pub event : Happening
  pub comes : HasStepped to next event
  -- no command runs longer
  pub short : All (λ m. AllRunAtMost longest (hosts_of m.before)) (steps ++ settles begin from ∷ past)

-- it waits no longer than the bounds say, where a pick takes one command
abbrev pub WaitsOfRunsAreShort : Type 0
WaitsOfRunsAreShort = (model : Model) (ids : Class → List ℕ) (class : Class) (qid longest : ℕ) (first from to next : Simulation) (past steps : List Moment)
    → IsWaitOf model ids class qid longest first from to next past steps
    → (bound : ℕ) → most_before model.mechanism model.settings (counts ids) 1 class ≡ Some bound
    → time_of next ≤ time_of from + time_behind bound (min model.device.channels model.device.depth) longest
