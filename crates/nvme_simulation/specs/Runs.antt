-- Whole runs of a simulation. (profile)
use Rattle.std.specs.Prelude.{◌≡◌, ◌≤◌, ◌<◌, ◌⊎◌, ℕ, Bool, List, [], ◌∷◌, Option, Some, None}
use Rattle.nvme_model.specs.declared.finished.Finished.{Finished as Told}
use Rattle.nvme_model.specs.declared.model.Model.{Model}
use Rattle.nvme_model.specs.declared.times.Times.{Times}
use Rattle.nvme_simulation.specs.Beginnings.{IsNewOf}
use Rattle.nvme_simulation.specs.Following.{host_of}
use Rattle.nvme_simulation.specs.Progress.{rank}
use Rattle.nvme_simulation.specs.Simulations.{hosts_of, time_of}
use Rattle.nvme_simulation.specs.Stages.{stage_at}
use Rattle.nvme_simulation.specs.Stepping.{HasStepped}
use Rattle.nvme_simulation.specs.declared.happening.Happening.{Happening}
use Rattle.nvme_simulation.specs.declared.happening.Happening.TheVariants.{Finished}
use Rattle.nvme_simulation.specs.declared.host.Host.{Host}
use Rattle.nvme_simulation.specs.declared.hosts.Hosts.{Hosts}
use Rattle.nvme_simulation.specs.declared.simulation.Simulation.{Simulation}

-- a step: what happens, and the simulation before and after
pub record Moment : Type 0 where
  pub before : Simulation
  pub told : Happening
  pub after : Simulation

-- a simulation after steps that follow one another, the newest first
unfoldable pub IsRun : (first : Simulation) → List Moment → Simulation → Type 0
IsRun first [] s = s ≡ first
IsRun first (m ∷ past) s = (m.after ≡ s) × (HasStepped m.before m.after m.told × IsRun first past m.before)

-- how many stages a command of a queue came to: that it came, was submitted, read, picked, started and done
abbrev pub stages_by : Option Host → (number : ℕ) → ℕ
stages_by None number = 0
stages_by (Some h) number = rank (stage_at h.flights number)

abbrev pub stages_of : Hosts → (qid number : ℕ) → ℕ
stages_of hosts qid number = stages_by (host_of hosts qid) number

-- in a step, a command comes to its stage of this number at a time
pub record ComesTo (m : Moment) (qid number stage at : ℕ) : Type 0 where
  pub before : stages_of (hosts_of m.before) qid number < stage
  pub after : stage ≤ stages_of (hosts_of m.after) qid number
  pub time : time_of m.after ≡ at

-- so in one of these steps
unfoldable pub CameTo : List Moment → (qid number stage at : ℕ) → Type 0
CameTo [] qid number stage at = ⊥
CameTo (m ∷ past) qid number stage at = ComesTo m qid number stage at ⊎ CameTo past qid number stage at

-- the times of a command are those of the steps in which it came to its stages
pub record HasTimesOf (steps : List Moment) (qid number : ℕ) (times : Times) : Type 0 where
  pub came : CameTo steps qid number 1 times.came
  pub submitted : CameTo steps qid number 2 times.submitted
  pub picked : CameTo steps qid number 4 times.picked
  pub started : CameTo steps qid number 5 times.started
  pub done : CameTo steps qid number 6 times.done

-- so the times that are told of each command, in any run of a model
abbrev pub TimesAreOfSteps : Type 0
TimesAreOfSteps = (model : Model) (first : Simulation) (past : List Moment) (m : Moment) → IsNewOf model first → IsRun first past m.before
    → HasStepped m.before m.after m.told → (command : Told) (counts : Bool) → m.told ≡ Finished command counts
    → HasTimesOf (m ∷ past) command.queue command.number command.times
