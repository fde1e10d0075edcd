-- What is counted of the steps of a run. (profile)
use Rattle.std.specs.Prelude.{◌≡◌, ℕ, Bool, true, false, List, [], ◌∷◌, ◌++◌}
use Rattle.std.specs.List.{flat_map}
use Rattle.nvme_model.specs.declared.finished.Finished.{Finished as Command}
use Rattle.nvme_model.specs.declared.model.Model.{Model}
use Rattle.nvme_numbers.specs.Collected.{Adds, Heeds, IsFedBy, IsNew}
use Rattle.nvme_numbers.specs.Feeding.{Comes, Ends, Event}
use Rattle.nvme_numbers.specs.Told.{Tells}
use Rattle.nvme_numbers.specs.ToldFed.{TellsFed}
use Rattle.nvme_numbers.specs.declared.numbers.Numbers.{Numbers}
use Rattle.nvme_simulate.specs.declared.runs.Measured.{Measured}
use Rattle.nvme_simulation.specs.Beginnings.{IsNewOf}
use Rattle.nvme_simulation.specs.Runs.{IsRun, Moment}
use Rattle.nvme_simulation.specs.Simulations.{occupancy_of, time_of}
use Rattle.nvme_simulation.specs.declared.happening.Happening.{Happening}
use Rattle.nvme_simulation.specs.declared.happening.Happening.TheVariants.{Came, Finished, Over}
use Rattle.nvme_simulation.specs.declared.simulation.Simulation.{Simulation}

-- what a step tells of commands: how many came, the last of them now, or that one is done
abbrev pub told_by : (after : Simulation) → Happening → List Event
told_by after (Came queue) = Comes (occupancy_of after).came (time_of after) ∷ []
told_by after (Finished command counts) = Ends command ∷ []
told_by after h = []

-- so of steps, the newest first
abbrev pub events_of : List Moment → List Event
events_of steps = flat_map (λ m. told_by m.after m.told) steps

-- numbers add a command that is done and counts, heed each that comes or is done, and change by nothing else that happens
abbrev pub AddsIf : (counts : Bool) → Command → (old new : Numbers) → Type 0
AddsIf true command old new = Adds command old new
AddsIf false command old new = new ≡ old

abbrev pub Takes : (after : Simulation) → Happening → (old new : Numbers) → Type 0
Takes after (Came queue) old new = Heeds (Comes (occupancy_of after).came (time_of after)) old new
Takes after (Finished command counts) old new = (heard : Numbers) × (Heeds (Ends command) old heard × AddsIf counts command heard new)
Takes after h old new = new ≡ old

-- so step for step, the newest first
unfoldable pub Collects : (none : Numbers) → List Moment → Numbers → Type 0
Collects none [] n = n ≡ none
Collects none (m ∷ past) n = (before : Numbers) × (Collects none past before × Takes m.after m.told before n)

-- when the last command was done, and 0 where none was
abbrev pub done_behind : Happening → (before : ℕ) → ℕ
done_behind (Finished command counts) before = command.times.done
done_behind h before = before

unfoldable pub last_done : List Moment → ℕ
last_done [] = 0
last_done (m ∷ past) = done_behind m.told (last_done past)

abbrev pub EndsIn : Happening → List Moment → Type 0
EndsIn h [] = ⊥
EndsIn h (m ∷ past) = m.told ≡ h

abbrev pub is_over : Happening → Bool
is_over Over = true
is_over h = false

-- a simulation went on by steps, the newest first: numbers added exactly those of their commands that count, and the last command was done at the end
pub record GoesBy (steps : List Moment) (first last : Simulation) (none all : Numbers) (end : ℕ) : Type 0 where
  pub run : IsRun first steps last
  pub counted : Collects none steps all
  pub ended : end ≡ last_done steps
  pub fed : (events : List Event) → IsFedBy events none → IsFedBy (events_of steps ++ events) all

-- until all was over
pub record HasRun (first last : Simulation) (none all : Numbers) (end : ℕ) : Type 0 where
  pub steps : List Moment
  pub goes : GoesBy steps first last none all end
  pub over : EndsIn Over steps

-- so a simulation of a model, from its beginning
pub record IsPlayed (model : Model) (s : Simulation) (n : Numbers) (end : ℕ) : Type 0 where
  pub first : Simulation
  pub begins : IsNewOf model first
  pub none : Numbers
  pub new : IsNew model none
  pub ran : HasRun first s none n end

-- rows are those of the commands of a run of a model
pub record IsMeasured (model : Model) (m : Measured) : Type 0 where
  pub simulation : Simulation
  pub numbers : Numbers
  pub end : ℕ
  pub played : IsPlayed model simulation numbers end
  pub tells : Tells numbers end m.queues.items m.classes.items m.all
  pub fed : TellsFed (events_of played.ran.steps) numbers m.queues.items m.classes.items m.all
