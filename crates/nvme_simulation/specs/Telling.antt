-- When commands are picked. (profile)
use Rattle.std.specs.Prelude.{◌≡◌, ◌≤◌, ◌<◌, ℕ}
use Rattle.nvme_simulation.specs.Runs.{stages_of}
use Rattle.nvme_simulation.specs.Simulations.{hosts_of}
use Rattle.nvme_simulation.specs.Stepping.{HasStepped}
use Rattle.nvme_simulation.specs.declared.happening.Happening.{Happening}
use Rattle.nvme_simulation.specs.declared.happening.Happening.TheVariants.{Picked}
use Rattle.nvme_simulation.specs.declared.happening.Picked.{Picked as Pick}
use Rattle.nvme_simulation.specs.declared.simulation.Simulation.{Simulation}

-- a command of a queue is picked in a step: it was not yet
pub record IsPickedIn (qid number : ℕ) (before after : Simulation) : Type 0 where
  pub was : stages_of (hosts_of before) qid number < 4
  pub is : 4 ≤ stages_of (hosts_of after) qid number

-- the step tells a pick of that queue
pub record TellsPickOf (qid : ℕ) (h : Happening) : Type 0 where
  pub pick : Pick
  pub told : h ≡ Picked pick
  pub queue : pick.pick.qid ≡ qid

-- a command is picked only in a step that tells so
abbrev pub PicksAreTold : Type 0
PicksAreTold = (before after : Simulation) (h : Happening) → HasStepped before after h → (qid number : ℕ) → IsPickedIn qid number before after → TellsPickOf qid h
