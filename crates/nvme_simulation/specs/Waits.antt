-- Queues that wait for arbitration. (Base Specification, Command Arbitration; the device's room: profile)
use Rattle.std.specs.Prelude.{◌≡◌, ◌≤◌, ℕ, ◌==◌, Bool, true}
use Rattle.std.specs.List.{list_any}
use Rattle.nvme_arbiter.specs.Observation.{ready_of}
use Rattle.nvme_arbiter.specs.declared.settings.Class.{Class}
use Rattle.nvme_log.specs.Rules.{FrontRules}
use Rattle.nvme_ctrl_log.specs.Notes.{Notes}
use Rattle.nvme_ctrl_log.specs.Observation.{observed_of}
use Rattle.nvme_model.specs.declared.finished.Finished.{Finished as Told}
use Rattle.nvme_simulation.specs.Simulations.{IsSimulation, StandsAt, room_at}
use Rattle.nvme_simulation.specs.Stepping.{HasStepped}
use Rattle.nvme_simulation.specs.declared.happening.Happening.TheVariants.{Finished, Picked, Settled}
use Rattle.nvme_simulation.specs.declared.happening.Picked.{Picked as Pick}
use Rattle.nvme_simulation.specs.declared.simulation.Simulation.{Simulation}

-- the controller shows arbitration a queue of a class with commands that wait
abbrev pub IsReady : Class → (qid : ℕ) → Simulation → Type 0
IsReady class qid s = (rules : FrontRules) (late : Bool) (notes : Notes) → StandsAt rules late notes s
    → list_any (λ x. x.qid == qid) (ready_of class (observed_of notes)) ≡ true

-- while commands wait, it is told that none can be picked only where the device is full
abbrev pub SettledIsFull : Type 0
SettledIsFull = (before after : Simulation) → IsSimulation before → HasStepped before after Settled → (class : Class) (qid : ℕ) → IsReady class qid before → room_at before ≡ 0

-- a pick takes no more commands than the device has room for
abbrev pub PicksHaveRoom : Type 0
PicksHaveRoom = (before after : Simulation) (p : Pick) → IsSimulation before → HasStepped before after (Picked p) → p.pick.n ≤ room_at before

-- so behind an end in a full device it takes one
abbrev pub OneIsPickedBehindAnEnd : Type 0
OneIsPickedBehindAnEnd = (full ended picked : Simulation) (command : Told) (counts : Bool) (p : Pick) → IsSimulation full → room_at full ≡ 0
    → HasStepped full ended (Finished command counts) → HasStepped ended picked (Picked p) → p.pick.n ≤ 1
