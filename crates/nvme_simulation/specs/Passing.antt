-- What each step makes of the commands. (profile)
use Rattle.std.specs.Prelude.{◌≡◌, ℕ, Bool, true, false}
use Rattle.nvme_model.specs.declared.finished.Finished.{Finished as Told}
use Rattle.nvme_simulation.specs.Marks.{IsToldOf}
use Rattle.nvme_simulation.specs.Progress.{AllGoOn, AreDone, OneComes, OneEnds}
use Rattle.nvme_simulation.specs.declared.flight.Flight.{Flight}
use Rattle.nvme_simulation.specs.declared.happening.Happening.{Happening}
use Rattle.nvme_simulation.specs.declared.happening.Happening.TheVariants.{Came, Finished, Over}
use Rattle.nvme_simulation.specs.declared.hosts.Hosts.{Hosts}

-- a command comes to a queue now where one may, and else nothing changes
abbrev pub OneComesIf : (may : Bool) → (queue now : ℕ) → (counts : Bool) → (before after : Hosts) → Type 0
OneComesIf true queue now counts before after = OneComes queue now counts before after
OneComesIf false queue now counts before after = after ≡ before

-- a command is done now, and told as it was: with the times at which it came to its stages, and what it asked for when it came
pub record EndsTold (now : ℕ) (command : Told) (counts : Bool) (before after : Hosts) : Type 0 where
  pub flight : Flight
  pub told : IsToldOf flight now command counts
  pub ends : OneEnds command.queue command.number now flight before after

-- where a command is told to come and one may, one comes to that queue now, which numbers count or don't. Where one is told to be done, it is that one which is done
-- now and wasn't. At the end all that came are done. Else commands go on, and none comes or is done that wasn't
abbrev pub Passes : (may counts : Bool) → (now : ℕ) → (before after : Hosts) → Happening → Type 0
Passes may counts now before after (Came queue) = OneComesIf may queue now counts before after
Passes may counts now before after (Finished command counted) = EndsTold now command counted before after
Passes may counts now before after Over = (after ≡ before) × AreDone after
Passes may counts now before after h = AllGoOn now before after
