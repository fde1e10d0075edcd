-- What a step tells of picks and of times. (Base Specification, Command Arbitration; room and time: profile)
use Rattle.std.specs.Prelude.{◌≡◌, ◌⊎◌, ℕ, None, Some}
use Rattle.nvme_log.specs.Rules.{FrontRules}
use Rattle.nvme_ctrl_log.specs.Notes.{Notes}
use Rattle.nvme_ctrl_log.specs.Steps.{IsNextPick, IsNextWithin}
use Rattle.nvme_simulation.specs.declared.happening.Happening.{Happening}
use Rattle.nvme_simulation.specs.declared.happening.Happening.TheVariants.{Picked, Settled, Finished}

-- a pick is told with its time, and a command is done at the time when that is told
abbrev pub IsTimed : (now : ℕ) → Happening → Type 0
IsTimed now (Picked p) = p.at ≡ now
IsTimed now (Finished command counts) = command.times.done ≡ now
IsTimed now h = Unit {0}

-- a pick is the lawful one, of what the device has room for. It is told that there is none only where the device has room for no command, or no
-- command waits
abbrev pub IsLawful : FrontRules → Notes → (room : ℕ) → Happening → Type 0
IsLawful rules notes room (Picked p) = (p.room ≡ room) × IsNextWithin rules notes room (Some p.pick)
IsLawful rules notes room Settled = (room ≡ 0) ⊎ IsNextPick rules notes None
IsLawful rules notes room h = Unit {0}
