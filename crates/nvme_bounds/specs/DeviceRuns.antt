-- The commands that run on a device, by its calls. (profile)
use Rattle.std.specs.Prelude.{◌≡◌, ◌≤◌, ℕ, ◌++◌, true, List, [], ◌∷◌, Option, Some, None, Result, Ok, Err, All}
use Rattle.nvme_channels.specs.declared.channel.Channel.{Channel}
use Rattle.nvme_channels.specs.declared.channel.StepFault.{StepFault}
use Rattle.nvme_channels.specs.declared.channels.Start.{Start}
use Rattle.nvme_channels.specs.Devices.{Device}
use Rattle.nvme_channels.specs.Runs.{Step, Take, Finish, Pause, Resume, answer_of, device_after, now_of}
use Rattle.nvme_bounds.specs.Runs.{Run}

-- the command that an answer starts now, if it starts one
abbrev pub started : (now : ℕ) → Result (Option Start) StepFault → List Run
started now (Err e) = []
started now (Ok None) = []
started now (Ok (Some s)) = record { start = now; end = s.ends } ∷ []

-- those that started in some calls of a device, the newest first
unfoldable pub runs_in : Device → List Step → List Run
runs_in d [] = []
runs_in d (step ∷ past) = started (now_of step) (answer_of step (device_after d past)) ++ runs_in d past

-- a call takes no command of a longer service
abbrev pub TakesAtMost : (longest : ℕ) → Step → Type 0
TakesAtMost longest (Take now number block service) = service ≤ longest
TakesAtMost longest (Finish now channel) = Unit {0}
TakesAtMost longest (Pause channel) = Unit {0}
TakesAtMost longest (Resume now channel) = Unit {0}

-- no command of a device is to end before a time
abbrev pub EndsFrom : ℕ → Channel → Type 0
EndsFrom time c = c.running ≡ true → time ≤ c.ends

abbrev pub NoneEndsBefore : ℕ → Device → Type 0
NoneEndsBefore time d = All (EndsFrom time) d.channels
