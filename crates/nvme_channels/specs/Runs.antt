-- What happened to a device. (profile)
use Rattle.std.specs.Prelude.{ℕ, ◌+◌, ◌-◌, ◌==◌, if◌then◌else◌, List, [], ◌∷◌, Option, Some, None, Result, Ok, Err}
use Rattle.nvme_channels.specs.declared.channel.StepFault.{StepFault}
use Rattle.nvme_channels.specs.declared.channels.Start.{Start}
use Rattle.nvme_channels.specs.Devices.{Device}
use Rattle.nvme_channels.specs.Steps.{finish_of, pause_of, resume_of, take_of}

-- a call of a device, with its arguments
pub data Step : Type 0 where
  Take : (now number block service : ℕ) → Step
  Finish : (now channel : ℕ) → Step
  Pause : (channel : ℕ) → Step
  Resume : (now channel : ℕ) → Step

abbrev pub device_behind : Step → Device → Device
device_behind (Take now number block service) d = (take_of now number block service d).1
device_behind (Finish now channel) d = (finish_of now channel d).1
device_behind (Pause channel) d = (pause_of channel d).1
device_behind (Resume now channel) d = (resume_of now channel d).1

-- the device after some calls, the newest first
unfoldable pub device_after : Device → List Step → Device
device_after d [] = d
device_after d (step ∷ past) = device_behind step (device_after d past)

-- what a call answers, and when it is made
abbrev pub answer_of : Step → Device → Result (Option Start) StepFault
answer_of (Take now number block service) d = (take_of now number block service d).0
answer_of (Finish now channel) d = (finish_of now channel d).0
answer_of (Pause channel) d = Ok None
answer_of (Resume now channel) d = (resume_of now channel d).0

abbrev pub now_of : Step → ℕ
now_of (Take now number block service) = now
now_of (Finish now channel) = now
now_of (Pause channel) = 0
now_of (Resume now channel) = now

-- how long a command runs that an answer starts on a channel now, and else 0
abbrev pub run_in : ℕ → ℕ → Result (Option Start) StepFault → ℕ
run_in channel now (Err e) = 0
run_in channel now (Ok None) = 0
run_in channel now (Ok (Some s)) = if s.channel == channel then s.ends - now else 0

-- its end, and else the end of the command before it
abbrev pub end_in : ℕ → ℕ → Result (Option Start) StepFault → ℕ
end_in channel before (Err e) = before
end_in channel before (Ok None) = before
end_in channel before (Ok (Some s)) = if s.channel == channel then s.ends else before

-- how long all commands ran that started on a channel in some calls, and when the last of them ends
unfoldable pub runs_on : ℕ → Device → List Step → ℕ
runs_on channel d [] = 0
runs_on channel d (step ∷ past) = runs_on channel d past + run_in channel (now_of step) (answer_of step (device_after d past))

unfoldable pub last_end : ℕ → Device → List Step → ℕ
last_end channel d [] = 0
last_end channel d (step ∷ past) = end_in channel (last_end channel d past) (answer_of step (device_after d past))
