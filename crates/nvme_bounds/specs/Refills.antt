-- How many commands a device took, and how many ended there. (profile)
use Rattle.std.specs.Prelude.{◌≡◌, ◌<◌, ℕ, ◌+◌, ◌++◌, List, [], ◌∷◌, Option, Result, Ok, Err}
use Rattle.nvme_channels.specs.declared.channel.StepFault.{StepFault}
use Rattle.nvme_channels.specs.declared.channels.Start.{Start}
use Rattle.nvme_channels.specs.declared.placement.Placement.{Placement}
use Rattle.nvme_channels.specs.Devices.{Device, new_device, room_of}
use Rattle.nvme_channels.specs.Runs.{Step, Take, Finish, Pause, Resume, device_after}
use Rattle.nvme_channels.specs.Steps.{finish_of, take_of}

-- one, where a call isn't refused
abbrev pub done : Result (Option Start) StepFault → ℕ
done (Ok start) = 1
done (Err fault) = 0

abbrev pub takes : Step → Device → ℕ
takes (Take now number block service) d = done (take_of now number block service d).0
takes (Finish now channel) d = 0
takes (Pause channel) d = 0
takes (Resume now channel) d = 0

abbrev pub ends : Step → Device → ℕ
ends (Take now number block service) d = 0
ends (Finish now channel) d = done (finish_of now channel d).0
ends (Pause channel) d = 0
ends (Resume now channel) d = 0

-- of some calls, the newest first, behind earlier ones
unfoldable pub taken_behind : (start : Device) (past : List Step) → List Step → ℕ
taken_behind start past [] = 0
taken_behind start past (step ∷ rest) = takes step (device_after start (rest ++ past)) + taken_behind start past rest

unfoldable pub ended_behind : (start : Device) (past : List Step) → List Step → ℕ
ended_behind start past [] = 0
ended_behind start past (step ∷ rest) = ends step (device_after start (rest ++ past)) + ended_behind start past rest

-- where a device has no room before some calls and none after them, as many commands ended as it took
abbrev pub EndsMakeRoom : Type 0
EndsMakeRoom = (placement : Placement) (depth count : ℕ) (past calls : List Step) → 0 < count
    → room_of (device_after (new_device placement depth count) past) ≡ 0 → room_of (device_after (new_device placement depth count) (calls ++ past)) ≡ 0
    → ended_behind (new_device placement depth count) past calls ≡ taken_behind (new_device placement depth count) past calls
