-- How many commands a full pool runs. (profile)
use Rattle.std.specs.Prelude.{◌≡◌, ◌<◌, ◌≤◌, ℕ, min, All, List}
use Rattle.nvme_channels.specs.declared.placement.Placement.TheVariants.{Pool}
use Rattle.nvme_channels.specs.Devices.{new_device, room_of, running_in}
use Rattle.nvme_channels.specs.Runs.{Step, Take, Finish, Pause, Resume, device_after}

-- no channel is to pause
abbrev pub GoesOn : Step → Type 0
GoesOn (Take now number block service) = Unit {0}
GoesOn (Finish now channel) = Unit {0}
GoesOn (Pause channel) = ⊥
GoesOn (Resume now channel) = Unit {0}

-- a pool that doesn't pause and has no room runs as many commands as it has channels, or as its depth, where that is less
abbrev pub FullPoolsRun : Type 0
FullPoolsRun = (depth count : ℕ) (past : List Step) → 0 < count → All GoesOn past → room_of (device_after (new_device Pool depth count) past) ≡ 0
    → min count depth ≤ running_in (device_after (new_device Pool depth count) past)
