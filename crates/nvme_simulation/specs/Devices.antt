-- The device of a simulation. (profile)
use Rattle.std.specs.Prelude.{◌≡◌, ◌<◌, ℕ, List}
use Rattle.nvme_channels.specs.Devices.{Device, device_of, new_device, room_of}
use Rattle.nvme_channels.specs.Runs.{Step, device_after}
use Rattle.nvme_channels.specs.declared.placement.Placement.{Placement}
use Rattle.nvme_simulation.specs.declared.channels.Runs.{Runs}

abbrev pub device_in : Runs → Device
device_in r = device_of r.channels

-- how many commands more it takes
abbrev pub room_in : Runs → ℕ
room_in r = room_of (device_in r)

-- a device after calls of it, the newest first
pub record IsBehind (before after : Device) : Type 0 where
  pub calls : List Step
  pub is : after ≡ device_after before calls

-- a device at which nothing ran at first, after calls of it: the laws of nvme_channels hold of it
pub record IsDevice (d : Device) : Type 0 where
  pub placement : Placement
  pub depth : ℕ
  pub channels : ℕ
  pub some : 0 < channels
  pub calls : List Step
  pub is : d ≡ device_after (new_device placement depth channels) calls
