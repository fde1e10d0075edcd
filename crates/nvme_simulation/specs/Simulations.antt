-- What stands at each step of a simulation, and what a step leaves. (profile)
use Rattle.std.specs.Prelude.{◌≡◌, ℕ, Bool, List}
use Rattle.nvme_channels.specs.declared.channel.Channel.{Channel}
use Rattle.nvme_log.specs.Rules.{FrontRules}
use Rattle.nvme_ctrl_log.specs.Notes.{Notes}
use Rattle.nvme_model.specs.declared.model.End.{End}
use Rattle.nvme_occupancy.specs.declared.occupancy.Occupancy.{Occupancy}
use Rattle.nvme_simulation.specs.Counts.{is_counted, may_come}
use Rattle.nvme_simulation.specs.Devices.{IsBehind, IsDevice, device_in, room_in}
use Rattle.nvme_simulation.specs.Fronts.{IsFront, StandsBy, StaysFront}
use Rattle.nvme_simulation.specs.Times.{now_of}
use Rattle.nvme_simulation.specs.declared.hosts.Hosts.{Hosts}
use Rattle.nvme_simulation.specs.declared.simulation.Simulation.{Simulation}

-- the controller stands at some log, and the device is one after some calls
pub record IsSimulation (s : Simulation) : Type 0 where
  pub front : IsFront s.machine.front
  pub device : IsDevice (device_in s.machine.device)

-- at these notes
abbrev pub StandsAt : FrontRules → Bool → Notes → Simulation → Type 0
StandsAt rules late notes s = StandsBy rules late notes s.machine.front

-- how many commands more the device takes
abbrev pub room_at : Simulation → ℕ
room_at s = room_in s.machine.device

-- the channels of the device
abbrev pub channels_of : Simulation → List Channel
channels_of s = (device_in s.machine.device).channels

abbrev pub time_of : Simulation → ℕ
time_of s = now_of s.machine.agenda

-- how many commands came and are done, and the area under the number between
abbrev pub occupancy_of : Simulation → Occupancy
occupancy_of s = s.occupancy

-- its hosts, with their commands
abbrev pub hosts_of : Simulation → Hosts
hosts_of s = s.machine.hosts

-- when no more commands come
abbrev pub end_of : Simulation → End
end_of s = s.end

-- one more command may come at this time
abbrev pub may_come_to : Simulation → (now : ℕ) → Bool
may_come_to s now = may_come s.end now s.occupancy

-- numbers count the next command that comes
abbrev pub counts_next : Simulation → Bool
counts_next s = is_counted s.warm_up s.occupancy

-- whether the next step is a pick, or tells that there is none
abbrev pub picks_of : Simulation → Bool
picks_of s = s.picks

-- it is a simulation of the same model: its controller arbitrates as before, its device was called, and the rest is the same
pub record IsSameModel (before after : Simulation) : Type 0 where
  pub front : StaysFront before.machine.front after.machine.front
  pub device : IsBehind (device_in before.machine.device) (device_in after.machine.device)
  pub end : after.end ≡ before.end
  pub pauses : after.pauses ≡ before.pauses
  pub warm_up : after.warm_up ≡ before.warm_up
