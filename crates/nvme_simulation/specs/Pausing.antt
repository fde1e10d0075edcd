-- Channels that pause and go on. (profile)
use Rattle.std.specs.Prelude.{◌≡◌, ◌&&◌, ◌==◌, ℕ, ◌+◌, ◌-◌, Bool, false, not, Option, Some}
use Rattle.std.specs.List.{list_all}
use Rattle.nvme_channels.specs.Steps.{pause_of, resume_of}
use Rattle.nvme_clock.specs.Held.{Held, pushed}
use Rattle.nvme_load.specs.Arrivals.{ends_at}
use Rattle.nvme_model.specs.declared.device.Pauses.{Pauses}
use Rattle.nvme_simulation.specs.Devices.{device_in}
use Rattle.nvme_simulation.specs.Moving.{StartsIn}
use Rattle.nvme_simulation.specs.Plans.{events_of}
use Rattle.nvme_simulation.specs.Simulations.{hosts_of, may_come_to, time_of}
use Rattle.nvme_simulation.specs.Stages.{next_in}
use Rattle.nvme_simulation.specs.Starts.{AnswersAs, PlansEnd, StartsOn, started_in}
use Rattle.nvme_simulation.specs.Times.{now_of}
use Rattle.nvme_simulation.specs.declared.agenda.Event.{Event}
use Rattle.nvme_simulation.specs.declared.agenda.Event.TheVariants.{Pause, Resume}
use Rattle.nvme_simulation.specs.declared.channels.Started.{Started}
use Rattle.nvme_simulation.specs.declared.hosts.Hosts.{Hosts}
use Rattle.nvme_simulation.specs.declared.machine.Machine.{Machine}
use Rattle.nvme_simulation.specs.declared.simulation.Simulation.{Simulation}

-- a channel of the device pauses. It goes on so much later, which is planned, and nothing else changes
pub record PausesFor (channel length : ℕ) (before after : Machine) : Type 0 where
  pub device : device_in after.device ≡ (pause_of channel (device_in before.device)).1
  pub same : started_in after.device ≡ started_in before.device
  pub hosts : after.hosts ≡ before.hosts
  pub plans : events_of after.agenda ≡ pushed (now_of before.agenda + length) (Resume channel) (events_of before.agenda)

-- so by the pauses of the model
pub record PausesNow (channel : ℕ) (before after : Simulation) : Type 0 where
  pub pauses : Pauses
  pub are : before.pauses ≡ Some pauses
  pub does : PausesFor channel pauses.length before.machine after.machine

-- a channel of the device goes on, and a command starts there, if one does: its end is planned, and nothing else
pub record GoesOn (channel : ℕ) (before after : Machine) : Type 0 where
  pub started : Option Started
  pub answers : AnswersAs (resume_of (now_of before.agenda) channel (device_in before.device)).0 started
  pub device : device_in after.device ≡ (resume_of (now_of before.agenda) channel (device_in before.device)).1
  pub on : StartsOn started before.device after.device
  pub starts : StartsIn started (now_of before.agenda) before.hosts after.hosts
  pub plans : PlansEnd started (events_of before.agenda) (events_of after.agenda)

-- all hosts have lists, which have ended
abbrev pub at_end : Hosts → Bool
at_end hosts = list_all (λ h. ends_at h.arrivals (next_in h.flights)) hosts.all.items

-- all commands came and are done
abbrev pub is_over : Simulation → Bool
is_over s = (s.occupancy.came - s.occupancy.left == 0) && not (may_come_to s (time_of s) && not (at_end (hosts_of s)))

-- the next pause of a channel begins when the time from one to the next has passed since this one began, which ends now. None does where all is over
abbrev pub NextPause : Option Pauses → (over : Bool) → (channel now : ℕ) → (before after : Held Event) → Type 0
NextPause (Some pauses) false channel now before after = after ≡ pushed (now + (pauses.every - pauses.length)) (Pause channel) before
NextPause pauses over channel now before after = after ≡ before

-- a channel goes on, and pauses again
pub record GoesOnFor (channel : ℕ) (before : Machine) (after : Simulation) : Type 0 where
  pub resumed : Machine
  pub goes : GoesOn channel before resumed
  pub hosts : after.machine.hosts ≡ resumed.hosts
  pub device : after.machine.device ≡ resumed.device
  pub next : NextPause after.pauses (is_over after) channel (time_of after) (events_of resumed.agenda) (events_of after.machine.agenda)
