-- What holds of a device after any calls. (profile)
use Rattle.std.specs.Prelude.{◌≡◌, ◌<◌, ◌≤◌, ℕ, ◌+◌, false, true, All, List, Some, Ok, length, slice_index_or}
use Rattle.nvme_channels.specs.declared.channels.Start.{Start}
use Rattle.nvme_channels.specs.declared.channel.Channel.{Channel}
use Rattle.nvme_channels.specs.declared.channels.Waiting.{Waiting}
use Rattle.nvme_channels.specs.declared.placement.Placement.{Placement}
use Rattle.nvme_channels.specs.declared.placement.Reach.{Reach}
use Rattle.nvme_channels.specs.Channel.{is_idle}
use Rattle.nvme_channels.specs.Devices.{Device, channel_at, first_for, idle, idle_in, new_device, room_of, running_in}
use Rattle.nvme_channels.specs.Reaches.{reach_of, reaches}
use Rattle.nvme_channels.specs.Runs.{Step, answer_of, device_after, last_end, now_of, runs_on}

-- none of the channels on which a command may run is idle
abbrev pub NoneIdle : List Channel → Reach → Type 0
NoneIdle channels r = (k : ℕ) → k < length channels → reaches r k ≡ true → is_idle (slice_index_or channels k idle) ≡ false

pub record IsSteady (d : Device) : Type 0 where
  -- no channel idles while a command that may run on it waits
  pub conserves_work : All (λ w. NoneIdle d.channels w.reach) d.waiting
  -- the depth is the room and the commands that run and that wait
  pub has_depth : room_of d + running_in d + length d.waiting ≡ d.depth

abbrev pub StaysSteady : Placement → ℕ → ℕ → List Step → Type 0
StaysSteady placement depth count past = IsSteady (device_after (new_device placement depth count) past)

-- commands start on a channel in the order in which they came: no earlier one that may run there waits where another one starts
pub record StartsInOrder (d : Device) : Type 0 where
  pub waiting : (k i : ℕ) → first_for d.waiting k ≡ Some i → (j : ℕ) (w : Waiting) → j < i → reaches (slice_index_or d.waiting j w).reach k ≡ false
  pub taken : (block k : ℕ) → idle_in d.channels (reach_of d.placement (length d.channels) block) ≡ Some k → All (λ w. reaches w.reach k ≡ false) d.waiting

-- a channel runs one command at a time: each starts no earlier than the one before it ends. Its busy time is that of all, and no longer
-- than the time until the last one ends.
pub record RunsOneByOne (start : Device) (past : List Step) (channel : ℕ) : Type 0 where
  pub busy : (channel_at (device_after start past) channel).busy ≡ runs_on channel start past
  pub ends : (channel_at (device_after start past) channel).ends ≡ last_end channel start past
  pub within : (channel_at (device_after start past) channel).busy ≤ last_end channel start past
  pub next : (step : Step) (s : Start) → answer_of step (device_after start past) ≡ Ok (Some s) → s.channel ≡ channel
      → last_end channel start past ≤ now_of step
