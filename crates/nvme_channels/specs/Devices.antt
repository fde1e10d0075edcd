-- The channels of a device and the commands that it has. (profile)
use Rattle.std.specs.Prelude.{◌≡◌, ◌<◌, ◌≤◌, ℕ, ◌+◌, ◌-◌, false, List, [], Option, length, count_by, option_map, position, replicate, slice_index_or, slice_range}
use Rattle.nvme_channels.specs.declared.channel.Channel.{Channel}
use Rattle.nvme_channels.specs.declared.channels.Channels.{Channels}
use Rattle.nvme_channels.specs.declared.channels.ChannelsFault.{ChannelsFault}
use Rattle.nvme_channels.specs.declared.channels.ChannelsFault.TheVariants.{NoChannels, TooManyChannels, NoDepth, Memory}
use Rattle.nvme_channels.specs.declared.channels.TheConstants.{MAX_CHANNELS}
use Rattle.nvme_channels.specs.declared.channels.Waiting.{Waiting}
use Rattle.nvme_channels.specs.declared.placement.Placement.{Placement}
use Rattle.nvme_channels.specs.declared.placement.Reach.{Reach}
use Rattle.nvme_channels.specs.Channel.{is_idle}
use Rattle.nvme_channels.specs.Reaches.{reaches}

-- the commands that wait stand in the order in which they came
pub record Device : Type 0 where
  pub placement : Placement
  pub depth : ℕ
  pub channels : List Channel
  pub waiting : List Waiting

abbrev pub device_of : Channels → Device
device_of c = record { placement = c.placement; depth = c.depth; channels = c.channels.items; waiting = c.waiting.items }

abbrev pub idle : Channel
idle = record { running = false; paused = false; ends = 0; busy = 0 }

abbrev pub new_device : Placement → ℕ → ℕ → Device
new_device placement depth count = record { placement = placement; depth = depth; channels = replicate count idle; waiting = [] }

-- there is such a device
pub record MakesDevice (count depth : ℕ) : Type 0 where
  pub channels : 0 < count
  pub few : count ≤ MAX_CHANNELS
  pub depth_is_some : 0 < depth

abbrev pub TellsChannelsFault : ℕ → ℕ → ChannelsFault → Type 0
TellsChannelsFault count depth NoChannels = count ≡ 0
TellsChannelsFault count depth TooManyChannels = MAX_CHANNELS < count
TellsChannelsFault count depth NoDepth = depth ≡ 0
TellsChannelsFault count depth Memory = MakesDevice count depth

-- how many commands run
abbrev pub running_in : Device → ℕ
running_in d = count_by (λ c. c.running) d.channels

-- how many commands more it can take: its depth without those that run and those that wait
abbrev pub room_of : Device → ℕ
room_of d = d.depth - running_in d - length d.waiting

abbrev pub channel_at : Device → ℕ → Channel
channel_at d k = slice_index_or d.channels k idle

-- the first idle channel of these
abbrev pub idle_in : List Channel → Reach → Option ℕ
idle_in channels r = option_map (λ i. r.first + i) (position is_idle (slice_range channels r.first r.end))

-- the place of the first waiting command that may run on a channel
abbrev pub first_for : List Waiting → ℕ → Option ℕ
first_for waiting channel = position (λ w. reaches w.reach channel) waiting
