-- What a channel becomes. (profile)
use Rattle.std.specs.Prelude.{ℕ, ◌+◌, ◌||◌, Bool, true, false, not, nat_lt, if◌then◌else◌, Result, Ok, Err}
use Rattle.nvme_channels.specs.declared.channel.Channel.{Channel}
use Rattle.nvme_channels.specs.declared.channel.StepFault.{StepFault}
use Rattle.nvme_channels.specs.declared.channel.StepFault.TheVariants.{Early, TooLate}

-- a command may start on it
abbrev pub is_idle : Channel → Bool
is_idle c = not (c.running || c.paused)

-- its command ended
abbrev pub freed : Channel → Channel
freed c = record { running = false; paused = c.paused; ends = c.ends; busy = c.busy }

abbrev pub paused : Channel → Channel
paused c = record { running = c.running; paused = true; ends = c.ends; busy = c.busy }

abbrev pub resumed : Channel → Channel
resumed c = record { running = c.running; paused = false; ends = c.ends; busy = c.busy }

-- a command starts at a time and takes so long: not before the last one ended, nor so late that it would end after 64 bits
abbrev pub begun : ℕ → ℕ → Channel → Result Channel StepFault
begun now service c =
    if nat_lt now c.ends then Err Early
    else (if nat_lt (now + service) 0x1_0000_0000_0000_0000
    then Ok (record { running = true; paused = c.paused; ends = now + service; busy = c.busy + service })
    else Err TooLate)
