-- What a device becomes where it takes a command, where one ends, and where a channel is paused or resumed. (profile)
use Rattle.std.specs.Prelude.{ℕ, nat_lt, if◌then◌else◌, List, [], ◌∷◌, ◌++◌, length, Option, Some, None, Result, Ok, Err, remove, slice_index_or, slice_set}
use Rattle.nvme_channels.specs.declared.channel.Channel.{Channel}
use Rattle.nvme_channels.specs.declared.channel.StepFault.{StepFault}
use Rattle.nvme_channels.specs.declared.channel.StepFault.TheVariants.{NoRoom, NoChannel, NoCommand, Early}
use Rattle.nvme_channels.specs.declared.channels.Start.{Start}
use Rattle.nvme_channels.specs.declared.channels.Waiting.{Waiting}
use Rattle.nvme_channels.specs.Channel.{begun, freed, is_idle, paused, resumed}
use Rattle.nvme_channels.specs.Devices.{Device, channel_at, first_for, idle_in, room_of}
use Rattle.nvme_channels.specs.Reaches.{reach_of}

-- the command that starts, if one does, and the device after that; a device that refuses stays as it was
abbrev pub Outcome : Type 0
Outcome = Result (Option Start) StepFault × Device

-- the device with other channels and commands that wait
abbrev pub with_content : Device → List Channel → List Waiting → Device
with_content d channels waiting = record { placement = d.placement; depth = d.depth; channels = channels; waiting = waiting }

-- a command starts on a channel, which becomes what a command makes of it, and these are left to wait
abbrev pub start_of : ℕ → ℕ → List Waiting → Device → Result Channel StepFault → Outcome
start_of number channel left d (Err e) = (Err e, d)
start_of number channel left d (Ok c) =
    (Ok (Some (record { number = number; channel = channel; ends = c.ends })), with_content d (slice_set d.channels channel c) left)

-- a command starts on a channel, or waits behind the others
abbrev pub take_at : ℕ → Waiting → Device → Option ℕ → Outcome
take_at now w d None = (Ok None, with_content d d.channels (d.waiting ++ w ∷ []))
take_at now w d (Some k) = start_of w.number k d.waiting d (begun now w.service (channel_at d k))

-- where there is room, on the first idle channel of those on which it may run
abbrev pub take_of : ℕ → ℕ → ℕ → ℕ → Device → Outcome
take_of now number block service d =
    let reach = reach_of d.placement (length d.channels) block in
    if nat_lt 0 (room_of d)
    then take_at now (record { number = number; service = service; reach = reach }) d (idle_in d.channels reach)
    else (Err NoRoom, d)

abbrev pub none : Waiting
none = record { number = 0; service = 0; reach = record { first = 0; end = 0 } }

-- a channel becomes this, and the command that waits at a place starts on it
abbrev pub refill_at : ℕ → ℕ → Channel → Device → Option ℕ → Outcome
refill_at now channel c d None = (Ok None, with_content d (slice_set d.channels channel c) d.waiting)
refill_at now channel c d (Some i) =
    let w = slice_index_or d.waiting i none in
    start_of w.number channel (remove d.waiting i) d (begun now w.service c)

-- where it is idle then, the first one that may run on it
abbrev pub next_for : ℕ → Channel → Device → Option ℕ
next_for channel c d = if is_idle c then first_for d.waiting channel else None

abbrev pub refill_of : ℕ → ℕ → Channel → Device → Outcome
refill_of now channel c d = refill_at now channel c d (next_for channel c d)

-- the command of a channel ends, which is free for the next one
abbrev pub finish_of : ℕ → ℕ → Device → Outcome
finish_of now channel d =
    let c = channel_at d channel in
    if nat_lt channel (length d.channels)
    then (if c.running
    then (if nat_lt now c.ends then (Err Early, d) else refill_of now channel (freed c) d)
    else (Err NoCommand, d))
    else (Err NoChannel, d)

-- nothing starts on a channel until it is resumed
abbrev pub pause_of : ℕ → Device → Result Unit StepFault × Device
pause_of channel d =
    if nat_lt channel (length d.channels)
    then (Ok tt, with_content d (slice_set d.channels channel (paused (channel_at d channel))) d.waiting)
    else (Err NoChannel, d)

abbrev pub resume_of : ℕ → ℕ → Device → Outcome
resume_of now channel d =
    if nat_lt channel (length d.channels)
    then refill_of now channel (resumed (channel_at d channel)) d
    else (Err NoChannel, d)
