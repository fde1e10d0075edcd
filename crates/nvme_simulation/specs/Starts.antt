-- Which commands start in the device. (profile)
use Rattle.std.specs.Prelude.{◌≡◌, ℕ, ◌+◌, ◌*◌, List, Option, Some, None, Result, Ok, Err, slice_set}
use Rattle.nvme_channels.specs.declared.channel.StepFault.{StepFault}
use Rattle.nvme_channels.specs.declared.channels.Start.{Start}
use Rattle.nvme_clock.specs.Held.{Held, pushed}
use Rattle.nvme_simulation.specs.declared.agenda.Event.{Event}
use Rattle.nvme_simulation.specs.declared.agenda.Event.TheVariants.{End}
use Rattle.nvme_simulation.specs.declared.channels.Runs.{Runs}
use Rattle.nvme_simulation.specs.declared.channels.Started.{Started}
use Rattle.nvme_simulation.specs.declared.front.Taken.{Taken}

-- the number of a command in the device: its tag, its queue and its number there
abbrev pub number_in : Taken → ℕ
number_in t = t.tag * 0x1_0000_0000_0000 + t.qid * 0x1_0000_0000 + t.number

-- a command is told to start where the device starts it, on its channel and until its end
abbrev pub StartsAs : Option Start → Option Started → Type 0
StartsAs None None = Unit {0}
StartsAs (Some start) (Some told) = (number_in told.command ≡ start.number) × ((told.channel ≡ start.channel) × (told.ends ≡ start.ends))
StartsAs start told = ⊥

-- so, unless the device refuses
abbrev pub AnswersAs : Result (Option Start) StepFault → Option Started → Type 0
AnswersAs (Ok start) told = StartsAs start told
AnswersAs (Err fault) told = ⊥

-- the commands that started last on the channels of the device, by the numbers of the channels
abbrev pub started_in : Runs → List (Option Taken)
started_in r = r.running.items

-- a command that starts is the one that started last on its channel, and those of all other channels are the same
abbrev pub StartsOn : Option Started → (before after : Runs) → Type 0
StartsOn None before after = started_in after ≡ started_in before
StartsOn (Some s) before after = started_in after ≡ slice_set (started_in before) s.channel (Some s.command)

-- the end of a command that starts is planned, and nothing else
abbrev pub PlansEnd : Option Started → (before after : Held Event) → Type 0
PlansEnd None before after = after ≡ before
PlansEnd (Some started) before after = after ≡ pushed started.ends (End started.channel) before
