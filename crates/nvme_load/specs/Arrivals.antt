-- When commands come. (profile)
use Rattle.std.specs.Prelude.{ℕ, ◌+◌, Bool, false, nat_le, max, length, Option, None, option_map, slice_get}
use Rattle.rand_core.specs.Stream.{Stream}
use Rattle.nvme_clock.specs.Draws.{exponential}
use Rattle.nvme_load.specs.declared.arrivals.Arrivals.{Arrivals}
use Rattle.nvme_load.specs.declared.arrivals.Arrivals.TheVariants.{Poisson, Regular, OnOff, Closed, Replay}
use Rattle.nvme_load.specs.declared.replay.Request.{Request}
use Rattle.nvme_load.specs.Phases.{on_before, when_on}
use Rattle.nvme_load.specs.Times.{fitting}

-- an exponential time later, which passes in on phases alone
abbrev pub after_on_time : ℕ → ℕ → ℕ → ℕ → Stream → Option ℕ × Stream
after_on_time mean on off time s =
    let drawn = exponential mean s in (fitting (when_on on off (on_before on off time + drawn.0)), drawn.1)

-- the command of a number, which counts those of its queue before it, where a list says it
abbrev pub request_at : Arrivals → ℕ → Option Request
request_at (Poisson mean) number = None
request_at (Regular gap) number = None
request_at (OnOff phases) number = None
request_at (Closed host) number = None
request_at (Replay list) number = slice_get list.requests.items number

-- no command of this number comes, nor one behind it
abbrev pub ends_at : Arrivals → ℕ → Bool
ends_at (Poisson mean) number = false
ends_at (Regular gap) number = false
ends_at (OnOff phases) number = false
ends_at (Closed host) number = false
ends_at (Replay list) number = nat_le (length list.requests.items) number

-- that of a number comes behind a command that came at a time, and of a closed host behind a completion. One of a list comes at its own time
abbrev pub next_after : Arrivals → (number time : ℕ) → Stream → Option ℕ × Stream
next_after (Poisson mean) number time s = let drawn = exponential mean.picoseconds s in (fitting (time + drawn.0), drawn.1)
next_after (Regular gap) number time s = (fitting (time + gap.picoseconds), s)
next_after (OnOff phases) number time s = after_on_time phases.mean.picoseconds phases.on phases.off time s
next_after (Closed host) number time s = (fitting (time + host.think), s)
next_after (Replay list) number time s = (option_map (λ r. max time r.at) (slice_get list.requests.items number), s)

-- a closed host has its depth of commands out from time 0
abbrev pub at_start : Arrivals → ℕ
at_start (Poisson mean) = 0
at_start (Regular gap) = 0
at_start (OnOff phases) = 0
at_start (Closed host) = host.depth
at_start (Replay list) = 0
