-- One command that goes on, and nothing else. (profile)
use Rattle.std.specs.Prelude.{◌≡◌, ◌≢◌, ℕ, ◌+◌, Option, Some, None, slice_get}
use Rattle.nvme_simulation.specs.Progress.{BetweenOne}
use Rattle.nvme_simulation.specs.Stages.{MovesOne}
use Rattle.nvme_simulation.specs.declared.channels.Started.{Started}
use Rattle.nvme_simulation.specs.declared.flight.Stage.{Stage}
use Rattle.nvme_simulation.specs.declared.flight.Stage.TheVariants.{Picked}
use Rattle.nvme_simulation.specs.declared.host.Host.{Host}
use Rattle.nvme_simulation.specs.declared.hosts.Hosts.{Hosts}

-- a command of a host comes from a stage to the next one now
pub record HostMoves (number : ℕ) (from : Stage) (now : ℕ) (before after : Host) : Type 0 where
  pub flights : MovesOne number from now before.flights after.flights
  pub rest : after ≡ record before { flights = after.flights }

-- so one of a queue
pub record OneMoves (qid number : ℕ) (from : Stage) (now : ℕ) (before after : Hosts) : Type 0 where
  pub place : ℕ
  pub queue : qid ≡ place + 1
  pub moves : BetweenOne (HostMoves number from now) (slice_get before.all.items place) (slice_get after.all.items place)
  pub others : (k : ℕ) → k ≢ place → slice_get after.all.items k ≡ slice_get before.all.items k

-- the command starts that is told to, which was picked
abbrev pub StartsIn : Option Started → (now : ℕ) → (before after : Hosts) → Type 0
StartsIn None now before after = after ≡ before
StartsIn (Some started) now before after = OneMoves started.command.qid started.command.number Picked now before after
