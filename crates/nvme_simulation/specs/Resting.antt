-- Commands that are neither picked nor start. (profile)
use Rattle.std.specs.Prelude.{◌≡◌, ◌≤◌, ℕ, slice_get}
use Rattle.nvme_simulation.specs.Progress.{Between, rank}
use Rattle.nvme_simulation.specs.Stages.{stage_at}
use Rattle.nvme_simulation.specs.declared.host.Host.{Host}
use Rattle.nvme_simulation.specs.declared.hosts.Hosts.{Hosts}

-- no command of a host is picked or starts, it draws no time, and no completion tells it a head
pub record HostRests (before after : Host) : Type 0 where
  pub picked : (n : ℕ) → 4 ≤ rank (stage_at after.flights n) → 4 ≤ rank (stage_at before.flights n)
  pub started : (n : ℕ) → 5 ≤ rank (stage_at after.flights n) → 5 ≤ rank (stage_at before.flights n)
  pub times : after.streams.arrivals ≡ before.streams.arrivals
  pub head : after.head ≡ before.head

-- so of all hosts
pub record AllRest (before after : Hosts) : Type 0 where
  pub each : (k : ℕ) → Between HostRests (slice_get before.all.items k) (slice_get after.all.items k)
