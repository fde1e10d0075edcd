-- How far a host fills the ring of its queue. (Base Specification, Full Queue, Submission Queue Head Pointer; when a host submits: profile)
use Rattle.std.specs.Prelude.{◌≡◌, ◌≢◌, ◌⊎◌, ℕ, ◌+◌, ◌%◌, not, Some, count_by, slice_get}
use Rattle.nvme_simulation.specs.Progress.{BetweenOne}
use Rattle.nvme_simulation.specs.Stages.{stage_at}
use Rattle.nvme_simulation.specs.Waiting.{waits}
use Rattle.nvme_simulation.specs.declared.flight.Flights.{Flights}
use Rattle.nvme_simulation.specs.declared.flight.Stage.TheVariants.{Came}
use Rattle.nvme_simulation.specs.declared.host.Host.{Host}
use Rattle.nvme_simulation.specs.declared.hosts.Hosts.{Hosts}

-- how many commands of a queue were submitted: all that came, without those that wait for a slot of the ring
abbrev pub submitted_in : Flights → ℕ
submitted_in f = f.first + count_by (λ x. not (waits x.stage)) f.kept.items

-- no command waits for a slot
abbrev pub NoneWaits : Flights → Type 0
NoneWaits f = (n : ℕ) → stage_at f n ≢ Some Came

-- the ring of a host has no free slot, as far as the host knows. Its tail is one slot further on behind each command that is submitted, and the slot behind the tail is the
-- head that the last completion told
abbrev pub IsFull : Host → Type 0
IsFull h = (submitted_in h.flights + 1) % h.slots ≡ h.head

-- a host has submitted what its ring has room for
abbrev pub SubmitsAll : Host → Type 0
SubmitsAll h = NoneWaits h.flights ⊎ IsFull h

-- so the host of a queue
pub record HasSubmitted (qid : ℕ) (hosts : Hosts) : Type 0 where
  pub place : ℕ
  pub queue : qid ≡ place + 1
  pub host : Host
  pub at : slice_get hosts.all.items place ≡ Some host
  pub all : SubmitsAll host

-- a completion tells a host the head of its ring. Nothing else changes, but where the host looks for the next completion
abbrev pub Hears : (sqhd : ℕ) → (before after : Host) → Type 0
Hears sqhd before after = after ≡ record before { head = sqhd; read = after.read }

-- so the host of a queue
pub record OneHears (qid sqhd : ℕ) (before after : Hosts) : Type 0 where
  pub place : ℕ
  pub queue : qid ≡ place + 1
  pub hears : BetweenOne (Hears sqhd) (slice_get before.all.items place) (slice_get after.all.items place)
  pub others : (k : ℕ) → k ≢ place → slice_get after.all.items k ≡ slice_get before.all.items k
