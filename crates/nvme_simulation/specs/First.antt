-- Which events a new simulation plans. (profile)
use Rattle.std.specs.Prelude.{◌≡◌, ℕ, zero, suc, ◌+◌, Bool, true, false, Option, Some, None, option_map, unwrap_or}
use Rattle.nvme_clock.specs.Held.{Held, pushed}
use Rattle.nvme_load.specs.Arrivals.{at_start}
use Rattle.nvme_model.specs.declared.device.Pauses.{Pauses}
use Rattle.nvme_simulation.specs.Following.{IsNextOf, goes_on, host_of}
use Rattle.nvme_simulation.specs.Plans.{arrivals_at, first_pauses, planned}
use Rattle.nvme_simulation.specs.declared.agenda.Event.{Event}
use Rattle.nvme_simulation.specs.declared.agenda.Event.TheVariants.{Arrival}
use Rattle.nvme_simulation.specs.declared.hosts.Hosts.{Hosts}

-- how many commands of a queue come at time 0: of a closed host, as many as are out
abbrev pub starting : Hosts → (qid : ℕ) → ℕ
starting hosts qid = unwrap_or (option_map (λ h. at_start h.arrivals) (host_of hosts qid)) 0

-- the first command of an open queue comes a gap behind 0, or when its list says. Else none is planned
pub record PlansFirst (qid : ℕ) (before after : Hosts) (old new : Held Event) : Type 0 where
  pub at : ℕ
  pub next : IsNextOf qid 0 (Some at) before after
  pub planned_is : new ≡ pushed at (Arrival qid) old

abbrev pub PlansFirstIf : Bool → (qid : ℕ) → (before after : Hosts) → (old new : Held Event) → Type 0
PlansFirstIf true qid before after old new = PlansFirst qid before after old new
PlansFirstIf false qid before after old new = (after ≡ before) × (new ≡ old)

-- the first commands of a queue
abbrev pub BeginsQueue : (qid : ℕ) → (before after : Hosts) → (old new : Held Event) → Type 0
BeginsQueue qid before after old new =
    PlansFirstIf (goes_on before qid) qid before after (planned (arrivals_at 0 qid (starting before qid)) old) new

-- those of the queues 1, 2 and so on up to one, in this order
unfoldable pub BeginsQueues : (count : ℕ) → (before after : Hosts) → (old new : Held Event) → Type 0
BeginsQueues zero before after old new = (after ≡ before) × (new ≡ old)
BeginsQueues (suc n) before after old new =
    (hosts : Hosts) × ((events : Held Event) × (BeginsQueues n before hosts old events × BeginsQueue (n + 1) hosts after events new))

-- the first pauses of the channels of a device, if it has any
abbrev pub BeginsPauses : Option Pauses → (channels : ℕ) → (old new : Held Event) → Type 0
BeginsPauses None channels old new = new ≡ old
BeginsPauses (Some pauses) channels old new = new ≡ planned (first_pauses pauses.every channels channels) old
