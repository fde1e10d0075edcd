-- When the next command of a queue comes. (profile)
use Rattle.std.specs.Prelude.{◌≡◌, ◌≢◌, ◌&&◌, ℕ, ◌+◌, ◌-◌, Bool, true, false, not, nat_lt, if◌then◌else◌, Option, Some, None, option_map, unwrap_or, slice_get}
use Rattle.nvme_clock.specs.Held.{pushed}
use Rattle.nvme_load.specs.Arrivals.{at_start, ends_at, next_after}
use Rattle.nvme_simulation.specs.Asking.{words}
use Rattle.nvme_simulation.specs.Plans.{events_of}
use Rattle.nvme_simulation.specs.Progress.{AllGoOn, BetweenOne, OneComes}
use Rattle.nvme_simulation.specs.Reading.{HasRead}
use Rattle.nvme_simulation.specs.Resting.{AllRest}
use Rattle.nvme_simulation.specs.Rings.{HasSubmitted}
use Rattle.nvme_simulation.specs.Stages.{next_in}
use Rattle.nvme_simulation.specs.Times.{now_of}
use Rattle.nvme_simulation.specs.declared.agenda.Event.TheVariants.{Arrival}
use Rattle.nvme_simulation.specs.declared.host.Host.{Host}
use Rattle.nvme_simulation.specs.declared.hosts.Hosts.{Hosts}
use Rattle.nvme_simulation.specs.declared.machine.Machine.{Machine}

-- the next command of a host waits for a completion: so many came at time 0
abbrev pub is_closed : Host → Bool
is_closed h = nat_lt 0 (at_start h.arrivals)

-- one follows those that came, and waits for no completion
abbrev pub follows : Host → Bool
follows h = not (is_closed h) && not (ends_at h.arrivals (next_in h.flights))

-- so of a queue, whose host is at its place
abbrev pub host_of : Hosts → (qid : ℕ) → Option Host
host_of hosts qid = if nat_lt 0 qid then slice_get hosts.all.items (qid - 1) else None

abbrev pub goes_on : Hosts → (qid : ℕ) → Bool
goes_on hosts qid = unwrap_or (option_map follows (host_of hosts qid)) false

abbrev pub closed_in : Hosts → (qid : ℕ) → Bool
closed_in hosts qid = unwrap_or (option_map is_closed (host_of hosts qid)) false

-- the next command of a host comes then, behind one that came or was done at a time: its list or a draw says when. Nothing else changes
pub record DrawsNext (time : ℕ) (next : Option ℕ) (before after : Host) : Type 0 where
  pub value : (next, words after.streams.arrivals) ≡ next_after before.arrivals (next_in before.flights) time (words before.streams.arrivals)
  pub rest : after ≡ record before { streams = record before.streams { arrivals = after.streams.arrivals } }

-- so that of a queue
pub record IsNextOf (qid time : ℕ) (next : Option ℕ) (before after : Hosts) : Type 0 where
  pub place : ℕ
  pub queue : qid ≡ place + 1
  pub draws : BetweenOne (DrawsNext time next) (slice_get before.all.items place) (slice_get after.all.items place)
  pub others : (k : ℕ) → k ≢ place → slice_get after.all.items k ≡ slice_get before.all.items k

-- it is planned, and nothing else
pub record PlansNext (qid time : ℕ) (before after : Machine) : Type 0 where
  pub at : ℕ
  pub next : IsNextOf qid time (Some at) before.hosts after.hosts
  pub planned : events_of after.agenda ≡ pushed at (Arrival qid) (events_of before.agenda)

-- where it is to come, and else nothing changes
abbrev pub PlansIf : Bool → (qid time : ℕ) → (before after : Machine) → Type 0
PlansIf true qid time before after = PlansNext qid time before after
PlansIf false qid time before after = after ≡ before

-- a command of a queue comes now. The next one is planned behind it where more may come, unless it waits for a completion or the list of the queue has ended. No other
-- event is planned, none is picked or starts, and the device isn't called. Its host submits what its ring has room for, and the controller reads what it may
pub record ComesAndFollows (qid : ℕ) (counts more : Bool) (before after : Machine) : Type 0 where
  pub came : Hosts
  pub comes : OneComes qid (now_of before.agenda) counts before.hosts came
  pub waits : AllRest before.hosts came
  pub followed : Machine
  pub plans : PlansIf (more && goes_on came qid) qid (now_of before.agenda) (record before { hosts = came }) followed
  pub goes : AllGoOn (now_of before.agenda) followed.hosts after.hosts
  pub rests : AllRest followed.hosts after.hosts
  pub submits : HasSubmitted qid after.hosts
  pub reads : HasRead qid after.front
  pub device : after.device ≡ before.device
  pub events : events_of after.agenda ≡ events_of followed.agenda
