-- How a simulation begins. (profile)
use Rattle.std.specs.Prelude.{◌≡◌, ◌<◌, ℕ, ◌+◌, ◌%◌, Bool, false, List, None, Some, IfSome, length, map, replicate, slice_get, All}
use Rattle.nvme_arbiter.specs.Limits.{queue_limit}
use Rattle.nvme_arbiter.specs.declared.settings.Class.{Class}
use Rattle.nvme_arbiter.specs.declared.settings.Class.TheVariants.{Admin}
use Rattle.nvme_channels.specs.Devices.{new_device}
use Rattle.nvme_clock.specs.Held.{Held, nothing}
use Rattle.nvme_clock.specs.Streams.{stream_state}
use Rattle.nvme_clock.specs.declared.streams.Purpose.TheVariants.{Arrivals, Services, Sizes, Offsets}
use Rattle.nvme_ctrl_log.specs.Notes.{Notes}
use Rattle.nvme_ctrl_log.specs.Observation.{seen_in}
use Rattle.nvme_log.specs.Rules.{FrontRules}
use Rattle.nvme_model.specs.declared.model.Model.{Model}
use Rattle.nvme_model.specs.declared.queue.Queue.{Queue}
use Rattle.nvme_occupancy.specs.Occupancies.{IsEmpty}
use Rattle.nvme_simulation.specs.Asking.{asking_of}
use Rattle.nvme_simulation.specs.Creating.{HasDone, creates_from}
use Rattle.nvme_simulation.specs.Devices.{device_in}
use Rattle.nvme_simulation.specs.First.{BeginsPauses, BeginsQueues}
use Rattle.nvme_simulation.specs.Fronts.{HasDepths, IsFrontOf, StandsBy}
use Rattle.nvme_simulation.specs.Loads.{load_in, load_of}
use Rattle.nvme_simulation.specs.Plans.{events_of}
use Rattle.nvme_simulation.specs.Simulations.{time_of}
use Rattle.nvme_simulation.specs.Stages.{none_came}
use Rattle.nvme_simulation.specs.Starts.{started_in}
use Rattle.nvme_simulation.specs.declared.agenda.Event.{Event}
use Rattle.nvme_simulation.specs.declared.front.Front.{Front}
use Rattle.nvme_simulation.specs.declared.host.Host.{Host}
use Rattle.nvme_simulation.specs.declared.hosts.Hosts.{Hosts}
use Rattle.nvme_simulation.specs.declared.simulation.Simulation.{Simulation}

-- a host draws from the four streams of its queue, of this seed
pub record HasStreams (seed qid : ℕ) (h : Host) : Type 0 where
  pub arrivals : h.streams.arrivals ≡ stream_state seed qid Arrivals
  pub services : h.streams.services ≡ stream_state seed qid Services
  pub operations : h.streams.operations ≡ stream_state seed qid Sizes
  pub offsets : h.streams.offsets ≡ stream_state seed qid Offsets

-- no command came to a host, and no completion: the head of its ring is the first slot
pub record IsUnused (h : Host) : Type 0 where
  pub none : none_came h.flights
  pub head : h.head ≡ 0

-- the identifier of the queue of the host at a place: 1, 2 and so on
abbrev pub qid_at : (place : ℕ) → ℕ
qid_at place = place % 65_535 + 1

-- the hosts of queues, in their order, to which no command came
pub record AreHostsOf (queues : List Queue) (hosts : List Host) : Type 0 where
  pub loads : map load_of hosts ≡ map load_in queues
  pub none : All IsUnused hosts

-- each host draws from the streams of its queue
abbrev pub DrawTheirStreams : (seed : ℕ) → List Host → Type 0
DrawTheirStreams seed hosts = (k : ℕ) → IfSome (slice_get hosts k) (HasStreams seed (qid_at k))

-- what each of its commands asks for is drawn from these streams: the first draw of each is still to come
pub record HasAskingStreams (seed qid : ℕ) (h : Host) : Type 0 where
  pub services : h.streams.services ≡ stream_state seed qid Services
  pub operations : h.streams.operations ≡ stream_state seed qid Sizes
  pub offsets : h.streams.offsets ≡ stream_state seed qid Offsets

abbrev pub DrawAsking : (seed : ℕ) → List Host → Type 0
DrawAsking seed hosts = (k : ℕ) → IfSome (slice_get hosts k) (HasAskingStreams seed (k + 1))

-- the controller shows arbitration a queue in a class, with no command that waits
abbrev pub Shows : Front → (qid : ℕ) → Class → Type 0
Shows front qid class = (rules : FrontRules) (late : Bool) (notes : Notes) → StandsBy rules late notes front
    → seen_in notes qid ≡ Some (record { qid = qid; class = class; count = 0 })

-- so the queue of each host, in its class
abbrev pub ShowsAll : Front → List Host → Type 0
ShowsAll front hosts = (k : ℕ) → IfSome (slice_get hosts k) (λ h. Shows front (qid_at k) h.class)

-- so the queues of a model
abbrev pub ShowsQueues : Front → List Queue → Type 0
ShowsQueues front queues = (k : ℕ) → IfSome (slice_get queues k) (λ q. Shows front (k + 1) q.class)

-- the controller shows arbitration no queue of an identifier
abbrev pub ShowsNone : Front → (qid : ℕ) → Type 0
ShowsNone front qid = (rules : FrontRules) (late : Bool) (notes : Notes) → StandsBy rules late notes front → seen_in notes qid ≡ None

-- beside so many I/O queues it shows the admin queue, with no command that waits, and no other one
pub record ShowsNoOther (front : Front) (count : ℕ) : Type 0 where
  pub admin : Shows front 0 Admin
  pub none : (qid : ℕ) → count < qid → qid < queue_limit → ShowsNone front qid

-- hosts do what they did and draw for no command, and to no more of them a command came
pub record StayUnused (before after : Hosts) : Type 0 where
  pub asking : map asking_of after.all.items ≡ map asking_of before.all.items
  pub loads : map load_of after.all.items ≡ map load_of before.all.items
  pub none : All IsUnused before.all.items → All IsUnused after.all.items

-- the events that are planned: the first commands of each queue, as its host draws them, and then the first pauses of the channels
pub record IsBegun (model : Model) (s : Simulation) : Type 0 where
  -- the hosts before that
  pub hosts : Hosts
  pub are : AreHostsOf model.queues.items hosts.all.items
  pub streams : (k : ℕ) → IfSome (slice_get hosts.all.items k) (HasStreams model.seed (k + 1))
  pub events : Held Event
  pub queues : BeginsQueues (length model.queues.items) hosts s.machine.hosts nothing events
  pub pauses : BeginsPauses model.device.pauses model.device.channels events (events_of s.machine.agenda)

-- a simulation of a model, at time 0: its controller arbitrates by the model's mechanism and settings and has its queues, each in its class, which it made by the Creates of the
-- model's queues, with their slots, one after another: it answered each with success. It shows arbitration no other I/O queue. Its device is the model's, where nothing runs, and its hosts are those of the model's queues, which draw from the streams of seed and queue
pub record IsNewOf (model : Model) (s : Simulation) : Type 0 where
  pub front : IsFrontOf model.mechanism model.settings s.machine.front
  pub depths : HasDepths s.machine.front
  pub device : device_in s.machine.device ≡ new_device model.device.placement model.device.depth model.device.channels
  pub started : started_in s.machine.device ≡ replicate model.device.channels None
  pub queues : ShowsQueues s.machine.front model.queues.items
  pub alone : ShowsNoOther s.machine.front (length model.queues.items)
  pub creates : HasDone model.mechanism model.settings (creates_from 1 (map load_in model.queues.items)) s.machine.front
  pub hosts : AreHostsOf model.queues.items s.machine.hosts.all.items
  pub streams : DrawAsking model.seed s.machine.hosts.all.items
  pub begins : IsBegun model s
  pub time : time_of s ≡ 0
  pub occupancy : IsEmpty s.occupancy
  pub end : s.end ≡ model.end
  pub pauses : s.pauses ≡ model.device.pauses
  pub warm_up : s.warm_up ≡ model.warm_up
  pub picks : s.picks ≡ false
