-- How the commands of queues go on. (profile)
use Rattle.std.specs.Prelude.{◌≡◌, ◌≢◌, ◌≤◌, ◌<◌, ℕ, ◌+◌, Bool, Option, Some, None, All, slice_get}
use Rattle.nvme_simulation.specs.declared.flight.Flight.{Flight}
use Rattle.nvme_simulation.specs.declared.flight.Flights.{Flights}
use Rattle.nvme_simulation.specs.declared.flight.Request.{Request}
use Rattle.nvme_simulation.specs.declared.flight.Stage.{Stage}
use Rattle.nvme_simulation.specs.declared.flight.Stage.TheVariants.{Came, Submitted, Fetched, Picked, Started, Done}
use Rattle.nvme_simulation.specs.declared.host.Host.{Host}
use Rattle.nvme_simulation.specs.declared.hosts.Hosts.{Hosts}
use Rattle.nvme_simulation.specs.Asking.{Draws, asking_of}
use Rattle.nvme_simulation.specs.Marks.{HasGone, arrived, flight_at}
use Rattle.nvme_simulation.specs.Stages.{AllDone, came_in, next_in, stage_at}

-- how many stages a command came to
abbrev pub rank : Option Stage → ℕ
rank None = 0
rank (Some Came) = 1
rank (Some Submitted) = 2
rank (Some Fetched) = 3
rank (Some Picked) = 4
rank (Some Started) = 5
rank (Some Done) = 6

-- what becomes of the command of a number now: it goes on or stays, or is forgotten, and none comes
abbrev pub Becomes : (now : ℕ) → (before after : Option Flight) → Type 0
Becomes now None None = Unit {0}
Becomes now None (Some after) = ⊥
Becomes now (Some before) None = Unit {0}
Becomes now (Some before) (Some after) = HasGone now before after

-- each command of a queue is as far as it was, or farther, and none is done that wasn't. Those that are farther came to their stages now
pub record GoOn (now : ℕ) (before after : Flights) : Type 0 where
  pub rises : (n : ℕ) → rank (stage_at before n) ≤ rank (stage_at after n)
  pub done : (n : ℕ) → stage_at after n ≡ Some Done → stage_at before n ≡ Some Done
  pub times : (n : ℕ) → Becomes now (flight_at before n) (flight_at after n)

-- so, but for one that comes now, and asks for this: it may go on at once
pub record ComesOne (now : ℕ) (request : Request) (before after : Flights) : Type 0 where
  pub rises : (n : ℕ) → rank (stage_at before n) ≤ rank (stage_at after n)
  pub done : (n : ℕ) → stage_at after n ≡ Some Done → stage_at before n ≡ Some Done
  pub was : stage_at before (came_in before) ≡ None
  pub is : 0 < rank (stage_at after (came_in before))
  pub comes : Becomes now (Some (arrived now request)) (flight_at after (came_in before))
  pub others : (n : ℕ) → n ≢ came_in before → Becomes now (flight_at before n) (flight_at after n)

-- so, but for the command of a number, which is done now and wasn't: then it was this, which it stays where it is kept
pub record EndsOne (number : ℕ) (now : ℕ) (flight : Flight) (before after : Flights) : Type 0 where
  pub rises : (n : ℕ) → rank (stage_at before n) ≤ rank (stage_at after n)
  pub was : stage_at before number ≢ Some Done
  pub is : stage_at after number ≡ Some Done
  pub others : (n : ℕ) → n ≢ number → stage_at after n ≡ Some Done → stage_at before n ≡ Some Done
  pub old : Flight
  pub found : flight_at before number ≡ Some old
  pub gone : HasGone now old flight
  pub done : flight.stage ≡ Done
  pub here : Becomes now (Some flight) (flight_at after number)
  pub times : (n : ℕ) → n ≢ number → Becomes now (flight_at before n) (flight_at after n)

-- a command of a number asks for this
pub record HasAsked (number : ℕ) (f : Flights) (request : Request) : Type 0 where
  pub flight : Flight
  pub kept : flight_at f number ≡ Some flight
  pub is : request ≡ flight.request

-- a relation of a host before and after
abbrev pub Between : (Host → Host → Type 0) → Option Host → Option Host → Type 0
Between R (Some before) (Some after) = R before after
Between R None None = Unit {0}
Between R before after = ⊥

-- of one that there is
abbrev pub BetweenOne : (Host → Host → Type 0) → Option Host → Option Host → Type 0
BetweenOne R (Some before) (Some after) = R before after
BetweenOne R before after = ⊥

-- the commands of a host go on now, and it draws for none
pub record HostGoesOn (now : ℕ) (before after : Host) : Type 0 where
  pub flights : GoOn now before.flights after.flights
  pub asking : asking_of after ≡ asking_of before

-- so, but for one that is done now
pub record HostEndsOne (number : ℕ) (now : ℕ) (flight : Flight) (before after : Host) : Type 0 where
  pub flights : EndsOne number now flight before.flights after.flights
  pub asking : asking_of after ≡ asking_of before

-- so, but for one that comes now: what it asks for is drawn. Numbers count it or don't
pub record HostComesOne (now : ℕ) (counts : Bool) (before after : Host) : Type 0 where
  pub request : Request
  pub flights : ComesOne now request before.flights after.flights
  pub draws : Draws (next_in before.flights) (asking_of before) (asking_of after) request
  pub counted : request.counts ≡ counts

-- the commands of all queues go on
pub record AllGoOn (now : ℕ) (before after : Hosts) : Type 0 where
  pub each : (k : ℕ) → Between (HostGoesOn now) (slice_get before.all.items k) (slice_get after.all.items k)

-- so, but for a command of a queue, which is done now and wasn't
pub record OneEnds (qid number : ℕ) (now : ℕ) (flight : Flight) (before after : Hosts) : Type 0 where
  pub place : ℕ
  pub queue : qid ≡ place + 1
  pub ends : BetweenOne (HostEndsOne number now flight) (slice_get before.all.items place) (slice_get after.all.items place)
  pub others : (k : ℕ) → k ≢ place → Between (HostGoesOn now) (slice_get before.all.items k) (slice_get after.all.items k)

-- so, but for a command that comes to a queue now
pub record OneComes (qid : ℕ) (now : ℕ) (counts : Bool) (before after : Hosts) : Type 0 where
  pub place : ℕ
  pub queue : qid ≡ place + 1
  pub comes : BetweenOne (HostComesOne now counts) (slice_get before.all.items place) (slice_get after.all.items place)
  pub others : (k : ℕ) → k ≢ place → Between (HostGoesOn now) (slice_get before.all.items k) (slice_get after.all.items k)

-- a command of a queue asks for this
pub record AsksFor (qid number : ℕ) (hosts : Hosts) (request : Request) : Type 0 where
  pub place : ℕ
  pub queue : qid ≡ place + 1
  pub host : Host
  pub at : slice_get hosts.all.items place ≡ Some host
  pub asks : HasAsked number host.flights request

-- all commands that came are done
abbrev pub AreDone : Hosts → Type 0
AreDone hosts = All (λ h. AllDone h.flights) hosts.all.items
