-- When a command comes to its stages. (profile)
use Rattle.std.specs.Prelude.{◌≡◌, ℕ, zero, suc, Bool, nat_lt, if◌then◌else◌, ◌-◌, ◌+◌, Option, None, slice_get}
use Rattle.nvme_model.specs.declared.finished.Finished.{Finished}
use Rattle.nvme_simulation.specs.declared.flight.Flight.{Flight}
use Rattle.nvme_simulation.specs.declared.flight.Flights.{Flights}
use Rattle.nvme_simulation.specs.declared.flight.Request.{Request}
use Rattle.nvme_simulation.specs.declared.flight.Stage.{Stage}
use Rattle.nvme_simulation.specs.declared.flight.Stage.TheVariants.{Came, Submitted, Fetched, Picked, Started, Done}

-- a command that comes now, and asks for this
abbrev pub arrived : ℕ → Request → Flight
arrived now request = record { request = request; stage = Came; came = now; submitted = 0; picked = 0; started = 0 }

-- one at a stage comes to the next one now. No time is kept of when it is read, and that of its end is told
abbrev pub gone_from : Stage → ℕ → Flight → Flight
gone_from Came now f = record f { stage = Submitted; submitted = now }
gone_from Submitted now f = record f { stage = Fetched }
gone_from Fetched now f = record f { stage = Picked; picked = now }
gone_from Picked now f = record f { stage = Started; started = now }
gone_from Started now f = record f { stage = Done }
gone_from Done now f = record f { stage = Done }

abbrev pub gone_on : ℕ → Flight → Flight
gone_on now f = gone_from f.stage now f

-- so many stages further, to all of which it comes now
unfoldable pub went : (stages now : ℕ) → Flight → Flight
went zero now f = f
went (suc stages) now f = gone_on now (went stages now f)

-- a command is as it was, or some stages further, to which it came now: what it asks for and the times of all other stages stay
pub record HasGone (now : ℕ) (before after : Flight) : Type 0 where
  pub stages : ℕ
  pub is : after ≡ went stages now before

-- the command of a number: none where it didn't come, or is done and forgotten
abbrev pub flight_at : Flights → ℕ → Option Flight
flight_at f n = if nat_lt n f.first then None else slice_get f.kept.items (n - f.first)

-- what is told of a command that is done now: what it asked for, whether numbers count it, and the times at which it came to its stages. It is done when it
-- ran for its service
pub record IsToldOf (flight : Flight) (now : ℕ) (told : Finished) (counts : Bool) : Type 0 where
  pub came : told.times.came ≡ flight.came
  pub submitted : told.times.submitted ≡ flight.submitted
  pub picked : told.times.picked ≡ flight.picked
  pub started : told.times.started ≡ flight.started
  pub done : told.times.done ≡ now
  pub service : told.times.done ≡ flight.started + flight.request.service
  pub operation : told.operation ≡ flight.request.operation
  pub block : told.block ≡ flight.request.block
  pub blocks : told.blocks ≡ flight.request.blocks
  pub counted : counts ≡ flight.request.counts
