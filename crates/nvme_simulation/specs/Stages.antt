-- How far the commands of a queue are, by their numbers. (profile)
use Rattle.std.specs.Prelude.{◌≡◌, ◌≢◌, ◌⊎◌, ℕ, ◌+◌, ◌-◌, nat_lt, if◌then◌else◌, Option, Some, None, option_map, length, min, slice_get}
use Rattle.nvme_simulation.specs.declared.flight.Flight.{Flight}
use Rattle.nvme_simulation.specs.declared.flight.Flights.{Flights}
use Rattle.nvme_simulation.specs.declared.flight.Request.{Request}
use Rattle.nvme_simulation.specs.declared.flight.Stage.{Stage}
use Rattle.nvme_simulation.specs.declared.flight.Stage.TheVariants.{Came, Done}
use Rattle.nvme_simulation.specs.Marks.{arrived, flight_at, gone_on}
use Rattle.nvme_simulation.specs.Ranks.{next_stage}

-- how far the command of a number is: none where it didn't come
abbrev pub stage_at : Flights → ℕ → Option Stage
stage_at f n = if nat_lt n f.first then Some Done else option_map (λ x. x.stage) (slice_get f.kept.items (n - f.first))

-- how many came
abbrev pub came_in : Flights → ℕ
came_in f = f.first + length f.kept.items

-- the number of the next one, which has 64 bits
abbrev pub next_in : Flights → ℕ
next_in f = min (came_in f) 0xffff_ffff_ffff_ffff

abbrev pub none_came : Flights → Type 0
none_came f = (n : ℕ) → stage_at f n ≡ None

-- a command is kept as it was, or forgotten
abbrev pub Keeps : (before after : Option Flight) → Type 0
Keeps before after = (after ≡ before) ⊎ (after ≡ None)

-- each command is as far as it was, and kept as it was or forgotten
pub record Stays (before after : Flights) : Type 0 where
  pub stages : (n : ℕ) → stage_at after n ≡ stage_at before n
  pub flights : (n : ℕ) → Keeps (flight_at before n) (flight_at after n)

-- the next number comes now, and asks for this. Each other command is as it was
pub record HasCome (now : ℕ) (request : Request) (before after : Flights) : Type 0 where
  pub was : stage_at before (came_in before) ≡ None
  pub is : stage_at after (came_in before) ≡ Some Came
  pub others : (n : ℕ) → n ≢ came_in before → stage_at after n ≡ stage_at before n
  pub here : flight_at after (came_in before) ≡ Some (arrived now request)
  pub there : (n : ℕ) → n ≢ came_in before → flight_at after n ≡ flight_at before n

-- the command of a number goes on from a stage to the next one, to which it comes now, and each other command is as it was. One that is done may be forgotten
pub record Moves (number : ℕ) (from : Stage) (now : ℕ) (flight : Flight) (before after : Flights) : Type 0 where
  pub was : stage_at before number ≡ Some from
  pub is : stage_at after number ≡ Some (next_stage from)
  pub others : (n : ℕ) → n ≢ number → stage_at after n ≡ stage_at before n
  pub old : Flight
  pub found : flight_at before number ≡ Some old
  pub stood : old.stage ≡ from
  pub gone : flight ≡ gone_on now old
  pub stage : flight.stage ≡ next_stage from
  pub here : Keeps (Some flight) (flight_at after number)
  pub there : (n : ℕ) → n ≢ number → Keeps (flight_at before n) (flight_at after n)

-- so, whatever it became
abbrev pub MovesOne : (number : ℕ) → Stage → (now : ℕ) → (before after : Flights) → Type 0
MovesOne number from now before after = (flight : Flight) × Moves number from now flight before after

-- so, and it asks for this
pub record MovesWith (request : Request) (number : ℕ) (from : Stage) (now : ℕ) (before after : Flights) : Type 0 where
  pub flight : Flight
  pub moves : Moves number from now flight before after
  pub asks : request ≡ flight.request

-- each command that came is done
abbrev pub AllDone : Flights → Type 0
AllDone f = (n : ℕ) → (stage_at f n ≡ None) ⊎ (stage_at f n ≡ Some Done)
