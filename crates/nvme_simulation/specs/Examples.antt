-- Worked examples of the definitions. (profile)
use Rattle.std.specs.Prelude.{◌≡◌, [], ◌∷◌}
use Rattle.nvme_simulation.specs.Marks.{arrived, went}
use Rattle.nvme_simulation.specs.Plans.{arrivals_at, first_pauses}
use Rattle.nvme_simulation.specs.declared.agenda.Event.TheVariants.{Arrival, Pause}
use Rattle.nvme_simulation.specs.declared.flight.Request.{Request}
use Rattle.nvme_simulation.specs.declared.flight.Stage.TheVariants.{Fetched, Done}

-- a command comes at 5, is submitted and read at 7, is picked and starts at 9, and is done at 20
pub record StagesAreTimed (r : Request) : Type 0 where
  pub read : went 2 7 (arrived 5 r) ≡ record { request = r; stage = Fetched; came = 5; submitted = 7; picked = 0; started = 0 }
  pub done : went 1 20 (went 2 9 (went 2 7 (arrived 5 r))) ≡ record { request = r; stage = Done; came = 5; submitted = 7; picked = 9; started = 9 }

-- three commands of queue 2 come at 0, and each of four channels pauses first a quarter later than the one before, of a time of 1000. The newest plan is first
pub record FirstEventsArePlanned : Type 0 where
  pub arrivals : arrivals_at 0 2 3
      ≡ record { at = 0; what = Arrival 2 } ∷ record { at = 0; what = Arrival 2 } ∷ record { at = 0; what = Arrival 2 } ∷ []
  pub pauses : first_pauses 1_000 4 4
      ≡ record { at = 1_000; what = Pause 3 } ∷ record { at = 750; what = Pause 2 } ∷ record { at = 500; what = Pause 1 } ∷ record { at = 250; what = Pause 0 } ∷ []
