-- Worked examples of the definitions. (profile)
use Rattle.std.specs.Prelude.{◌≡◌, ℕ, List, [], ◌∷◌}
use Rattle.nvme_occupancy.specs.Stays.{Stay, area_until, number_at, sojourns_of}

abbrev pub stay : ℕ → ℕ → Stay
stay came done = record { came = came; done = done }

abbrev pub three : List Stay
three = stay 0 3 ∷ stay 1 2 ∷ stay 1 5 ∷ []

pub record StayExamples : Type 0 where
  pub one : number_at three 0 ≡ 1
  pub all : number_at three 1 ≡ 3
  pub one_is_done : number_at three 2 ≡ 2
  pub none : number_at three 5 ≡ 0
  pub area : area_until three 5 ≡ 8
  pub area_before : area_until three 2 ≡ 4
  pub sojourns : sojourns_of three ≡ 8
