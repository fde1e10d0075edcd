-- How many are in the system, from when they come to when they are done. (profile)
use Rattle.std.specs.Prelude.{◌≡◌, ◌≤◌, ℕ, zero, suc, ◌+◌, ◌-◌, ◌&&◌, Bool, nat_le, nat_lt, List, All, count_by}
use Rattle.std.specs.List.{sum_by}

-- when one comes, and when it is done
pub record Stay : Type 0 where
  pub came : ℕ
  pub done : ℕ

-- one is there from when it comes until it is done
abbrev pub is_there : ℕ → Stay → Bool
is_there t s = nat_le s.came t && nat_lt t s.done

-- how many are there at an instant
abbrev pub number_at : List Stay → ℕ → ℕ
number_at stays t = count_by (is_there t) stays

-- the area under this number: its sum over all instants before a time
abbrev pub area_until : List Stay → ℕ → ℕ
area_until stays zero = 0
area_until stays (suc t) = area_until stays t + number_at stays t

-- how long all stay together
abbrev pub sojourns_of : List Stay → ℕ
sojourns_of stays = sum_by (λ s. s.done - s.came) stays

-- one is done no earlier than it comes, and no later than a time
pub record IsDoneBy (time : ℕ) (s : Stay) : Type 0 where
  pub after : s.came ≤ s.done
  pub before : s.done ≤ time

-- Little's law, of any stays that are done by a time
abbrev pub IsLittle : ℕ → List Stay → Type 0
IsLittle time stays = All (IsDoneBy time) stays → area_until stays time ≡ sojourns_of stays
