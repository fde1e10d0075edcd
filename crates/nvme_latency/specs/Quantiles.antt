-- Order statistics of a list of latencies, in any order. (profile)
use Rattle.std.specs.Prelude.{◌≤◌, ◌<◌, ℕ, ◌+◌, ◌-◌, ◌*◌, ◌/◌, List, All, Contains, count_by, length, nat_le}
use Rattle.nvme_latency.specs.declared.ranked.TheConstants.{PARTS}

-- how many latencies are no longer than a time
abbrev pub reached_by : ℕ → List ℕ → ℕ
reached_by time times = count_by (λ t. nat_le t time) times

-- how many of so many are this many of all parts of them, rounded up
abbrev pub rank_of : ℕ → ℕ → ℕ
rank_of parts count = (parts * count + (PARTS - 1)) / PARTS

-- the shortest time that as many latencies as the rank don't exceed
pub record IsQuantile (parts : ℕ) (times : List ℕ) (q : ℕ) : Type 0 where
  pub reaches : rank_of parts (length times) ≤ reached_by q times
  pub shortest : (t : ℕ) → t < q → reached_by t times < rank_of parts (length times)

pub record IsLongest (times : List ℕ) (m : ℕ) : Type 0 where
  pub of_all : All (λ t. t ≤ m) times
  pub among : Contains times m
