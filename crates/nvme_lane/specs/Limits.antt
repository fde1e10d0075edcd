-- The sizes that rings and lanes may have (profile). Everything that speaks of a limit names it here.
use Rattle.std.specs.Prelude.{ℕ, ◌<◌, ◌⊎◌}

-- the fewest slots of a ring
abbrev pub min_slots : ℕ
min_slots = 2

-- the most slots of a ring
abbrev pub max_slots : ℕ
max_slots = 4096

-- the most items that a lane may hold
abbrev pub max_capacity : ℕ
max_capacity = 256

-- the most producers of a lane, and the most consumers
abbrev pub max_passes : ℕ
max_passes = 8

-- n is below `low` or above `high`
abbrev pub IsOutside : ℕ → ℕ → ℕ → Type 0
IsOutside n low high = (n < low) ⊎ (high < n)

-- no lane may have this capacity with these numbers of producers and consumers
abbrev pub IsNoLaneSize : ℕ → ℕ → ℕ → Type 0
IsNoLaneSize cap producers consumers =
    IsOutside cap 1 max_capacity ⊎ (IsOutside producers 1 max_passes ⊎ IsOutside consumers 1 max_passes)
