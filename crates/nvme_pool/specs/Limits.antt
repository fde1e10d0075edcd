-- The sizes of a pool (profile). Everything that speaks of a limit names it here.
use Rattle.std.specs.Prelude.{ℕ}

-- the most workers of a pool; the fewest is 1
abbrev pub max_workers : ℕ
max_workers = 8

-- how many jobs the lane holds at most
abbrev pub job_capacity : ℕ
job_capacity = 256

-- the slots of each worker's result ring
abbrev pub result_slots : ℕ
result_slots = 256
