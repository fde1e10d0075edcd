-- What is said of a workload file. (profile)
use Rattle.std.specs.Prelude.{◌≡◌, ℕ, List, Ok}
use Rattle.nvme_workload.specs.Plan.{Plan, workload_of}

-- the bytes are a workload file
abbrev pub IsLawful : List ℕ → Type 0
IsLawful bytes = (plan : Plan) × (workload_of bytes ≡ Ok plan)
