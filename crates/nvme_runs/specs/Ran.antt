-- What is left of a run that writes nothing. (profile)
use Rattle.std.specs.Prelude.{◌≡◌, ℕ, List, Option, None, Ok}
use Rattle.nvme_workload.specs.Plan.{Plan, workload_of}
use Rattle.nvme_front.specs.declared.settled.Settled.{Settled}
use Rattle.nvme_runs.specs.declared.runs.Ran.{Ran}

-- what was settled
abbrev pub settled_in : Ran → Settled
settled_in r = r.settled

-- nothing is written, and of nothing no bytes are known
abbrev pub no_bytes : Unit {0} → Option (List ℕ)
no_bytes w = None

-- the arbitration of a run begins with the mechanism and the settings of the workload of its text
pub record BeginsAs (text : List ℕ) (r : Ran) : Type 0 where
  pub plan : Plan
  pub is_workload : workload_of text ≡ Ok plan
  pub mechanism : r.mechanism ≡ plan.mechanism
  pub settings : r.settings ≡ plan.settings
