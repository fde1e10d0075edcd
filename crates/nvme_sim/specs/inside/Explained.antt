-- The answer of a run with its fault explained. (profile)
use Rattle.std.specs.Prelude.{◌≡◌, ◌⊎◌, Result, Ok, Err}
use Rattle.nvme_runs.specs.declared.runs.RunError.TheVariants as run
use Rattle.nvme_sim.specs.Statuses.{status_of}
use Rattle.nvme_sim.specs.declared.faults.Fault.{Fault}
use Rattle.nvme_sim.specs.declared.faults.Fault.TheVariants as fault

-- a fault has the same status, and a failed write is told as it was
pub record IsExplainedFault (was is : Fault) : Type 0 where
  pub status : status_of is ≡ status_of was
  pub write : (was ≡ fault.Write) ⊎ (was ≡ fault.Run run.Write) → is ≡ was

-- an answer stays as it is, and only a fault is told in more words
abbrev pub IsExplained : {T : Type 0} → Result T Fault → Result T Fault → Type 0
IsExplained (Ok was) (Ok is) = is ≡ was
IsExplained (Err was) (Err is) = IsExplainedFault was is
IsExplained (Ok was) (Err is) = ⊥
IsExplained (Err was) (Ok is) = ⊥
