-- What a run answers, whether or not it is given gates. (profile)
use Rattle.std.specs.Prelude.{◌≡◌, ◌≢◌, ◌↔◌, ◌⊎◌, ℕ, List, Option, Result, Err, IfOk, IfErr, IsErrOf}
use Rattle.std.specs.Io.KnownBytes.{Appends}
use Rattle.nvme_lane.specs.Limits.{IsOutside}
use Rattle.nvme_pool.specs.Limits.{max_workers}
use Rattle.nvme_workload.specs.declared.error.WorkloadError.{WorkloadError}
use Rattle.nvme_workload.specs.declared.error.WorkloadError.TheVariants as why
use Rattle.nvme_workload.specs.Plan.{workload_of}
use Rattle.nvme_front.specs.declared.front.FrontError.{FrontError}
use Rattle.nvme_front.specs.declared.settled.Settled.{Settled}
use Rattle.nvme_lane.specs.declared.mode.Mode.{Mode}
use Rattle.nvme_report.specs.Report.{report_text}
use Rattle.nvme_output.specs.Written.{AppendsPrefix}
use Rattle.nvme_runs.specs.declared.runs.RunError.{RunError}
use Rattle.nvme_runs.specs.declared.runs.RunError.TheVariants as fault
use Rattle.nvme_runs.specs.Runs.{IsRun}
use Rattle.nvme_runs.specs.RunFaults.{RunFails, IsTooLong}

-- a run of a text with this many workers answers this, where `settled_in` is what was settled of what it answers with Ok, and its writer, whose
-- known bytes are `bytes_of`, was `old` and is `new`
pub record RunMeans {T W : Type 0} (result : Result T RunError) (settled_in : T → Settled) (old new : W) (bytes_of : W → Option (List ℕ))
    (text : List ℕ) (mode : Mode) (workers : ℕ) : Type 0 where
  -- with Ok the run is the whole account of the workload, and its report was written
  pub account : IfOk result (λ r. IsRun text mode (settled_in r))
  pub written : IfOk result (λ r. Appends (bytes_of old) (bytes_of new) (report_text mode (settled_in r)))
  -- nothing was written where the fault isn't that of a write, and then a prefix of the report of a run that is as after Ok
  pub untouched : IfErr result (λ e. e ≢ fault.Write → new ≡ old)
  pub write_failed : IfErr result (λ e. e ≡ fault.Write → (s : Settled) × IsRun text mode s × AppendsPrefix (bytes_of old) (bytes_of new) (report_text mode s))
  -- the number of workers
  pub workers_are : IsErrOf result fault.Workers ↔ IsOutside workers 1 max_workers
  -- the faults of the workload, which are never `NoMemory`
  pub workload : (w : WorkloadError) → IsErrOf result (fault.Workload w) → workload_of text ≡ Err w
  pub never_memory : IsErrOf result (fault.Workload why.NoMemory) → ⊥
  pub faulty : (w : WorkloadError) → (IsOutside workers 1 max_workers → ⊥) → workload_of text ≡ Err w → IsErrOf result (fault.Workload w) ⊎ IsErrOf result fault.NoMemory
  -- a script that is too long for its ring
  pub too_long : (r : ℕ) → IsErrOf result (fault.TooLong r) → IsTooLong text mode r
  pub longer : (r : ℕ) → (IsOutside workers 1 max_workers → ⊥) → IsTooLong text mode r → IsErrOf result (fault.TooLong r) ⊎ IsErrOf result fault.NoMemory
  -- the faults of the front
  pub front : (e : FrontError) → IsErrOf result (fault.Front e) → RunFails text e
