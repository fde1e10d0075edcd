-- Which faults of a run come from where. (profile)
use Rattle.std.specs.Prelude.{◌≡◌, ◌≢◌, ℕ, false, List, [], Ok, Err}
use mathlib.Core.List.{IsPrefix}
use Rattle.nvme_workload.specs.Plan.{Plan, workload_of}
use Rattle.nvme_workload.specs.Sound.{IsSound}
use Rattle.nvme_workload.specs.declared.error.WorkloadError.TheVariants as why
use Rattle.std.specs.List.{All}
use Rattle.nvme_pool.specs.Pool.{IsFreshEnd}
use Rattle.nvme_log.specs.Limits.{most_events}
use Rattle.nvme_front.specs.View.{FrontView, got_in}
use Rattle.nvme_front.specs.declared.front.FrontError.{FrontError}
use Rattle.nvme_front.specs.declared.front.FrontError.TheVariants as front
use Rattle.nvme_lane.specs.declared.mode.Mode.{Mode}
use Rattle.nvme_lane.specs.declared.mode.Mode.TheVariants.{Loaded}
use Rattle.nvme_runs.specs.declared.runs.RunError.{RunError}
use Rattle.nvme_runs.specs.declared.runs.RunError.TheVariants as fault
use Rattle.nvme_threads.specs.Faults.{TurnFails}
use Rattle.nvme_runs.specs.Runs.{IsFirstTooLong, rules_for, script_for}

-- a script of the workload of a text is too long for its ring
pub record IsTooLong (text : List ℕ) (mode : Mode) (r : ℕ) : Type 0 where
  pub plan : Plan
  pub is_workload : workload_of text ≡ Ok plan
  pub is_loaded : mode ≡ Loaded
  pub first : IsFirstTooLong plan.submissions r

-- the faults of a text, before anything runs. A fault that is `NoMemory` is told as the run's `NoMemory`
abbrev pub IsTextFault : List ℕ → Mode → RunError → Type 0
IsTextFault text mode fault.NoMemory = Unit {0}
IsTextFault text mode (fault.Workload why.NoMemory) = ⊥
IsTextFault text mode (fault.Workload w) = workload_of text ≡ Err w
IsTextFault text mode (fault.TooLong r) = IsTooLong text mode r
IsTextFault text mode e = ⊥

-- a turn of a front failed so, which has the rules and the limit of a front that is made for a plan, and until its
-- turns had logged nothing, handed no job and gained no result
pub record FrontFails (plan : Plan) (e : FrontError) : Type 0 where
  pub given : FrontView
  pub rules : given.rules ≡ rules_for plan
  pub limit : given.limit ≡ most_events
  pub log : given.log ≡ []
  pub not_late : given.late ≡ false
  pub none_handed : given.hands.seat.handed ≡ []
  pub none_gained : All IsFreshEnd given.hands.seat.ends
  pub fails : TurnFails given e
  -- the plan is one that is read, and what the front had got then from each region is the first of the region's script
  pub sound : IsSound plan
  pub scripts : (r : ℕ) → IsPrefix (got_in fails.after r) (script_for plan r)

-- the faults that come while a workload runs, or after it. A front's `NoMemory` is told as the run's `NoMemory`
abbrev pub IsLateFault : Plan → RunError → Type 0
IsLateFault plan fault.NoMemory = Unit {0}
IsLateFault plan (fault.Front front.NoMemory) = ⊥
IsLateFault plan (fault.Front e) = FrontFails plan e
IsLateFault plan fault.GaveUp = Unit {0}
IsLateFault plan e = ⊥

-- a turn of the front of the workload of a text failed with this error, which isn't `NoMemory`
pub record RunFails (text : List ℕ) (e : FrontError) : Type 0 where
  pub plan : Plan
  pub is_workload : workload_of text ≡ Ok plan
  pub not_memory : e ≢ front.NoMemory
  pub fails : FrontFails plan e
