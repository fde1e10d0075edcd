-- The laws of runs (profile).
use Rattle.std.specs.Prelude.{◌≡◌, ℕ, List, ◌∷◌, ◌++◌, take, reverse, Some, slice_get}
use Rattle.nvme_entry.specs.declared.submission.Sqe.{Sqe}
use Rattle.nvme_entry.specs.declared.completion.Cqe.{Cqe}
use Rattle.nvme_admin.specs.Accepted.{status_of}
use Rattle.nvme_log.specs.declared.event.Event.TheVariants.{Post}
use Rattle.nvme_log.specs.Rules.{Past}
use Rattle.nvme_log.specs.Foreseen.{foreseen}
use Rattle.nvme_front.specs.Settles.{settled_past}
use Rattle.nvme_lane.specs.declared.mode.Mode.{Mode}
use Rattle.nvme_front.specs.declared.front.FrontError.{FrontError}
use Rattle.nvme_front.specs.declared.front.FrontError.TheVariants.{Stray}
use Rattle.nvme_front.specs.declared.settled.Settled.{Settled}
use Rattle.nvme_lane.specs.declared.mode.Mode.TheVariants.{Loaded}
use Rattle.nvme_report.specs.Report.{report_text}
use Rattle.nvme_runs.specs.Runs.{IsRun, rules_for, script_for}
use Rattle.nvme_runs.specs.RunFaults.{RunFails}

-- what is settled of two loaded runs of one text has one report
abbrev pub LoadedRunsAreOne : Type 0
LoadedRunsAreOne = (text : List ℕ) (one other : Settled) → IsRun text Loaded one → IsRun text Loaded other → report_text Loaded one ≡ report_text Loaded other

-- the one fault of the front that a run can answer is a result that no job waits for: its log is never full, since a workload has too few
-- commands to fill it
abbrev pub FrontFaultsAreStrays : Type 0
FrontFaultsAreStrays = (text : List ℕ) (e : FrontError) → RunFails text e → (ticket : ℕ) × (e ≡ Stray ticket)

-- the completion of each admin command of a run says the status that the commands before it in its script let foresee, after the regions of
-- the workload
abbrev pub RunsAnswerAsForeseen : Type 0
RunsAnswerAsForeseen = (text : List ℕ) (mode : Mode) (settled : Settled) (run : IsRun text mode settled) (later before : Past) (c k : ℕ) (cqe : Cqe) (entry : Sqe)
    → settled_past settled ≡ later ++ Post c 0 k cqe ∷ before → slice_get (script_for run.plan 0) k ≡ Some entry
    → cqe.status ≡ status_of (rules_for run.plan).start (foreseen (rules_for run.plan).start (rules_for run.plan).regions (reverse (take k (script_for run.plan 0)))) entry
