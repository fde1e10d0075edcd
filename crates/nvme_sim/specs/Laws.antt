-- What lint foresees of a workload is what its runs answer (profile).
use Rattle.std.specs.Prelude.{◌≡◌, ℕ, List, ◌∷◌, ◌++◌, take, reverse, Some, slice_get}
use Rattle.nvme_entry.specs.Status.{StatusCode}
use Rattle.nvme_entry.specs.declared.submission.Sqe.{Sqe}
use Rattle.nvme_entry.specs.declared.completion.Cqe.{Cqe}
use Rattle.nvme_admin.specs.Accepted.{status_of}
use Rattle.nvme_workload.specs.Plan.{Plan}
use Rattle.nvme_log.specs.declared.event.Event.TheVariants.{Post}
use Rattle.nvme_log.specs.Rules.{Past}
use Rattle.nvme_front.specs.Settles.{settled_past}
use Rattle.nvme_front.specs.declared.settled.Settled.{Settled}
use Rattle.nvme_lane.specs.declared.mode.Mode.{Mode}
use Rattle.nvme_runs.specs.Runs.{IsRun}
use Rattle.nvme_lint.specs.Warnings.{start_of, first_history, history_of, admin_script}

-- the status by which lint judges the admin command at a place of the script
abbrev pub foreseen_status : Plan → ℕ → Sqe → StatusCode
foreseen_status p k entry = status_of (start_of p) (history_of (start_of p) (first_history p) (reverse (take k (admin_script p.submissions)))) entry

-- the completion of each admin command of a run says that status
abbrev pub LintForeseesAnswers : Type 0
LintForeseesAnswers = (text : List ℕ) (mode : Mode) (settled : Settled) (run : IsRun text mode settled) (later before : Past) (c k : ℕ) (cqe : Cqe) (entry : Sqe)
    → settled_past settled ≡ later ++ Post c 0 k cqe ∷ before → slice_get (admin_script run.plan.submissions) k ≡ Some entry
    → cqe.status ≡ foreseen_status run.plan k entry
