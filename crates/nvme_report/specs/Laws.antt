-- The law of reports: the report of a loaded run is a function of its workload (profile).
use Rattle.std.specs.Prelude.{◌≡◌, ℕ, ◌≤◌, true, List, [], length, map, slice_index_or}
use Rattle.std.specs.List.{All}
use Rattle.nvme_entry.specs.declared.submission.Sqe.{Sqe}
use Rattle.nvme_log.specs.Rules.{FrontRules}
use Rattle.nvme_log.specs.Account.{IsWholeAccount}
use Rattle.nvme_log.specs.Loaded.{without_posts}
use Rattle.nvme_front.specs.declared.settled.Sent.{Sent}
use Rattle.nvme_front.specs.declared.settled.Settled.{Settled}
use Rattle.nvme_front.specs.Hosts.{sent_at, collected_at}
use Rattle.nvme_front.specs.Settles.{settled_past}
use Rattle.nvme_lane.specs.declared.mode.Mode.TheVariants.{Loaded}
use Rattle.nvme_report.specs.Report.{report_text}

-- the script of the host of a submission region
abbrev pub script_at : List Sent → ℕ → List Sqe
script_at sent r = slice_index_or (map (λ (s : Sent). s.script.items) sent) r []

-- what is settled is left of a loaded run: its hosts had these scripts, none of them submitted more than its own, and it is the whole account of
-- the scripts, submitted before the first turn
pub record IsLoadedRun (rules : FrontRules) (scripts : ℕ → List Sqe) (settled : Settled) : Type 0 where
  pub hosts : (r : ℕ) → script_at settled.sent.items r ≡ scripts r
  pub counts : All (λ (s : Sent). s.count ≤ length s.script.items) settled.sent.items
  pub account : IsWholeAccount rules true scripts (sent_at settled.sent.items) (settled_past settled) (collected_at settled.collected.items)

-- two loaded runs of the same rules and scripts, with the same numbers of hosts, whose logs are equal without their posts
pub record AreAlike (rules : FrontRules) (scripts : ℕ → List Sqe) (one other : Settled) : Type 0 where
  pub one_run : IsLoadedRun rules scripts one
  pub other_run : IsLoadedRun rules scripts other
  pub submitters : length one.sent.items ≡ length other.sent.items
  pub collectors : length one.collected.items ≡ length other.collected.items
  pub logs : without_posts (settled_past one) ≡ without_posts (settled_past other)

-- the reports of two such runs are equal, whatever order their posts have
abbrev pub ReportsAreOne : Type 0
ReportsAreOne = (rules : FrontRules) (scripts : ℕ → List Sqe) (one other : Settled)
    → AreAlike rules scripts one other → report_text Loaded one ≡ report_text Loaded other
