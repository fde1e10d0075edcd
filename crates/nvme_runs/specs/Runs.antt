-- What a run of a workload is. (profile)
use Rattle.std.specs.Prelude.{◌≡◌, ◌⊎◌, ℕ, ◌<◌, ◌≤◌, Bool, true, false, List, [], ◌∷◌, ◌++◌, length, map, reverse, slice_index_or, sum_by, Ok}
use Rattle.std.specs.List.{All, fold, range_with_len}
use Rattle.nvme_entry.specs.declared.submission.Sqe.{Sqe}
use Rattle.nvme_lane.specs.Feeder.{script_of, count_of}
use Rattle.nvme_lane.specs.declared.feeder.Feeder.{Feeder}
use Rattle.nvme_admin.specs.History.{TableHistory, RegionAdded, Submission, Completion}
use Rattle.nvme_workload.specs.declared.error.WorkloadError.{WorkloadError}
use Rattle.nvme_workload.specs.declared.error.WorkloadError.TheVariants as why
use Rattle.nvme_workload.specs.declared.plan.SqPlan.{SqPlan}
use Rattle.nvme_workload.specs.declared.plan.CqPlan.{CqPlan}
use Rattle.nvme_workload.specs.Plan.{Plan, workload_of}
use Rattle.nvme_threads.specs.declared.drives.DriveError.{DriveError}
use Rattle.nvme_threads.specs.declared.drives.DriveError.TheVariants as drive
use Rattle.nvme_front.specs.declared.settled.Sent.{Sent}
use Rattle.nvme_front.specs.declared.settled.Settled.{Settled}
use Rattle.nvme_log.specs.Rules.{FrontRules, Past}
use Rattle.nvme_log.specs.Account.{IsWholeAccount}
use Rattle.nvme_log.specs.Loaded.{IsLoadedLog, without_posts}
use Rattle.nvme_log.specs.Dispatches.{dispatched}
use Rattle.nvme_jobs.specs.Answers.{AnswersHaveTickets}
use Rattle.nvme_front.specs.Hosts.{sent_at, collected_at}
use Rattle.nvme_front.specs.Settles.{settled_past}
use Rattle.nvme_front.specs.View.{FrontView, past_in}
use Rattle.nvme_log.specs.Queues.{is_serving}
use Rattle.nvme_lane.specs.declared.mode.Mode.{Mode}
use Rattle.nvme_lane.specs.declared.mode.Mode.TheVariants.{Loaded, Live}
use Rattle.nvme_runs.specs.declared.runs.RunError.{RunError}
use Rattle.nvme_runs.specs.declared.runs.RunError.TheVariants as fault

-- ---- what a workload gives a front
abbrev pub sq_additions : List SqPlan → TableHistory
sq_additions plans = reverse (map (λ (s : SqPlan). RegionAdded Submission s.address s.slots) plans)

abbrev pub cq_additions : List CqPlan → TableHistory
cq_additions plans = reverse (map (λ (c : CqPlan). RegionAdded Completion c.address c.slots) plans)

-- what the front of a workload is given
abbrev pub rules_for : Plan → FrontRules
rules_for plan = record {
  mechanism = plan.mechanism;
  start = record { nsq = plan.nsq; ncq = plan.ncq; settings = plan.settings };
  sizes = plan.sizes;
  regions = cq_additions plan.completions ++ sq_additions plan.submissions;
}

-- the script of a submission region
abbrev pub script_for : Plan → ℕ → List Sqe
script_for plan r = slice_index_or (map (λ (s : SqPlan). s.script) plan.submissions) r []

abbrev pub is_loaded : Mode → Bool
is_loaded Loaded = true
is_loaded Live = false

-- ---- what a run is
-- what is settled has the script of each submission region with how many of its commands were submitted, and a list for each completion
-- region, and nothing else
pub record HasItsHosts (plan : Plan) (settled : Settled) : Type 0 where
  pub scripts : map (λ (s : Sent). s.script.items) settled.sent.items ≡ map (λ (s : SqPlan). s.script) plan.submissions
  pub counts : All (λ (s : Sent). s.count ≤ length s.script.items) settled.sent.items
  pub lists : length settled.collected.items ≡ length plan.completions

-- what is settled has the hosts of the workload of a text, and is its whole account, in which each I/O command that was answered, and not as an
-- aborted one, has a ticket. In a loaded run its log, posts left out, is the loaded log of the workload, of which there is one
pub record IsRun (text : List ℕ) (mode : Mode) (settled : Settled) : Type 0 where
  pub plan : Plan
  pub is_workload : workload_of text ≡ Ok plan
  pub hosts : HasItsHosts plan settled
  pub account : IsWholeAccount (rules_for plan) (is_loaded mode) (script_for plan) (sent_at settled.sent.items) (settled_past settled)
      (collected_at settled.collected.items)
  pub answered : AnswersHaveTickets (settled_past settled)
  pub loaded : mode ≡ Loaded → IsLoadedLog (rules_for plan) (script_for plan) (without_posts (settled_past settled))

-- ---- what becomes of the gates
module _ {G : Type 0} (runs : G → ℕ → G) where
  -- the view of a gate after the executions of these tickets, in order
  abbrev pub view_after : G → List ℕ → G
  view_after view tickets = fold runs view tickets

  -- each gate was told of the executions at its place, and of no other
  abbrev pub AreTold : List G → List (List ℕ) → List G → Type 0
  AreTold [] [] [] = Unit {0}
  AreTold (v ∷ vs) (tickets ∷ rest) (v' ∷ vs') = (v' ≡ view_after v tickets) × AreTold vs rest vs'
  AreTold _ _ _ = ⊥

  -- for each gate there is a list of tickets of whose executions it was told, and over all lists the ticket of each picked place of an I/O
  -- queue stands once, and no other. Tickets are weighed in any way, so that a weight of 1 for one and of 0 for the others counts it
  pub record GatesRan (gates gates' : List G) (past : Past) : Type 0 where
    pub tickets : List (List ℕ)
    pub told : AreTold gates tickets gates'
    pub once : (w : ℕ → ℕ) → sum_by (λ (ts : List ℕ). sum_by w ts) tickets ≡ sum_by w (range_with_len 0 (length (dispatched past)))

-- ---- refusals
-- how a fault of a workload is told
abbrev pub fault_of : WorkloadError → RunError
fault_of why.NoMemory = fault.NoMemory
fault_of e = fault.Workload e

-- how a drive that came to nothing is told
abbrev pub fault_of_drive : DriveError → RunError
fault_of_drive drive.NoMemory = fault.NoMemory
fault_of_drive (drive.Front e) = fault.Front e

-- a script has no more commands than the ring of its region holds
abbrev pub Fits : SqPlan → Type 0
Fits s = length s.script < s.slots

abbrev pub FitsAll : List SqPlan → Type 0
FitsAll [] = Unit {0}
FitsAll (s ∷ rest) = Fits s × FitsAll rest

-- this submission region is the first whose script doesn't fit its ring
pub record IsFirstTooLong (plans : List SqPlan) (r : ℕ) : Type 0 where
  pub before : List SqPlan
  pub plan : SqPlan
  pub after : List SqPlan
  pub are : plans ≡ before ++ plan ∷ after
  pub place : length before ≡ r
  pub fit_before : FitsAll before
  pub too_long : plan.slots ≤ length plan.script

-- the script of a region is due: in a loaded run, or where a queue of the region is open or closing
abbrev pub IsDue : Mode → FrontView → ℕ → Type 0
IsDue mode v r = (mode ≡ Loaded) ⊎ (is_serving (past_in v) r ≡ true)

-- each feeder of a region whose script is due submitted it to its end
abbrev pub AllSubmitted : Mode → FrontView → List (Feeder Sqe) → Type 0
AllSubmitted mode v feeders = (r : ℕ) (f : Feeder Sqe) → r < length feeders → IsDue mode v r
    → count_of (slice_index_or feeders r f) ≡ length (script_of (slice_index_or feeders r f))
