-- A loaded run is one function of its workload.
use Rattle.std.proofs.Common.{◌≡◌, ℕ, zero, suc, ◌<◌, ◌≤◌, ◌||◌, ◌&&◌, Bool, true, false, nat_le, List, [], ◌∷◌, length, get_or, Option, Some, None, refl, sym, ap, ◌∙◌, subst, arith, inl, inr, length-append}
use Rattle.std.specs.Prelude.{MatchOption}
use Rattle.std.specs.List.{list_all, list_any}
use Rattle.std.proofs.Math.Bool.{or-true}
use Rattle.std.proofs.lemmas.Bool.{cases_lt, eq-eqb, le-leb}
use Rattle.std.proofs.lemmas.List.{length-map}
use Rattle.std.proofs.lemmas.List.Folds.{list_all-append, list_any-append}
use Rattle.nvme_entry.specs.declared.submission.Sqe.{Sqe}
use Rattle.nvme_entry.specs.declared.completion.Cqe.{Cqe}
use Rattle.nvme_arbiter.specs.Limits.{queue_limit}
use Rattle.nvme_workload.specs.declared.plan.SqPlan.{SqPlan}
use Rattle.nvme_workload.specs.Plan.{Plan}
use Rattle.nvme_log.specs.Rules.{FrontRules, Past, upto, window_at}
use Rattle.nvme_log.specs.Queues.{Queue, open_sq, has_region, is_open_region}
use Rattle.nvme_log.specs.Places.{fetched, waiting}
use Rattle.nvme_log.specs.Account.{IsWholeAccount}
use Rattle.nvme_log.specs.Loaded.{without_posts, is_filled, LoadedSoFar, LoadedAtEnd, IsLoadedLog}
use Rattle.nvme_log.proofs.WithoutPosts.{effects_since-posts, made_last-posts, pending-posts, waiting-posts, is_filled-at}
use Rattle.nvme_log.proofs.LoadedLaws.{loaded_log_is_one}
use Rattle.nvme_front.specs.declared.settled.Sent.{Sent}
use Rattle.nvme_front.specs.declared.settled.Settled.{Settled}
use Rattle.nvme_front.specs.declared.settlement.Parts.{Parts}
use Rattle.nvme_front.specs.Settles.{settled_past}
use Rattle.nvme_front.specs.View.{FrontView, GoesOn, past_in}
use Rattle.nvme_front.specs.LoadedFront.{IsLoadedFront}
use Rattle.nvme_front.proofs.Loading.{loaded-at-start}
use Rattle.nvme_threads.specs.Loaded.{FetchedWithin, StaysLoaded}
use Rattle.nvme_report.specs.Laws.{IsLoadedRun}
use Rattle.nvme_lane.specs.declared.mode.Mode.TheVariants.{Loaded}
use Rattle.nvme_report.proofs.LoadedReports.{reports_are_one}
use Rattle.nvme_runs.specs.Laws.{LoadedRunsAreOne}
use Rattle.nvme_runs.specs.Runs.{AllSubmitted, IsRun, rules_for, script_for}
use Rattle.nvme_runs.specs.inside.Prepared.{IsPrepared}
use Rattle.nvme_runs.proofs.Accounts.{submitted_whole}
use Rattle.nvme_runs.proofs.Meaning.{one_plan}

-- ---- tests of all numbers below one
all_upto : (test : ℕ → Bool) (n : ℕ) → ((i : ℕ) → i < n → test i ≡ true) → list_all test (upto n) ≡ true
all_upto test zero h = refl
all_upto test (suc n) h =
    list_all-append test (upto n) (n ∷ []) ∙ (λ t. all_upto test n (λ i l. h i (omega arith)) t && (h n (omega arith) t && true))

any_upto : (test : ℕ → Bool) (n i : ℕ) → i < n → test i ≡ true → list_any test (upto n) ≡ true
any_upto test zero i l h = absurd (omega arith)
any_upto test (suc n) i l h =
    list_any-append test (upto n) (n ∷ []) ∙ elim (cases_lt i n) [
      | inl below ↦ ap (λ b. b || (test n || false)) (any_upto test n i below h)
      | inr from ↦
          let same : i ≡ n = omega arith in
          ap (λ b. list_any test (upto n) || (b || false)) (subst (λ k. test k ≡ true) same h) ∙ or-true (list_any test (upto n))
    ]

-- ---- the end of a whole account
-- the region of an open queue is open
open_region : (past : Past) (q : ℕ) (queue : Queue) → q < queue_limit → open_sq past q ≡ Some queue → is_open_region past queue.region ≡ true
open_region past q queue l is =
    any_upto (λ (k : ℕ). has_region queue.region (open_sq past k)) queue_limit q l (ap (has_region queue.region) is ∙ eq-eqb queue.region queue.region refl)

-- each open queue is filled where all of the script was fetched
queue_filled : (rules : FrontRules) (scripts : ℕ → List Sqe) (past : Past) (o : Option Queue)
    → ((queue : Queue) → o ≡ Some queue → fetched past queue.region ≡ scripts queue.region) → is_filled rules scripts past o ≡ true
queue_filled rules scripts past None done = refl
queue_filled rules scripts past (Some queue) done =
    ap (λ b. b || nat_le (window_at rules queue.region) (length (waiting past queue.region)))
    (le-leb (length (scripts queue.region)) (length (fetched past queue.region)) (omega (arith, ap length (done queue refl))))

-- no candidate waits where none waits in any region
none_waits_in : (past : Past) (o : Option Queue) → ((r : ℕ) → waiting past r ≡ []) → MatchOption o (Unit {0}) (λ queue. waiting past queue.region ≡ [])
none_waits_in past None none = tt
none_waits_in past (Some queue) none = none queue.region

-- a whole account, posts left out, is a loaded log at its end
pub loaded_end : (rules : FrontRules) (loaded : Bool) (scripts sent : ℕ → List Sqe) (past : Past) (collected : ℕ → List Cqe)
    → IsWholeAccount rules loaded scripts sent past collected → LoadedAtEnd rules scripts (without_posts past)
loaded_end rules loaded scripts sent past collected h = record {
  effects_whole = effects_since-posts past ∙ h.account.effects_whole ∙ sym (made_last-posts rules past);
  filled =
      all_upto (λ (q : ℕ). is_filled rules scripts (without_posts past) (open_sq (without_posts past) q)) queue_limit (λ q l.
      is_filled-at rules scripts past q ∙ queue_filled rules scripts past (open_sq past q) (λ queue is.
      let done = h.open_done queue.region (open_region past q queue l is) in done.all_fetched ∙ done.all_sent));
  none_pending = pending-posts past ∙ h.none_pending;
  none_waits = λ q. none_waits_in (without_posts past) (open_sq (without_posts past) q) (λ r. waiting-posts past r ∙ h.none_waits r);
}

-- ---- a run
-- a run whose front knew all scripts before its first turn
pub run_is_loaded : (plan : Plan) (parts : Parts) (after : FrontView) (loaded : Bool) (sent : ℕ → List Sqe) (past : Past) (collected : ℕ → List Cqe)
    → IsPrepared plan parts → AllSubmitted Loaded parts.front parts.feeders.items → GoesOn parts.front after → StaysLoaded parts.front after → past ≡ past_in after
    → IsWholeAccount (rules_for plan) loaded (script_for plan) sent past collected → IsLoadedLog (rules_for plan) (script_for plan) (without_posts past)
run_is_loaded plan parts after loaded sent past collected prepared submitted goes stays past_is whole =
    let scripts = script_for plan in
    let within : FetchedWithin scripts after = λ r.
    let first = whole.account.fetched_in_order r in
    let then = whole.sent_in_order r in
    subst (λ (p : Past). length (fetched p r) ≤ length (scripts r)) past_is
    (omega (arith, ap length first.1, length-append (fetched past r) first.0, ap length then.1, length-append (sent r) then.0)) in
    let before : IsLoadedFront scripts parts.front =
    loaded-at-start scripts parts.front prepared.not_late prepared.log (λ r l.
    prepared.rests r ∙ submitted_whole parts.feeders.items r (λ f there. submitted r f there (inl refl)) ∙ ap (λ zs. get_or zs r []) prepared.scripts) in
    let front = stays scripts within before in
    record {
      so_far =
          subst (λ (p : Past). LoadedSoFar (rules_for plan) scripts (without_posts p)) (sym past_is)
          (subst (λ (rules : FrontRules). LoadedSoFar rules scripts (without_posts (past_in after))) (goes.rules ∙ prepared.rules) front.so_far);
      at_end = loaded_end (rules_for plan) loaded scripts sent past collected whole;
    }

-- ---- two runs
-- a loaded run of a text is one of the rules and the scripts of its workload
loaded_run : (text : List ℕ) (s : Settled) (ran : IsRun text Loaded s) → IsLoadedRun (rules_for ran.plan) (script_for ran.plan) s
loaded_run text s ran = record {
  hosts = λ r. ap (λ zs. get_or zs r []) ran.hosts.scripts;
  counts = ran.hosts.counts;
  account = ran.account;
}

-- it has as many hosts as its workload has regions
submitters_are : (text : List ℕ) (s : Settled) (ran : IsRun text Loaded s) → length s.sent.items ≡ length ran.plan.submissions
submitters_are text s ran =
    sym (length-map s.sent.items (λ (x : Sent). x.script.items)) ∙ ap (λ zs. length zs) ran.hosts.scripts ∙ length-map ran.plan.submissions (λ (p : SqPlan). p.script)

pub loaded_runs_are_one : LoadedRunsAreOne
loaded_runs_are_one text one other ran ran' =
    let same : ran'.plan ≡ ran.plan = one_plan text ran'.plan ran.plan ran'.is_workload ran.is_workload in
    let log = subst (λ (p : Plan). IsLoadedLog (rules_for p) (script_for p) (without_posts (settled_past other))) same (ran'.loaded refl) in
    reports_are_one (rules_for ran.plan) (script_for ran.plan) one other (record {
      one_run = loaded_run text one ran;
      other_run = subst (λ (p : Plan). IsLoadedRun (rules_for p) (script_for p) other) same (loaded_run text other ran');
      submitters = submitters_are text one ran ∙ ap (λ (p : Plan). length p.submissions) (sym same) ∙ sym (submitters_are text other ran');
      collectors = ran.hosts.lists ∙ ap (λ (p : Plan). length p.completions) (sym same) ∙ sym ran'.hosts.lists;
      logs = loaded_log_is_one (rules_for ran.plan) (script_for ran.plan) (without_posts (settled_past one)) (without_posts (settled_past other)) (ran.loaded refl) log;
    })
