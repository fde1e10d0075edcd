-- A front that fails in a run: not for a full log, since a workload has too few commands to fill it.
use Rattle.std.proofs.Common.{◌≡◌, ℕ, zero, suc, ◌+◌, ◌≤◌, List, [], ◌∷◌, length, map, take, refl, sym, ap, ◌∙◌, subst, arith, sum_by, inl, inr, length-append}
use Rattle.std.specs.Prelude.{Result, Ok, Err, IfErr, slice_index_or}
use Rattle.std.specs.Result.{IsErrAnd}
use Rattle.std.proofs.lemmas.List.{length-reverse, take_all}
use Rattle.std.proofs.lemmas.List.Sums.{sum_by-append, sum_by-cons}
use mathlib.Core.List.{IsPrefix}
use Rattle.nvme_entry.specs.declared.submission.Sqe.{Sqe}
use Rattle.nvme_workload.specs.declared.plan.SqPlan.{SqPlan}
use Rattle.nvme_workload.specs.Plan.{Plan}
use Rattle.nvme_workload.specs.Regions.{command_count}
use Rattle.nvme_workload.specs.Sound.{IsSound}
use Rattle.nvme_log.specs.Limits.{most_events}
use Rattle.nvme_log.specs.Rules.{upto}
use Rattle.nvme_log.proofs.LogLengths.{logs_are_short, sums-less}
use Rattle.nvme_front.specs.View.{FrontView, AccountsForEnds, got_in, sent_in, past_in}
use Rattle.nvme_front.specs.declared.front.FrontError.{FrontError}
use Rattle.nvme_front.specs.declared.front.FrontError.TheVariants as front
use Rattle.nvme_front.specs.declared.settlement.Parts.{Parts}
use Rattle.nvme_threads.specs.declared.drives.DriveError.{DriveError}
use Rattle.nvme_threads.specs.declared.drives.DriveError.TheVariants as drive
use Rattle.nvme_threads.specs.Fed.{FedTurnFails, IsFedFault}
use Rattle.nvme_runs.specs.declared.runs.RunError.{RunError}
use Rattle.nvme_runs.specs.Laws.{FrontFaultsAreStrays}
use Rattle.nvme_runs.specs.Runs.{fault_of_drive, script_for}
use Rattle.nvme_runs.specs.RunFaults.{FrontFails, IsLateFault, RunFails}
use Rattle.nvme_runs.specs.inside.Prepared.{IsPrepared}

-- ---- how a drive that came to nothing is told
-- a turn of the front that was prepared failed
front_fails : (plan : Plan) (p : Parts) (e : FrontError) → IsSound plan → IsPrepared plan p → FedTurnFails p.front p.feeders.items e → FrontFails plan e
front_fails plan p e sound prepared h = record {
  given = p.front;
  rules = prepared.rules;
  limit = prepared.limit;
  log = prepared.log;
  not_late = prepared.not_late;
  none_handed = prepared.blank.handed;
  none_gained = prepared.blank.ends;
  fails = h.fails;
  sound = sound;
  scripts = λ r. subst (λ (z : List (List Sqe)). IsPrefix (got_in h.fails.after r) (slice_index_or z r [])) prepared.scripts (h.scripts r);
}

late : (plan : Plan) (p : Parts) (d : DriveError) → IsSound plan → IsPrepared plan p → IsFedFault p.front p.feeders.items d → IsLateFault plan (fault_of_drive d)
late plan p drive.NoMemory sound prepared h = tt
late plan p (drive.Front front.NoMemory) sound prepared h = absurd h
late plan p (drive.Front front.LogFull) sound prepared h = front_fails plan p front.LogFull sound prepared h
late plan p (drive.Front (front.Stray ticket)) sound prepared h = front_fails plan p (front.Stray ticket) sound prepared h

late_fault : (plan : Plan) (p : Parts) (d : DriveError) (e : RunError) → IsSound plan → IsPrepared plan p → e ≡ fault_of_drive d → IsFedFault p.front p.feeders.items d
    → IsLateFault plan e
late_fault plan p d e sound prepared is h = subst (IsLateFault plan) (sym is) (late plan p d sound prepared h)

-- so it is with a result that is passed on
pub late_result : {T U : Type 0} (plan : Plan) (p : Parts) (d : DriveError) (s : Result U DriveError) (r : Result T RunError) → IsSound plan → IsPrepared plan p
    → s ≡ Err d → IfErr s (IsFedFault p.front p.feeders.items) → IsErrAnd r (λ e. e ≡ fault_of_drive d) → IfErr r (IsLateFault plan)
late_result plan p d s (Ok x) sound prepared was h is = tt
late_result {T} {U} plan p d s (Err e) sound prepared was h is =
    late_fault plan p d e sound prepared is (subst (λ (x : Result U DriveError). IfErr x (IsFedFault p.front p.feeders.items)) was h)

-- ---- how many commands a workload has
-- the length of the script at a place
abbrev length_at : List SqPlan → ℕ → ℕ
length_at plans r = length (slice_index_or (map (λ (s : SqPlan). s.script) plans) r [])

abbrev script_length : SqPlan → ℕ
script_length p = length p.script

one_more : (plans : List SqPlan) (k : ℕ) → sum_by script_length (take (suc k) plans) ≡ sum_by script_length (take k plans) + length_at plans k
one_more [] zero = refl
one_more [] (suc k) = refl
one_more (p ∷ plans) zero = omega (arith, sum_by-cons script_length p [])
one_more (p ∷ plans) (suc k) =
    omega (arith, one_more plans k, sum_by-cons script_length p (take (suc k) plans), sum_by-cons script_length p (take k plans))

lengths_add : (plans : List SqPlan) (k : ℕ) → sum_by (length_at plans) (upto k) ≡ sum_by script_length (take k plans)
lengths_add plans zero = refl
lengths_add plans (suc k) =
    omega (arith, sum_by-append (length_at plans) (upto k) (k ∷ []), sum_by-cons (length_at plans) k [], lengths_add plans k, one_more plans k)

-- no script stands past the last
none_past : (plans : List SqPlan) (r : ℕ) → length plans ≤ r → length_at plans r ≡ 0
none_past [] r le = refl
none_past (p ∷ plans) zero le = absurd (omega (arith, le))
none_past (p ∷ plans) (suc r) le = none_past plans r (omega (arith, le))

no_items : {T : Type 0} (xs : List T) → length xs ≡ 0 → xs ≡ []
no_items [] h = refl
no_items (x ∷ xs) h = absurd (omega (arith, h))

-- ---- the log of a run isn't full
-- a front that got no more than the scripts has a log of at most five events for each command
log_is_short : (plan : Plan) (v : FrontView) → IsSound plan → AccountsForEnds v → ((r : ℕ) → IsPrefix (got_in v r) (script_for plan r)) → length v.log ≤ 327680
log_is_short plan v sound accounts scripts =
    let plans = plan.submissions in
    let n : ℕ = length plans in
    let less : (r : ℕ) → length (got_in v r) ≤ length_at plans r = λ r. let p = scripts r in omega (arith, ap length p.1, length-append (got_in v r) p.0) in
    let bound = logs_are_short v.rules (got_in v) (past_in v) (sent_in v) accounts.account n (λ r le. no_items (got_in v r) (omega (arith, less r, none_past plans r le))) in
    let sums = sums-less (λ (r : ℕ). length (got_in v r)) (length_at plans) less (upto n) in
    let all : sum_by (length_at plans) (upto n) ≡ command_count plans = lengths_add plans n ∙ ap (sum_by script_length) (take_all n plans (omega arith)) in
    let few = sound.submissions.commands in
    omega (arith, bound, sums, all, few, length-reverse v.log)

not_full : (text : List ℕ) → RunFails text front.LogFull → ⊥
not_full text h =
    let f = h.fails in
    let after = f.fails.after in
    let limit : after.limit ≡ most_events = f.fails.turned.limit ∙ f.fails.goes_on.limit ∙ f.limit in
    let in_time = f.fails.turned.late ∙ f.fails.goes_on.late ∙ f.not_late in
    let short = log_is_short h.plan after f.sound (f.fails.accounts.ends in_time) f.scripts in
    elim f.fails.means.0 [
      | inl full ↦ omega (arith, full, limit, short)
      | inr needs ↦ omega (arith, needs.too_few, limit, short)
    ]

pub front_faults_are_strays : FrontFaultsAreStrays
front_faults_are_strays text front.NoMemory h = absurd (h.not_memory refl)
front_faults_are_strays text front.LogFull h = absurd (not_full text h)
front_faults_are_strays text (front.Stray ticket) h = (ticket, refl)
