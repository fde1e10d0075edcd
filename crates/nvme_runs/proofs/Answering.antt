-- The answers of a run's admin commands are foreseen by the commands of its script before them.
use Rattle.std.proofs.Common.{◌≡◌, ℕ, ◌+◌, ◌<◌, ◌==◌, ◌&&◌, Bool, true, false, if◌then◌else◌, List, [], ◌∷◌, ◌++◌, length, map, take, reverse, Some, None, refl, sym, ap, ◌∙◌, subst, arith, append_assoc, length-append}
use Rattle.std.specs.Prelude.{slice_get, slice_index_or, Vec}
use Rattle.std.specs.Global.{Global}
use Rattle.std.proofs.lemmas.Bool.{eq-eqb}
use Rattle.std.proofs.lemmas.List.{reverse-append, take-append-le}
use Rattle.std.proofs.lemmas.List.Folds.{list_all-append}
use Rattle.std.proofs.lemmas.Option.{none-some, same_Some, slice_get_within}
use Rattle.nvme_entry.specs.declared.submission.Sqe.{Sqe}
use Rattle.nvme_entry.specs.declared.completion.Cqe.{Cqe}
use Rattle.nvme_admin.specs.declared.region.Region.{Region}
use Rattle.nvme_admin.specs.History.{TableHistory, TableStep, RegionAdded, EntryApplied, DeletionFinished, PlacedAnywhere, Submission, Completion}
use Rattle.nvme_admin.specs.QueueTable.{QueueTable}
use Rattle.nvme_admin.specs.Changes.{admin_queue}
use Rattle.nvme_admin.specs.Accepted.{queue_table, status_of}
use Rattle.nvme_workload.specs.declared.plan.SqPlan.{SqPlan}
use Rattle.nvme_workload.specs.declared.plan.CqPlan.{CqPlan}
use Rattle.nvme_workload.specs.Plan.{Plan}
use Rattle.nvme_log.specs.declared.event.Event.TheVariants.{Post}
use Rattle.nvme_log.specs.Rules.{Past, Each}
use Rattle.nvme_log.specs.Queues.{admin_queue as first_queue}
use Rattle.nvme_log.specs.Places.{fetched}
use Rattle.nvme_log.specs.Completions.{posted_to}
use Rattle.nvme_log.specs.Account.{PostsOwn, IsAccount}
use Rattle.nvme_log.specs.Laws.{as_open, StartsWithAdmin}
use Rattle.nvme_log.specs.Foreseen.{foreseen}
use Rattle.nvme_log.proofs.AbortAnswers.{entry-stays}
use Rattle.nvme_log.proofs.Foreseen.{answers_are_foreseen}
use Rattle.nvme_log.proofs.Prefixes.{Each-after, accounted, posted_to-after}
use Rattle.nvme_engine.specs.Regions.{is_addition, only_adds}
use Rattle.nvme_engine.proofs.Additions.{added_sqs, added_cqs, first_table, table_of-additions}
use Rattle.nvme_front.proofs.Starting.{admin_sq-some, admin_cq-some}
use Rattle.nvme_front.specs.Hosts.{sent_at, collected_at}
use Rattle.nvme_front.specs.Settles.{settled_past}
use Rattle.nvme_runs.specs.Laws.{RunsAnswerAsForeseen}
use Rattle.nvme_runs.specs.Runs.{sq_additions, cq_additions, rules_for, script_for}

-- ---- the regions of a workload
-- the steps that add them
abbrev add_sq : SqPlan → TableStep
add_sq s = RegionAdded Submission s.address s.slots

abbrev add_cq : CqPlan → TableStep
add_cq c = RegionAdded Completion c.address c.slots

-- a list in the other order ends with its first item
turned : {T : Type 0} (x : T) (xs : List T) → reverse (x ∷ xs) ≡ reverse xs ++ x ∷ []
turned x xs = reverse-append (x ∷ []) xs

-- they add regions and nothing else
only-both : (h g : TableHistory) → only_adds h ≡ true → only_adds g ≡ true → only_adds (h ++ g) ≡ true
only-both h g a b = list_all-append is_addition h g ∙ (λ t. a t && b t)

only_sqs : (plans : List SqPlan) → only_adds (sq_additions plans) ≡ true
only_sqs [] = refl
only_sqs (p ∷ plans) = ap only_adds (turned (add_sq p) (map add_sq plans)) ∙ only-both (sq_additions plans) (add_sq p ∷ []) (only_sqs plans) refl

only_cqs : (plans : List CqPlan) → only_adds (cq_additions plans) ≡ true
only_cqs [] = refl
only_cqs (p ∷ plans) = ap only_adds (turned (add_cq p) (map add_cq plans)) ∙ only-both (cq_additions plans) (add_cq p ∷ []) (only_cqs plans) refl

-- how many regions of either kind
sqs-append : (h g : TableHistory) → length (added_sqs (h ++ g)) ≡ length (added_sqs h) + length (added_sqs g)
sqs-append [] g = omega arith
sqs-append (RegionAdded Submission address slots ∷ h) g =
    let region : Region = record { address = address; slots = slots } in
    omega (arith, sqs-append h g, length-append (added_sqs (h ++ g)) (region ∷ []), length-append (added_sqs h) (region ∷ []))
sqs-append (RegionAdded Completion address slots ∷ h) g = sqs-append h g
sqs-append (EntryApplied entry ∷ h) g = sqs-append h g
sqs-append (DeletionFinished qid ∷ h) g = sqs-append h g
sqs-append (PlacedAnywhere p ∷ h) g = sqs-append h g

cqs-append : (h g : TableHistory) → length (added_cqs (h ++ g)) ≡ length (added_cqs h) + length (added_cqs g)
cqs-append [] g = omega arith
cqs-append (RegionAdded Completion address slots ∷ h) g =
    let region : Region = record { address = address; slots = slots } in
    omega (arith, cqs-append h g, length-append (added_cqs (h ++ g)) (region ∷ []), length-append (added_cqs h) (region ∷ []))
cqs-append (RegionAdded Submission address slots ∷ h) g = cqs-append h g
cqs-append (EntryApplied entry ∷ h) g = cqs-append h g
cqs-append (DeletionFinished qid ∷ h) g = cqs-append h g
cqs-append (PlacedAnywhere p ∷ h) g = cqs-append h g

sqs_number : (plans : List SqPlan) → length (added_sqs (sq_additions plans)) ≡ length plans
sqs_number [] = refl
sqs_number (p ∷ plans) =
    let all : length (added_sqs (sq_additions (p ∷ plans))) ≡ length (added_sqs (sq_additions plans ++ add_sq p ∷ [])) = ap (λ (h : TableHistory). length (added_sqs h)) (turned (add_sq p) (map add_sq plans)) in
    omega (arith, all, sqs-append (sq_additions plans) (add_sq p ∷ []), sqs_number plans)

cqs_number : (plans : List CqPlan) → length (added_cqs (cq_additions plans)) ≡ length plans
cqs_number [] = refl
cqs_number (p ∷ plans) =
    let all : length (added_cqs (cq_additions (p ∷ plans))) ≡ length (added_cqs (cq_additions plans ++ add_cq p ∷ [])) = ap (λ (h : TableHistory). length (added_cqs h)) (turned (add_cq p) (map add_cq plans)) in
    omega (arith, all, cqs-append (cq_additions plans) (add_cq p ∷ []), cqs_number plans)

-- with a region of either kind a front begins with the admin queues
first_sq : (b : Bool) → (if b then Some first_queue else None) ≡ as_open (if b then Some admin_queue else None)
first_sq true = refl
first_sq false = refl

module _ (plan : Plan) (sqs : 0 < length plan.submissions) (cqs : 0 < length plan.completions) where
  table : queue_table (rules_for plan).start (rules_for plan).regions ≡ first_table (rules_for plan).start (added_sqs (rules_for plan).regions) (added_cqs (rules_for plan).regions)
  table =
      table_of-additions (rules_for plan).start (rules_for plan).regions
      (only-both (cq_additions plan.completions) (sq_additions plan.submissions) (only_cqs plan.completions) (only_sqs plan.submissions))

  some_sqs : 0 < length (added_sqs (rules_for plan).regions)
  some_sqs = omega (arith, sqs, sqs-append (cq_additions plan.completions) (sq_additions plan.submissions), sqs_number plan.submissions)

  some_cqs : 0 < length (added_cqs (rules_for plan).regions)
  some_cqs = omega (arith, cqs, cqs-append (cq_additions plan.completions) (sq_additions plan.submissions), cqs_number plan.completions)

  starts : StartsWithAdmin (rules_for plan)
  starts = record {
    sq = λ q. first_sq (q == 0)
        ∙ ap as_open (sym (ap (λ (t : QueueTable). t.sq q) table ∙ (λ t. if q == 0 then admin_sq-some (added_sqs (rules_for plan).regions) some_sqs t else None)));
    cq = λ q. sym (ap (λ (t : QueueTable). t.cq q) table ∙ (λ t. if q == 0 then admin_cq-some (added_cqs (rules_for plan).regions) some_cqs t else None));
  }

-- ---- what is there where a command was answered
-- a script
some_script : (plans : List SqPlan) (k : ℕ) (entry : Sqe) → slice_get (slice_index_or (map (λ (s : SqPlan). s.script) plans) 0 []) k ≡ Some entry → 0 < length plans
some_script [] k entry h = absurd (none-some entry h)
some_script (p ∷ plans) k entry h = omega arith

-- a list of completions
some_list : (lists : List (Vec Cqe Global)) (c : ℕ) → 0 < length (collected_at lists c) → 0 < length lists
some_list [] c h = absurd (omega (arith, h))
some_list (x ∷ lists) c h = omega arith

pub answers_of_runs : RunsAnswerAsForeseen
answers_of_runs text mode settled run later before c k cqe entry is there =
    let plan = run.plan in
    let sent = sent_at settled.sent.items in
    let past : Past = settled_past settled in
    let account = run.account.account in
    let split : past ≡ (later ++ Post c 0 k cqe ∷ []) ++ before = is ∙ sym (append_assoc later (Post c 0 k cqe ∷ []) before) in
    let so_far = accounted (rules_for plan) sent (later ++ Post c 0 k cqe ∷ []) before (collected_at settled.collected.items)
    (subst (λ (z : Past). IsAccount (rules_for plan) sent z (collected_at settled.collected.items)) split account) in
    let own : PostsOwn (rules_for plan) before (Post c 0 k cqe) = (Each-after (PostsOwn (rules_for plan)) later (Post c 0 k cqe ∷ before) (subst (Each (PostsOwn (rules_for plan))) is account.posts_own)).0 in
    let first = so_far.fetched_in_order 0 in
    let sends = run.account.sent_in_order 0 in
    let at : slice_get (sent 0) k ≡ Some own.2.entry = ap (λ (xs : List Sqe). slice_get xs k) (sym first.1) ∙ entry-stays (fetched before 0) first.0 k own.2.entry own.2.is_there in
    let same : own.2.entry ≡ entry = same_Some _ _ (sym (ap (λ (xs : List Sqe). slice_get xs k) (sym sends.1) ∙ entry-stays (sent 0) sends.0 k own.2.entry at) ∙ there) in
    let here : slice_get (sent 0) k ≡ Some entry = at ∙ ap Some same in
    let within : k < length (sent 0) = slice_get_within (sent 0) k entry here in
    let prefix : take k (script_for plan 0) ≡ take k (sent 0) = ap (take k) (sym sends.1) ∙ take-append-le k (sent 0) sends.0 (omega (arith, within)) in
    let longer = posted_to-after later (Post c 0 k cqe ∷ before) c in
    let one : length (posted_to (Post c 0 k cqe ∷ before) c) ≡ length (posted_to before c) + 1 = rw (eq-eqb c c refl) (length-append (posted_to before c) (cqe ∷ [])) in
    let whole : length (posted_to past c) ≡ length (posted_to (later ++ Post c 0 k cqe ∷ before) c) = ap (λ (z : Past). length (posted_to z c)) is in
    let lists : 0 < length settled.collected.items =
    some_list settled.collected.items c
    (omega (arith, ap length (run.account.all_collected c), whole, ap length longer.1, length-append (posted_to (Post c 0 k cqe ∷ before) c) longer.0, one)) in
    let begins = starts plan (some_script plan.submissions k entry there) (omega (arith, lists, run.hosts.lists)) in
    answers_are_foreseen (rules_for plan) sent past (collected_at settled.collected.items) begins account later before c k cqe entry is here
    ∙ ap (λ (xs : List Sqe). status_of (rules_for plan).start (foreseen (rules_for plan).start (rules_for plan).regions (reverse xs)) entry) (sym prefix)
