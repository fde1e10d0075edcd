-- Deletes of completion queues are answered as the judge asks.
use Rattle.std.proofs.Common.{◌≡◌, ℕ, ◌<◌, ◌≤◌, ◌==◌, ◌&&◌, ◌||◌, Bool, true, false, not, [], ◌∷◌, None, is_some, is_none, refl, sym, ap, ◌∙◌, subst, inl, inr}
use Rattle.std.proofs.lemmas.Bool.{cases_Bool, cases_eq, eq-eqb, ne_eqb, or_cases, or_from, and_parts, leb-true, false_from_ne_true}
use Rattle.nvme_entry.specs.Status.{StatusCode}
use Rattle.nvme_entry.specs.AdminCommand.{admin_command_of}
use Rattle.nvme_entry.specs.declared.completion.Cqe.{Cqe}
use Rattle.nvme_entry.specs.declared.admin.AdminCommand.{AdminCommand}
use Rattle.nvme_entry.specs.declared.admin.AdminCommand.TheVariants.{DeleteSq, CreateSq, DeleteCq, CreateCq, Abort, SetFeatures, GetFeatures, Other}
use Rattle.nvme_admin.specs.declared.bounds.TheConstants.{MAX_REGIONS}
use Rattle.nvme_admin.specs.History.{TableHistory}
use Rattle.nvme_admin.specs.Checks as checks
use Rattle.nvme_admin.specs.Accepted.{queue_table, cq_at, status_of}
use Rattle.nvme_admin.proofs.Reached.{Passes, delete_cq-found}
use Rattle.nvme_log.specs.declared.event.Event.TheVariants.{Post}
use Rattle.nvme_log.specs.Rules.{FrontRules, Past}
use Rattle.nvme_log.specs.Places.{picked, fate_of, is_waiting}
use Rattle.nvme_log.specs.Completions.{table_before}
use Rattle.nvme_log.specs.Laws.{StartsWithAdmin}
use Rattle.nvme_ctrl_log.specs.Notes.{Notes, Logged, EachNote, logged}
use Rattle.nvme_ctrl_log.specs.Own.{command_may_be_own}
use Rattle.nvme_ctrl_log.specs.Making.{placing_in}
use Rattle.nvme_ctrl_log.proofs.TakenCommands.{admin_picked}
use Rattle.nvme_audit.specs.declared.verdict.Verdict.TheVariants.{Kept, Broken}
use Rattle.nvme_audit.specs.declared.verdict.Rule.TheVariants as rule
use Rattle.nvme_audit.specs.Lives as lives
use Rattle.nvme_audit.specs.Lives.{is_success}
use Rattle.nvme_audit.specs.Queues.{turns_cq, qsize_of}
use Rattle.nvme_audit.specs.Turns.{sq_named, cq_named, asks_of, sqs_asks, is_of_sqs, have_met}
use Rattle.nvme_audit.specs.Marks.{mark_for}
use Rattle.nvme_audit.specs.Facts.{sq_after, cq_after, admin_after, outstanding}
use Rattle.nvme_audit.specs.Answers.{mark_in, answered_in, is_specific, is_settled, is_attached, is_untrue_of_delete_cq, status_rules}
use Rattle.nvme_own_log.specs.Shown.{start_of, completion_of, shown}
use Rattle.nvme_own_log.proofs.AdminQueues.{effects_of}
use Rattle.nvme_own_log.proofs.Answered.{IsPosted, posted_so, passes}
use Rattle.nvme_own_log.proofs.Phases.{IsPending}
use Rattle.nvme_own_statuses.specs.Statuses.{IsTrueOf, is_delete_cq}
use Rattle.nvme_own_statuses.specs.Laws.{CqDeletesAreTrue}
use Rattle.nvme_own_statuses.proofs.CqFacts.{finds, cqs_at}
use Rattle.nvme_own_statuses.proofs.CqTables.{opens_cq}
use Rattle.nvme_own_statuses.proofs.Features.{FeaturesAt, accepted_here, pending_here, features_at}
use Rattle.nvme_own_statuses.proofs.RefusedCqs.{found_as}
use Rattle.nvme_own_statuses.proofs.Refusals.{cq_unnamed, cq_attached}
use Rattle.nvme_own_statuses.proofs.Settled.{IsMarked}
use Rattle.nvme_own_statuses.proofs.SettledSqs.{attached_as}
use Rattle.nvme_own_statuses.proofs.Standing.{Stands, stands_before, each_post}
use Rattle.nvme_own_statuses.proofs.Starts.{no_deletion}
use Rattle.nvme_own_statuses.proofs.Statuses.{answers_own, answers_none, mark_own, standing}
use Rattle.nvme_own_statuses.proofs.TrueDeletes.{own_checks}
use Rattle.nvme_own_statuses.proofs.TrueFeatures.{kept_unless}
use Rattle.nvme_own_statuses.proofs.TrueSqCreates.{some_none, none_some_not}

delete_is : (command : AdminCommand) → is_delete_cq command ≡ true → (q : ℕ) × (command ≡ DeleteCq q)
delete_is (DeleteSq qid) h = cc h
delete_is (CreateSq qid qsize prp1 cqid qprio pc) h = cc h
delete_is (DeleteCq qid) h = (qid, refl)
delete_is (CreateCq qid qsize prp1 pc) h = cc h
delete_is (Abort sqid cid) h = cc h
delete_is (SetFeatures fid sv cdw11) h = cc h
delete_is (GetFeatures fid) h = cc h
delete_is Other h = cc h

module _ (rules : FrontRules) (starts : StartsWithAdmin rules) (by_regions : placing_in rules ≡ None) (few : rules.start.nsq < MAX_REGIONS) where
  module _ (notes : Notes) (c r i : ℕ) (cqe : Cqe) (s : Stands rules (Logged (Post c r i cqe) ∷ notes)) where
    abbrev past : Past
    past = logged notes

    abbrev log : lives.Past
    log = shown rules notes

    abbrev now : Stands rules notes
    now = stands_before rules (Logged (Post c r i cqe)) notes s

    abbrev posted : IsPosted rules notes c r i cqe
    posted = posted_so rules notes c r i cqe now.each s.each.0.posts_own

    abbrev answers : AdminCommand
    answers = answered_in (outstanding log cqe.sqid cqe.cid) (completion_of cqe)

    abbrev features : FeaturesAt rules log past
    features = features_at rules starts by_regions notes now

    abbrev mark : ℕ
    mark = mark_in (outstanding log cqe.sqid cqe.cid)

    abbrev then_table : TableHistory
    then_table = table_before rules past i

    module _ (q : ℕ) (z : r ≡ 0) (is : admin_command_of posted.entry ≡ DeleteCq q) where
      status : cqe.status ≡ status_of rules.start then_table posted.entry
      status = own_checks rules starts by_regions notes c r i cqe s z (ap (command_may_be_own posted.entry) is)

      pending : IsPending rules past i posted.entry
      pending = pending_here rules starts by_regions c r i cqe notes s features z

      turns : turns_cq (admin_command_of posted.entry) q ≡ true
      turns = ap (λ (k : AdminCommand). turns_cq k q) is ∙ eq-eqb q q refl

      picked_here : i < picked past 0
      picked_here = admin_picked rules past (effects_of rules notes now.each) i (subst (λ (k : ℕ). is_waiting (fate_of past k i) ≡ false) z posted.served)

      marked : IsMarked rules starts by_regions is_of_sqs refl posted.entry
      marked = record { mark_is = λ l. ap (mark_for l) is; other_kind = ap is_of_sqs is }

      -- where that is settled, the judge finds a submission queue on it where the table had one
      on_it_as : (q ≡ 0 → ⊥) → is_settled (sqs_asks log) mark ≡ true → is_attached (cq_after (start_of rules) log q) ≡ checks.is_attached (queue_table rules.start then_table) q
      on_it_as io settled =
          attached_as rules starts by_regions (no_deletion rules starts few) notes now s.each.0.effects_at_once few i posted.entry pending marked picked_here
          (subst (λ (m : ℕ). asks_of is_of_sqs log ≤ m) (mark_own rules starts by_regions notes c r i cqe s z) (leb-true (sqs_asks log) mark settled)) q io

      module _ (unmet : have_met log ≡ false) where
        succeeds : is_success cqe.status ≡ true → ((q == 0) || is_none (qsize_of (start_of rules) log q) || (is_settled (sqs_asks log) mark && is_attached (cq_after (start_of rules) log q))) ≡ false
        succeeds success =
            or_from ((q == 0) || is_none (qsize_of (start_of rules) log q)) (is_settled (sqs_asks log) mark && is_attached (cq_after (start_of rules) log q))
            (or_from (q == 0) (is_none (qsize_of (start_of rules) log q)) (ne_eqb q 0 found.0) (some_none (qsize_of (start_of rules) log q) there)) (by (is_settled (sqs_asks log) mark) refl) where
              accepted : is_success (status_of rules.start then_table posted.entry) ≡ true
              accepted = ap is_success (sym status) ∙ success

              found : (q ≡ 0 → ⊥) × (is_some (cq_at rules.start then_table q) ≡ true) × (checks.is_attached (queue_table rules.start then_table) q ≡ false)
              found = delete_cq-found (queue_table rules.start then_table) q (subst (Passes (queue_table rules.start then_table)) is (passes rules.start then_table posted.entry accepted))

              there : finds rules log q ≡ true
              there = ((cqs_at rules starts by_regions notes now unmet).making q i posted.entry pending (accepted_here rules starts by_regions c r i cqe notes s features z accepted) turns).0 ∙ ap (λ (k : AdminCommand). not (opens_cq k)) is

              by : (b : Bool) → is_settled (sqs_asks log) mark ≡ b → (b && is_attached (cq_after (start_of rules) log q)) ≡ false
              by true settled = on_it_as found.0 settled ∙ found.2
              by false settled = refl

        unnamed : is_success cqe.status ≡ false → is_specific cqe.status 0x01 ≡ true → (not (q == 0) && is_some (qsize_of (start_of rules) log q)) ≡ false
        unnamed fails told_so = false_from_ne_true (not (q == 0) && is_some (qsize_of (start_of rules) log q)) (λ h.
            let parts = and_parts (not (q == 0)) (is_some (qsize_of (start_of rules) log q)) h in
            elim (or_cases (q == 0) (is_none (cq_at rules.start then_table q)) (cq_unnamed rules.start then_table posted.entry q is (ap (λ (x : StatusCode). is_specific x 0x01) (sym status) ∙ told_so))) [
              | inl admin ↦ (let never : not (q == 0) ≡ false = ap not admin in cc (never, parts.0))
              | inr shut ↦
                  let none : finds rules log q ≡ false =
                  found_as rules starts by_regions notes now unmet q i posted.entry pending picked_here (ap is_success (sym status) ∙ fails) turns ∙ none_some_not (cq_at rules.start then_table q) shut in
                  cc (none, parts.1)
            ])

        on_it : (is_specific cqe.status 0x0c && not (q == 0) && is_settled (sqs_asks log) mark && not (is_attached (cq_after (start_of rules) log q))) ≡ false
        on_it = false_from_ne_true (is_specific cqe.status 0x0c && not (q == 0) && is_settled (sqs_asks log) mark && not (is_attached (cq_after (start_of rules) log q))) (λ h.
            let free = and_parts (is_specific cqe.status 0x0c && not (q == 0) && is_settled (sqs_asks log) mark) (not (is_attached (cq_after (start_of rules) log q))) h in
            let settled = and_parts (is_specific cqe.status 0x0c && not (q == 0)) (is_settled (sqs_asks log) mark) free.0 in
            let named = and_parts (is_specific cqe.status 0x0c) (not (q == 0)) settled.0 in
            let io : q ≡ 0 → ⊥ = λ admin. let never : not (q == 0) ≡ false = ap not (eq-eqb q 0 admin) in cc (never, named.1) in
            let there : is_attached (cq_after (start_of rules) log q) ≡ true = on_it_as io settled.1 ∙ cq_attached rules.start then_table posted.entry q is (ap (λ (x : StatusCode). is_specific x 0x0c) (sym status) ∙ named.0) in
            let never : not (is_attached (cq_after (start_of rules) log q)) ≡ false = ap not there in
            cc (never, free.1))

        true_if : is_untrue_of_delete_cq (cq_after (start_of rules) log q) (sqs_asks log) mark q cqe.status ≡ false
        true_if = elim (cases_Bool (is_success cqe.status)) [
          | inl success ↦ rw success (succeeds success)
          | inr fails ↦ elim (cases_Bool (is_specific cqe.status 0x01)) [
            | inl none ↦ rw (fails, none) (unnamed fails none)
            | inr other ↦ rw (fails, other) on_it
          ]
        ]

      true_delete : (not (have_met log) && is_untrue_of_delete_cq (cq_after (start_of rules) log q) (sqs_asks log) mark q cqe.status) ≡ false
      true_delete = elim (cases_Bool (have_met log)) [ inl met ↦ rw met refl | inr unmet ↦ rw unmet (true_if unmet) ]

    pub true_deletes : (p : ℕ) → IsTrueOf is_delete_cq (start_of rules) log p (completion_of cqe)
    true_deletes p kind =
        let it = delete_is answers kind in
        subst (λ (k : AdminCommand). status_rules (sq_after (start_of rules) log (sq_named k)) (cq_after (start_of rules) log (cq_named k)) (admin_after log) (mark_in (outstanding log cqe.sqid cqe.cid)) (completion_of cqe) k ≡ Kept) (sym it.1)
        (kept_unless (not (have_met log) && is_untrue_of_delete_cq (cq_after (start_of rules) log it.0) (sqs_asks log) mark it.0 cqe.status) (Broken rule.StatusDelete)
        (elim (cases_eq r 0) [
          | inl z ↦ true_delete it.0 z (sym (answers_own rules starts by_regions notes c r i cqe s z) ∙ it.1)
          | inr io ↦ absurd (let never : Other ≡ DeleteCq it.0 = sym (answers_none rules starts by_regions notes c r i cqe s io) ∙ it.1 in cc never)
        ]))

pub cq_deletes_are_true : CqDeletesAreTrue
cq_deletes_are_true rules notes starts by_regions h duties few =
    each_post rules (IsTrueOf is_delete_cq (start_of rules)) (λ past note. Unit {0}) (λ past c r i q cqe s d into. true_deletes rules starts by_regions few past c r i cqe s q) notes (standing rules notes h duties) (none notes) where
      none : (notes : Notes) → EachNote (λ past note. Unit {0}) notes
      none [] = tt
      none (note ∷ notes) = (tt, none notes)
