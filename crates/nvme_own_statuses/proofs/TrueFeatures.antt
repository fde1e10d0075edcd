-- Set Features of Number of Queues is answered as the judge asks.
use Rattle.std.proofs.Common.{◌≡◌, ℕ, ◌/◌, ◌%◌, ◌==◌, ◌&&◌, ◌||◌, nat_lt, Bool, true, false, not, [], ◌∷◌, Option, Some, None, refl, sym, ap, ◌∙◌, subst, inl, inr, eqb-true}
use Rattle.std.proofs.lemmas.Bool.{cases_eq, eq-eqb, lt-ltb, ltb-true, or_cases, and_parts, and_from, false_from_ne_true}
use Rattle.nvme_entry.specs.declared.completion.Cqe.{Cqe}
use Rattle.nvme_entry.specs.declared.admin.AdminCommand.{AdminCommand}
use Rattle.nvme_entry.specs.declared.admin.AdminCommand.TheVariants.{DeleteSq, CreateSq, DeleteCq, CreateCq, Abort, SetFeatures, GetFeatures, Other}
use Rattle.nvme_admin.specs.QueueTable.{number_of_queues}
use Rattle.nvme_admin.specs.Checks.{numbers_dw0}
use Rattle.nvme_admin.specs.Accepted.{queue_table, status_of, dw0_of}
use Rattle.nvme_log.specs.declared.event.Event.TheVariants.{Post}
use Rattle.nvme_log.specs.Rules.{FrontRules, Past}
use Rattle.nvme_log.specs.Histories.{table_history}
use Rattle.nvme_log.specs.Completions.{table_before}
use Rattle.nvme_log.specs.Laws.{StartsWithAdmin}
use Rattle.nvme_ctrl_log.specs.Notes.{Notes, Logged, EachNote, logged}
use Rattle.nvme_ctrl_log.specs.Making.{placing_in}
use Rattle.nvme_audit.specs.declared.verdict.Verdict.{Verdict}
use Rattle.nvme_audit.specs.declared.verdict.Verdict.TheVariants.{Kept, Broken}
use Rattle.nvme_audit.specs.declared.verdict.Rule.TheVariants as rule
use Rattle.nvme_audit.specs.Lives as lives
use Rattle.nvme_audit.specs.Lives.{is_success}
use Rattle.nvme_audit.specs.Turns.{sq_named, cq_named, numbers}
use Rattle.nvme_audit.specs.Marks.{mark_of}
use Rattle.nvme_audit.specs.Facts.{sq_after, cq_after, admin_after, outstanding}
use Rattle.nvme_audit.specs.Answers.{mark_in, answered_in, are_numbers, is_untrue_of_features, broken_if, status_rules}
use Rattle.nvme_own_log.specs.Shown.{start_of, completion_of, shown}
use Rattle.nvme_own_statuses.specs.Statuses.{IsTrueOf, is_set_features}
use Rattle.nvme_own_statuses.specs.Laws.{FeaturesAreTrue}
use Rattle.nvme_own_log.proofs.Answered.{IsPosted, posted_so}
use Rattle.nvme_own_statuses.proofs.Features.{FeaturesAt, IsSet, accepted_here, pending_here, set_own, features_at}
use Rattle.nvme_own_statuses.proofs.Numbers.{set_uncreated, few_numbers}
use Rattle.nvme_own_statuses.proofs.Standing.{Stands, stands_before, each_post}
use Rattle.nvme_own_statuses.proofs.Statuses.{answers_own, answers_none, mark_own, standing}

set_is : (command : AdminCommand) → is_set_features command ≡ true → (fid : ℕ) × (sv : Bool) × (cdw11 : ℕ) × (command ≡ SetFeatures fid sv cdw11)
set_is (DeleteSq qid) h = cc h
set_is (CreateSq qid qsize prp1 cqid qprio pc) h = cc h
set_is (DeleteCq qid) h = cc h
set_is (CreateCq qid qsize prp1 pc) h = cc h
set_is (Abort sqid cid) h = cc h
set_is (SetFeatures fid sv cdw11) h = (fid, sv, cdw11, refl)
set_is (GetFeatures fid) h = cc h
set_is Other h = cc h

pub kept_unless : (b : Bool) (v : Verdict) → b ≡ false → broken_if b v ≡ Kept
kept_unless b v h = rw h refl

not_so : (b : Bool) → not b ≡ true → b ≡ false
not_so true h = cc h
not_so false h = refl

module _ (rules : FrontRules) (starts : StartsWithAdmin rules) (by_regions : placing_in rules ≡ None) where
  module _ (notes : Notes) (c r i : ℕ) (cqe : Cqe) (s : Stands rules (Logged (Post c r i cqe) ∷ notes)) where
    abbrev past : Past
    past = logged notes

    abbrev log : lives.Past
    log = shown rules notes

    abbrev now : Stands rules notes
    now = stands_before rules (Logged (Post c r i cqe)) notes s

    abbrev posted : IsPosted rules notes c r i cqe
    posted = posted_so rules notes c r i cqe now.each s.each.0.posts_own

    abbrev answers : AdminCommand
    answers = answered_in (outstanding log cqe.sqid cqe.cid) (completion_of cqe)

    features : FeaturesAt rules log past
    features = features_at rules starts by_regions notes now

    -- of a Set of Number of Queues that succeeds
    module _ (z : r ≡ 0) (is : IsSet rules posted.entry) (success : is_success cqe.status ≡ true) where
      own_status : (cqe.status ≡ status_of rules.start (table_before rules past i) posted.entry) × (cqe.dw0 ≡ dw0_of rules.start (table_before rules past i) posted.entry)
      own_status = set_own rules starts by_regions c r i cqe notes s features is z

      accepted : is_success (status_of rules.start (table_before rules past i) posted.entry) ≡ true
      accepted = ap is_success (sym own_status.0) ∙ success

      told : (cqe.dw0 ≡ numbers_dw0 (queue_table rules.start (table_history rules past))) × ((queue_table rules.start (table_history rules past)).numbers_set ≡ true)
      told =
          let it = features.sets i posted.entry (pending_here rules starts by_regions c r i cqe notes s features z) (accepted_here rules starts by_regions c r i cqe notes s features z accepted) is in
          (own_status.1 ∙ it.0, it.1)

      unmarked : nat_lt 0 (mark_of log 0 posted.entry.cid) ≡ true → ⊥
      unmarked more =
          let it = features.marked i posted.entry (pending_here rules starts by_regions c r i cqe notes s features z) is (ltb-true 0 (mark_of log 0 posted.entry.cid) more) in
          let created : (queue_table rules.start (table_before rules past i)).created ≡ true = it.1 (accepted_here rules starts by_regions c r i cqe notes s features z accepted).0 in
          let never : (queue_table rules.start (table_before rules past i)).created ≡ false = set_uncreated rules.start (table_before rules past i) posted.entry is.0 is.1 accepted is.2 in
          cc (created, never)

      numbers_are : are_numbers (numbers log) (Some cqe.dw0) ≡ true
      numbers_are = by (numbers log) refl where
        by : (o : Option ℕ) → numbers log ≡ o → are_numbers o (Some cqe.dw0) ≡ true
        by None none =
            let few = few_numbers rules.start (table_history rules past) told.1 in
            subst (λ (n : ℕ). (nat_lt (n % 0x10000) 0xffff && nat_lt (n / 0x10000) 0xffff) ≡ true) (sym told.0)
            (and_from _ _ (lt-ltb (numbers_dw0 (queue_table rules.start (table_history rules past)) % 0x10000) 0xffff few.0) (lt-ltb (numbers_dw0 (queue_table rules.start (table_history rules past)) / 0x10000) 0xffff few.1))
        by (Some n) found = eq-eqb n cqe.dw0 ((features.numbered n found).0 ∙ sym told.0)

    true_set : (fid : ℕ) (sv : Bool) (cdw11 : ℕ) → answers ≡ SetFeatures fid sv cdw11 → is_untrue_of_features (numbers log) (mark_in (outstanding log cqe.sqid cqe.cid)) fid (Some cqe.dw0) cqe.status ≡ false
    true_set fid sv cdw11 is = false_from_ne_true _ (λ h.
        let outer = and_parts (fid == number_of_queues && is_success cqe.status) (nat_lt 0 (mark_in (outstanding log cqe.sqid cqe.cid)) || not (are_numbers (numbers log) (Some cqe.dw0))) h in
        let inner = and_parts (fid == number_of_queues) (is_success cqe.status) outer.0 in
        elim (cases_eq r 0) [
          | inr io ↦ (let never : Other ≡ SetFeatures fid sv cdw11 = sym (answers_none rules starts by_regions notes c r i cqe s io) ∙ is in cc never)
          | inl z ↦
              let set : IsSet rules posted.entry = (sv, cdw11, sym (answers_own rules starts by_regions notes c r i cqe s z) ∙ is ∙ ap (λ (n : ℕ). SetFeatures n sv cdw11) (eqb-true fid number_of_queues inner.0)) in
              elim (or_cases (nat_lt 0 (mark_in (outstanding log cqe.sqid cqe.cid))) (not (are_numbers (numbers log) (Some cqe.dw0))) outer.1) [
                | inl more ↦ unmarked z set inner.1 (ap (λ (n : ℕ). nat_lt 0 n) (sym (mark_own rules starts by_regions notes c r i cqe s z)) ∙ more)
                | inr other ↦
                    let same : are_numbers (numbers log) (Some cqe.dw0) ≡ true = numbers_are z set inner.1 in
                    let none : are_numbers (numbers log) (Some cqe.dw0) ≡ false = not_so (are_numbers (numbers log) (Some cqe.dw0)) other in
                    cc (same, none)
              ]
        ])

    pub true_features : (q : ℕ) → IsTrueOf is_set_features (start_of rules) log q (completion_of cqe)
    true_features q kind =
        let it = set_is answers kind in
        subst (λ (k : AdminCommand). status_rules (sq_after (start_of rules) log (sq_named k)) (cq_after (start_of rules) log (cq_named k)) (admin_after log) (mark_in (outstanding log cqe.sqid cqe.cid)) (completion_of cqe) k ≡ Kept) (sym it.3)
        (kept_unless (is_untrue_of_features (numbers log) (mark_in (outstanding log cqe.sqid cqe.cid)) it.0 (Some cqe.dw0) cqe.status) (Broken rule.Features) (true_set it.0 it.1 it.2 it.3))

pub features_are_true : FeaturesAreTrue
features_are_true rules notes starts by_regions h duties =
    each_post rules (IsTrueOf is_set_features (start_of rules)) (λ past note. Unit {0}) (λ past c r i q cqe s d into. true_features rules starts by_regions past c r i cqe s q) notes (standing rules notes h duties) (none notes) where
      none : (notes : Notes) → EachNote (λ past note. Unit {0}) notes
      none [] = tt
      none (note ∷ notes) = (tt, none notes)
