-- Creates of completion queues are answered as the judge asks.
use Rattle.std.proofs.Common.{◌≡◌, ℕ, ◌<◌, ◌==◌, ◌&&◌, ◌||◌, nat_lt, Bool, true, false, not, [], ◌∷◌, Option, Some, None, is_some, is_none, refl, sym, ap, ◌∙◌, subst, inl, inr, eqb-true}
use Rattle.std.proofs.lemmas.Bool.{cases_Bool, cases_eq, eq-eqb, or_cases, or_parts, or_from, and_parts, false_from_ne_true}
use Rattle.nvme_entry.specs.Status.{StatusCode}
use Rattle.nvme_admin.specs.History.{TableHistory}
use Rattle.nvme_log.specs.Places.{picked, fate_of, is_waiting}
use Rattle.nvme_ctrl_log.proofs.TakenCommands.{admin_picked}
use Rattle.nvme_own_log.proofs.AdminQueues.{effects_of}
use Rattle.nvme_own_statuses.proofs.Allotted.{create_refused}
use Rattle.nvme_own_statuses.proofs.Within.{no_cq_zero, cq_beyond}
use Rattle.nvme_own_statuses.proofs.RefusedCqs.{found_as}
use Rattle.nvme_entry.specs.AdminCommand.{admin_command_of}
use Rattle.nvme_entry.specs.declared.completion.Cqe.{Cqe}
use Rattle.nvme_entry.specs.declared.admin.AdminCommand.{AdminCommand}
use Rattle.nvme_entry.specs.declared.admin.AdminCommand.TheVariants.{DeleteSq, CreateSq, DeleteCq, CreateCq, Abort, SetFeatures, GetFeatures, Other}
use Rattle.nvme_admin.specs.QueueTable.{QueueTable}
use Rattle.nvme_admin.specs.Checks.{rows_of}
use Rattle.nvme_admin.specs.Accepted.{queue_table, cq_at, status_of}
use Rattle.nvme_admin.proofs.Reached.{Passes, none-matches}
use Rattle.nvme_log.specs.declared.event.Event.TheVariants.{Post}
use Rattle.nvme_log.specs.Rules.{FrontRules, Past}
use Rattle.nvme_log.specs.Completions.{table_before}
use Rattle.nvme_log.specs.Laws.{StartsWithAdmin}
use Rattle.nvme_ctrl_log.specs.Notes.{Notes, Logged, EachNote, logged}
use Rattle.nvme_ctrl_log.specs.Own.{command_may_be_own}
use Rattle.nvme_ctrl_log.specs.Making.{placing_in}
use Rattle.nvme_audit.specs.declared.verdict.Verdict.TheVariants.{Kept, Broken}
use Rattle.nvme_audit.specs.declared.verdict.Rule.TheVariants as rule
use Rattle.nvme_audit.specs.Lives as lives
use Rattle.nvme_audit.specs.Lives.{is_success}
use Rattle.nvme_audit.specs.Queues.{turns_cq, qsize_of}
use Rattle.nvme_audit.specs.Turns.{sq_named, cq_named, have_met, numbers}
use Rattle.nvme_audit.specs.Facts.{sq_after, cq_after, admin_after, outstanding}
use Rattle.nvme_audit.specs.Answers.{mark_in, answered_in, is_specific, is_cq_within, is_untrue_of_create_cq, status_rules}
use Rattle.nvme_own_log.specs.Shown.{start_of, completion_of, shown}
use Rattle.nvme_own_statuses.specs.Statuses.{IsTrueOf, is_create_cq}
use Rattle.nvme_own_statuses.specs.Laws.{CqCreatesAreTrue}
use Rattle.nvme_own_log.proofs.Answered.{IsPosted, posted_so, passes}
use Rattle.nvme_own_statuses.proofs.CqFacts.{CqsAt, finds, cqs_at}
use Rattle.nvme_own_log.proofs.Phases.{IsPending}
use Rattle.nvme_own_statuses.proofs.CqTables.{opens_cq}
use Rattle.nvme_own_statuses.proofs.Features.{FeaturesAt, accepted_here, pending_here, features_at}
use Rattle.nvme_own_statuses.proofs.Standing.{Stands, stands_before, each_post}
use Rattle.nvme_own_statuses.proofs.Statuses.{answers_own, answers_none, standing}
use Rattle.nvme_own_statuses.proofs.TrueDeletes.{own_checks}
use Rattle.nvme_own_statuses.proofs.TrueFeatures.{kept_unless}

create_is : (command : AdminCommand) → is_create_cq command ≡ true → (q : ℕ) × (qsize : ℕ) × (prp1 : ℕ) × (pc : Bool) × (command ≡ CreateCq q qsize prp1 pc)
create_is (DeleteSq qid) h = cc h
create_is (CreateSq qid qsize prp1 cqid qprio pc) h = cc h
create_is (DeleteCq qid) h = cc h
create_is (CreateCq qid qsize prp1 pc) h = (qid, qsize, prp1, pc, refl)
create_is (Abort sqid cid) h = cc h
create_is (SetFeatures fid sv cdw11) h = cc h
create_is (GetFeatures fid) h = cc h
create_is Other h = cc h

-- one that passes has two slots at least
some_slots : (t : QueueTable) (q qsize prp1 : ℕ) (pc : Bool) → Passes t (CreateCq q qsize prp1 pc) → (qsize == 0) ≡ false
some_slots t q qsize prp1 pc h = (or_parts (qsize == 0) _ (none-matches (rows_of t (CreateCq q qsize prp1 pc)) (refl, (refl, (refl, (refl, tt)))) h).1.1.0).0

module _ (rules : FrontRules) (starts : StartsWithAdmin rules) (by_regions : placing_in rules ≡ None) (some : 0 < rules.start.ncq) where
  module _ (notes : Notes) (c r i : ℕ) (cqe : Cqe) (s : Stands rules (Logged (Post c r i cqe) ∷ notes)) where
    abbrev past : Past
    past = logged notes

    abbrev log : lives.Past
    log = shown rules notes

    abbrev now : Stands rules notes
    now = stands_before rules (Logged (Post c r i cqe)) notes s

    abbrev posted : IsPosted rules notes c r i cqe
    posted = posted_so rules notes c r i cqe now.each s.each.0.posts_own

    abbrev answers : AdminCommand
    answers = answered_in (outstanding log cqe.sqid cqe.cid) (completion_of cqe)

    abbrev features : FeaturesAt rules log past
    features = features_at rules starts by_regions notes now

    module _ (q qsize prp1 : ℕ) (pc : Bool) (z : r ≡ 0) (is : admin_command_of posted.entry ≡ CreateCq q qsize prp1 pc) (unmet : have_met log ≡ false) where
      abbrev then_table : TableHistory
      then_table = table_before rules past i

      status : cqe.status ≡ status_of rules.start then_table posted.entry
      status = own_checks rules starts by_regions notes c r i cqe s z (ap (command_may_be_own posted.entry) is)

      abbrev pending : IsPending rules past i posted.entry
      pending = pending_here rules starts by_regions c r i cqe notes s features z

      turns : turns_cq (admin_command_of posted.entry) q ≡ true
      turns = ap (λ (k : AdminCommand). turns_cq k q) is ∙ eq-eqb q q refl

      facts : CqsAt rules log past
      facts = cqs_at rules starts by_regions notes now unmet

      -- where it succeeds its queue isn't there yet, for the judge
      succeeds : is_success cqe.status ≡ true → (finds rules log q || (qsize == 0)) ≡ false
      succeeds success =
          let accepted : is_success (status_of rules.start then_table posted.entry) ≡ true = ap is_success (sym status) ∙ success in
          let passed : Passes (queue_table rules.start then_table) (CreateCq q qsize prp1 pc) = subst (Passes (queue_table rules.start then_table)) is (passes rules.start then_table posted.entry accepted) in
          let unfound : finds rules log q ≡ false = (facts.making q i posted.entry pending (accepted_here rules starts by_regions c r i cqe notes s features z accepted) turns).0 ∙ ap (λ (k : AdminCommand). not (opens_cq k)) is in
          or_from (finds rules log q) (qsize == 0) unfound (some_slots (queue_table rules.start then_table) q qsize prp1 pc passed)

      picked_here : i < picked past 0
      picked_here = admin_picked rules past (effects_of rules notes now.each) i (subst (λ (k : ℕ). is_waiting (fate_of past k i) ≡ false) z posted.served)

      -- where it is refused for its identifier that is in use, or is none
      in_use : is_success cqe.status ≡ false → is_some (cq_at rules.start then_table q) ≡ true → finds rules log q ≡ true
      in_use fails used =
          found_as rules starts by_regions notes now unmet q i posted.entry pending picked_here (ap is_success (sym status) ∙ fails) turns ∙ used

      fails_so : is_success cqe.status ≡ false → (is_specific cqe.status 0x01 && is_cq_within (numbers log) q && not (finds rules log q)) ≡ false
      fails_so fails = false_from_ne_true (is_specific cqe.status 0x01 && is_cq_within (numbers log) q && not (finds rules log q)) (λ h.
          let outer = and_parts (is_specific cqe.status 0x01 && is_cq_within (numbers log) q) (not (finds rules log q)) h in
          let inner = and_parts (is_specific cqe.status 0x01) (is_cq_within (numbers log) q) outer.0 in
          elim (or_cases (q == 0 || nat_lt (queue_table rules.start then_table).ncq q) (is_some (cq_at rules.start then_table q))
          (create_refused rules.start then_table posted.entry q qsize prp1 pc is (ap (λ (x : StatusCode). is_specific x 0x01) (sym status) ∙ inner.0))) [
            | inr used ↦ (let there : not (finds rules log q) ≡ false = ap not (in_use fails used) in cc (there, outer.1))
            | inl none ↦ elim (or_cases (q == 0) (nat_lt (queue_table rules.start then_table).ncq q) none) [
              | inl zero_is ↦ (let never : is_cq_within (numbers log) q ≡ false = ap (is_cq_within (numbers log)) (eqb-true q 0 zero_is) ∙ no_cq_zero (numbers log) in cc (never, inner.1))
              | inr more ↦ (let never : is_cq_within (numbers log) q ≡ false = cq_beyond rules starts by_regions notes now i picked_here some q more in cc (never, inner.1))
            ]
          ])

    none_not : (o : Option ℕ) → is_none o ≡ not (is_some o)
    none_not None = refl
    none_not (Some x) = refl

    true_create : (q qsize prp1 : ℕ) (pc : Bool) → r ≡ 0 → admin_command_of posted.entry ≡ CreateCq q qsize prp1 pc
        → (not (have_met log) && is_untrue_of_create_cq (cq_after (start_of rules) log q) (numbers log) q qsize cqe.status) ≡ false
    true_create q qsize prp1 pc z is = elim (cases_Bool (have_met log)) [
      | inl met ↦ rw met refl
      | inr unmet ↦ rw unmet (elim (cases_Bool (is_success cqe.status)) [
        | inl success ↦ rw success (succeeds q qsize prp1 pc z is unmet success)
        | inr fails ↦ rw (fails, none_not (qsize_of (start_of rules) log q)) (fails_so q qsize prp1 pc z is unmet fails)
      ])
    ]

    pub true_creates : (p : ℕ) → IsTrueOf is_create_cq (start_of rules) log p (completion_of cqe)
    true_creates p kind =
        let it = create_is answers kind in
        subst (λ (k : AdminCommand). status_rules (sq_after (start_of rules) log (sq_named k)) (cq_after (start_of rules) log (cq_named k)) (admin_after log) (mark_in (outstanding log cqe.sqid cqe.cid)) (completion_of cqe) k ≡ Kept) (sym it.4)
        (kept_unless (not (have_met log) && is_untrue_of_create_cq (cq_after (start_of rules) log it.0) (numbers log) it.0 it.1 cqe.status) (Broken rule.StatusCreate)
        (elim (cases_eq r 0) [
          | inl z ↦ true_create it.0 it.1 it.2 it.3 z (sym (answers_own rules starts by_regions notes c r i cqe s z) ∙ it.4)
          | inr io ↦ absurd (let never : Other ≡ CreateCq it.0 it.1 it.2 it.3 = sym (answers_none rules starts by_regions notes c r i cqe s io) ∙ it.4 in cc never)
        ]))

pub cq_creates_are_true : CqCreatesAreTrue
cq_creates_are_true rules notes starts by_regions h duties some =
    each_post rules (IsTrueOf is_create_cq (start_of rules)) (λ past note. Unit {0}) (λ past c r i q cqe s d into. true_creates rules starts by_regions some past c r i cqe s q) notes (standing rules notes h duties) (none notes) where
      none : (notes : Notes) → EachNote (λ past note. Unit {0}) notes
      none [] = tt
      none (note ∷ notes) = (tt, none notes)
