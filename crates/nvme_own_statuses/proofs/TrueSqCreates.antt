-- Creates of submission queues are answered as the judge asks.
use Rattle.std.proofs.Common.{◌≡◌, ℕ, ◌<◌, ◌≤◌, ◌==◌, ◌&&◌, ◌||◌, nat_lt, Bool, true, false, not, [], ◌∷◌, Option, Some, None, is_some, is_none, refl, sym, ap, ◌∙◌, subst, inl, inr, eqb-true}
use Rattle.std.proofs.lemmas.Bool.{cases_Bool, cases_eq, eq-eqb, or_cases, or_parts, or_from, and_parts, leb-true, false_from_ne_true}
use Rattle.std.proofs.lemmas.Option.{none-some, same_Some}
use Rattle.nvme_entry.specs.Status.{StatusCode}
use Rattle.nvme_entry.specs.AdminCommand.{admin_command_of}
use Rattle.nvme_entry.specs.declared.submission.Sqe.{Sqe}
use Rattle.nvme_entry.specs.declared.completion.Cqe.{Cqe}
use Rattle.nvme_entry.specs.declared.admin.AdminCommand.{AdminCommand}
use Rattle.nvme_entry.specs.declared.admin.AdminCommand.TheVariants.{DeleteSq, CreateSq, DeleteCq, CreateCq, Abort, SetFeatures, GetFeatures, Other}
use Rattle.nvme_admin.specs.History.{TableHistory}
use Rattle.nvme_admin.specs.QueueTable.{QueueTable}
use Rattle.nvme_admin.specs.Checks.{rows_of}
use Rattle.nvme_admin.specs.Accepted.{queue_table, sq_at, cq_at, status_of}
use Rattle.nvme_admin.specs.declared.verdict.SqEntry.{SqEntry}
use Rattle.nvme_admin.proofs.Reached.{Passes, FoundSq, none-matches, create_sq-found}
use Rattle.nvme_log.specs.declared.event.Event.TheVariants.{Post}
use Rattle.nvme_log.specs.declared.event.Event.TheVariants as event
use Rattle.nvme_log.specs.Rules.{FrontRules, Past}
use Rattle.nvme_log.specs.Queues.{Queue, open_sq}
use Rattle.nvme_log.specs.Places.{picked, entry_at, fate_of, is_waiting}
use Rattle.nvme_log.specs.Completions.{table_before}
use Rattle.nvme_log.specs.Laws.{as_open, StartsWithAdmin}
use Rattle.nvme_ctrl_log.specs.Notes.{Notes, Logged, EachNote, logged}
use Rattle.nvme_ctrl_log.specs.Own.{command_may_be_own}
use Rattle.nvme_ctrl_log.specs.Making.{placing_in}
use Rattle.nvme_ctrl_log.proofs.TakenCommands.{admin_picked}
use Rattle.nvme_audit.specs.declared.facts.Ring.{Ring}
use Rattle.nvme_audit.specs.declared.verdict.Verdict.TheVariants.{Kept, Broken}
use Rattle.nvme_audit.specs.declared.verdict.Rule.TheVariants as rule
use Rattle.nvme_audit.specs.Lives as lives
use Rattle.nvme_audit.specs.Lives.{is_success, turns_sq}
use Rattle.nvme_audit.specs.Queues.{ring_of, turns_cq, qsize_of}
use Rattle.nvme_audit.specs.Turns.{sq_named, cq_named, cq_asks, asks_of, have_met, numbers}
use Rattle.nvme_audit.specs.Marks.{mark_for, mark_of}
use Rattle.nvme_audit.specs.Facts.{sq_after, cq_after, admin_after, outstanding}
use Rattle.nvme_audit.specs.Answers.{mark_in, answered_in, is_specific, is_settled, is_sq_within, is_cq_within, is_untrue_of_create_sq, status_rules}
use Rattle.nvme_own_log.specs.Shown.{start_of, completion_of, shown}
use Rattle.nvme_own_log.proofs.AdminQueues.{effects_of}
use Rattle.nvme_own_log.proofs.Answered.{IsPosted, posted_so, passes}
use Rattle.nvme_own_log.proofs.IoQueues.{QueuesAt}
use Rattle.nvme_own_log.proofs.Phases.{IsPending, Stage, untold, told_on, Phase, closed, creating, made, told, deleting_it, going}
use Rattle.nvme_own_log.proofs.Queues.{QueueAt, Seen}
use Rattle.nvme_own_statuses.specs.Statuses.{IsTrueOf, is_create_sq}
use Rattle.nvme_own_statuses.specs.Laws.{SqCreatesAreTrue}
use Rattle.nvme_own_statuses.proofs.CqFacts.{finds, cqs_at}
use Rattle.nvme_own_statuses.proofs.CqTables.{entry_leaves, event_leaves}
use Rattle.nvme_own_statuses.proofs.Endings.{delete_turns, unclosed_at}
use Rattle.nvme_own_statuses.proofs.Features.{FeaturesAt, accepted_here, pending_here, features_at}
use Rattle.nvme_own_statuses.proofs.Refusals.{sq_unnamed, sq_unattached}
use Rattle.nvme_own_statuses.proofs.Refused.{not_turning, refused_at}
use Rattle.nvme_own_statuses.proofs.Settled.{IsMarked, none_pends, same_at}
use Rattle.nvme_own_statuses.proofs.Starts.{StartsWithNoDeletion, no_deletion}
use Rattle.nvme_own_statuses.proofs.Standing.{Stands, stands_before, io_at, each_post}
use Rattle.nvme_own_statuses.proofs.Statuses.{answers_own, answers_none, mark_own, standing}
use Rattle.nvme_own_statuses.proofs.TrueDeletes.{own_checks}
use Rattle.nvme_own_statuses.proofs.TrueFeatures.{kept_unless}
use Rattle.nvme_own_statuses.proofs.Within.{no_sq_zero, no_cq_zero, sq_beyond, cq_beyond}

create_is : (command : AdminCommand) → is_create_sq command ≡ true → (q : ℕ) × (qsize : ℕ) × (prp1 : ℕ) × (cqid : ℕ) × (qprio : ℕ) × (pc : Bool) × (command ≡ CreateSq q qsize prp1 cqid qprio pc)
create_is (DeleteSq qid) h = cc h
create_is (CreateSq qid qsize prp1 cqid qprio pc) h = (qid, qsize, prp1, cqid, qprio, pc, refl)
create_is (DeleteCq qid) h = cc h
create_is (CreateCq qid qsize prp1 pc) h = cc h
create_is (Abort sqid cid) h = cc h
create_is (SetFeatures fid sv cdw11) h = cc h
create_is (GetFeatures fid) h = cc h
create_is Other h = cc h

-- one that passes has two slots at least
some_slots : (t : QueueTable) (q qsize prp1 cqid qprio : ℕ) (pc : Bool) → Passes t (CreateSq q qsize prp1 cqid qprio pc) → (qsize == 0) ≡ false
some_slots t q qsize prp1 cqid qprio pc h = (or_parts (qsize == 0) _ (none-matches (rows_of t (CreateSq q qsize prp1 cqid qprio pc)) (refl, (refl, (refl, (refl, (refl, (refl, tt)))))) h).1.1.0).0

-- ---- tests of what is there
pub some_none : {A : Type 0} (o : Option A) → is_some o ≡ true → is_none o ≡ false
some_none None h = cc h
some_none (Some x) h = refl

pub none_some_not : {A : Type 0} (o : Option A) → is_none o ≡ true → is_some o ≡ false
none_some_not None h = refl
none_some_not (Some x) h = cc h

same_some : {A B : Type 0} (a : Option A) (b : Option B) → is_some a ≡ is_some b → is_some b ≡ true → is_none a ≡ false
same_some a b e h = some_none a (e ∙ h)

module _ (rules : FrontRules) (starts : StartsWithAdmin rules) (by_regions : placing_in rules ≡ None) (none_at_start : StartsWithNoDeletion rules) (sqs : 0 < rules.start.nsq) (cqs : 0 < rules.start.ncq) where
  module _ (notes : Notes) (c r i : ℕ) (cqe : Cqe) (s : Stands rules (Logged (Post c r i cqe) ∷ notes)) where
    abbrev past : Past
    past = logged notes

    abbrev log : lives.Past
    log = shown rules notes

    abbrev now : Stands rules notes
    now = stands_before rules (Logged (Post c r i cqe)) notes s

    abbrev posted : IsPosted rules notes c r i cqe
    posted = posted_so rules notes c r i cqe now.each s.each.0.posts_own

    abbrev answers : AdminCommand
    answers = answered_in (outstanding log cqe.sqid cqe.cid) (completion_of cqe)

    abbrev features : FeaturesAt rules log past
    features = features_at rules starts by_regions notes now

    abbrev at : QueuesAt rules notes
    at = io_at rules starts by_regions notes now

    abbrev mark : ℕ
    mark = mark_in (outstanding log cqe.sqid cqe.cid)

    abbrev then_table : TableHistory
    then_table = table_before rules past i

    module _ (q qsize prp1 cqid qprio : ℕ) (pc : Bool) (z : r ≡ 0) (is : admin_command_of posted.entry ≡ CreateSq q qsize prp1 cqid qprio pc) where
      status : cqe.status ≡ status_of rules.start then_table posted.entry
      status = own_checks rules starts by_regions notes c r i cqe s z (ap (command_may_be_own posted.entry) is)

      pending : IsPending rules past i posted.entry
      pending = pending_here rules starts by_regions c r i cqe notes s features z

      turns : turns_sq (admin_command_of posted.entry) q ≡ true
      turns = ap (λ (k : AdminCommand). turns_sq k q) is ∙ eq-eqb q q refl

      picked_here : i < picked past 0
      picked_here = admin_picked rules past (effects_of rules notes now.each) i (subst (λ (k : ℕ). is_waiting (fate_of past k i) ≡ false) z posted.served)

      -- ---- its completion queue
      abbrev turns_it : AdminCommand → Bool
      turns_it x = turns_cq x cqid

      marked : IsMarked rules starts by_regions turns_it refl posted.entry
      marked = record { mark_is = λ l. ap (mark_for l) is; other_kind = ap turns_it is }

      none_since : is_settled (cq_asks log cqid) mark ≡ true → asks_of turns_it log ≤ mark_of log 0 posted.entry.cid
      none_since settled = subst (λ (m : ℕ). cq_asks log cqid ≤ m) (mark_own rules starts by_regions notes c r i cqe s z) (leb-true (cq_asks log cqid) mark settled)

      -- where that is settled, the judge finds it where the table had it
      found_as : have_met log ≡ false → is_settled (cq_asks log cqid) mark ≡ true → finds rules log cqid ≡ is_some (cq_at rules.start then_table cqid)
      found_as unmet settled =
          (cqs_at rules starts by_regions notes now unmet).idle cqid (λ k a p ok t. none_pends rules starts by_regions turns_it refl notes now i posted.entry pending marked (none_since settled) k a p t)
          ∙ sym (same_at rules starts by_regions turns_it refl Bool (λ h. is_some (cq_at rules.start h cqid))
          (λ h entry leaves. ap (λ (o : Option ℕ). is_some o) (entry_leaves rules.start h entry cqid (λ success. leaves)))
          (λ qid region before b few. ap (λ (o : Option ℕ). is_some o) (event_leaves rules (event.ClosedSq qid region) (logged before) cqid tt))
          notes now i posted.entry pending marked picked_here (none_since settled))

      -- ---- where it succeeds
      module _ (unmet : have_met log ≡ false) (success : is_success cqe.status ≡ true) where
        accepted : is_success (status_of rules.start then_table posted.entry) ≡ true
        accepted = ap is_success (sym status) ∙ success

        passed : Passes (queue_table rules.start then_table) (CreateSq q qsize prp1 cqid qprio pc)
        passed = subst (Passes (queue_table rules.start then_table)) is (passes rules.start then_table posted.entry accepted)

        found : FoundSq (queue_table rules.start then_table) q prp1 cqid
        found = create_sq-found (queue_table rules.start then_table) q qsize prp1 cqid qprio pc passed

        no_delete : (k : ℕ) (e : Sqe) → IsPending rules past k e → admin_command_of e ≡ DeleteSq q → ⊥
        no_delete k e p delete =
            let same : i ≡ k = at.alone q i k posted.entry e pending p turns (delete_turns (admin_command_of e) q delete) in
            let entry : posted.entry ≡ e = same_Some posted.entry e (sym pending.0 ∙ ap (entry_at past 0) same ∙ p.0) in
            let both : CreateSq q qsize prp1 cqid qprio pc ≡ DeleteSq q = sym is ∙ ap (λ (x : Sqe). admin_command_of x) entry ∙ delete in
            cc both

        no_ring : (x : QueueAt rules notes q) → is_some (ring_of (start_of rules) log q) ≡ false
        no_ring x = by x.stage x.phase x.seen where
          by : (st : Stage) → Phase rules past q st → Seen rules notes q st → is_some (ring_of (start_of rules) log q) ≡ false
          by untold phase seen = ap (λ (o : Option Ring). is_some o) seen.0
          by (told_on t to) (told queue o served none y) seen = absurd (none i posted.entry pending (accepted_here rules starts by_regions c r i cqe notes s features z accepted) turns)
          by (told_on t to) (deleting_it k e queue more delete p a l o none made_is m served) seen = absurd (no_delete k e p delete)
          by (told_on t to) (going k e v cq delete p a o own ends served y) seen = absurd (no_delete k e p delete)

        attached : (is_settled (cq_asks log cqid) mark && is_none (qsize_of (start_of rules) log cqid)) ≡ false
        attached = by (is_settled (cq_asks log cqid) mark) refl where
          by : (b : Bool) → is_settled (cq_asks log cqid) mark ≡ b → (b && is_none (qsize_of (start_of rules) log cqid)) ≡ false
          by true settled = same_some (qsize_of (start_of rules) log cqid) (cq_at rules.start then_table cqid) (found_as unmet settled) found.cq_open
          by false settled = refl

        succeeds : (is_some (ring_of (start_of rules) log q) || (qsize == 0) || (is_settled (cq_asks log cqid) mark && is_none (qsize_of (start_of rules) log cqid))) ≡ false
        succeeds =
            or_from (is_some (ring_of (start_of rules) log q) || (qsize == 0)) (is_settled (cq_asks log cqid) mark && is_none (qsize_of (start_of rules) log cqid))
            (or_from (is_some (ring_of (start_of rules) log q)) (qsize == 0) (no_ring (at.queue q found.not_admin)) (some_slots (queue_table rules.start then_table) q qsize prp1 cqid qprio pc passed))
            attached

      -- ---- where it is refused
      module _ (unmet : have_met log ≡ false) (fails : is_success cqe.status ≡ false) where
        refused : is_success (status_of rules.start then_table posted.entry) ≡ false
        refused = ap is_success (sym status) ∙ fails

        -- an identifier that was in use is that of a queue which the judge finds
        ring_there : (q ≡ 0 → ⊥) → is_some (sq_at rules.start then_table q) ≡ true → is_none (ring_of (start_of rules) log q) ≡ false
        ring_there io used = by_entry (sq_at rules.start then_table q) refl used where
          open_as : open_sq past q ≡ as_open (sq_at rules.start then_table q)
          open_as = refused_at rules starts by_regions notes now i q posted.entry pending picked_here refused turns

          by_stage : (queue : Queue) → open_sq past q ≡ Some queue → (st : Stage) → Phase rules past q st → Seen rules notes q st → is_none (ring_of (start_of rules) log q) ≡ false
          by_stage queue is_open untold (closed o served none y) seen = absurd (none-some queue (sym o ∙ is_open))
          by_stage queue is_open untold (creating k e t to class create p a o none made_is fresh served) seen = absurd (none-some queue (sym o ∙ is_open))
          by_stage queue is_open untold (made k e own create p a o served y) seen =
              absurd (not_turning rules past at.alone i q posted.entry pending refused turns
              (record { place = k; entry = e; pending = p; accepted = a; turns = ap (λ (x : AdminCommand). turns_sq x q) create.command_is ∙ eq-eqb q q refl }))
          by_stage queue is_open (told_on t to) phase seen = ap (λ (o : Option Ring). is_none o) seen.ring_is

          by_entry : (o : Option SqEntry) → sq_at rules.start then_table q ≡ o → is_some o ≡ true → is_none (ring_of (start_of rules) log q) ≡ false
          by_entry None none there = cc there
          by_entry (Some x) here there = by_closing x.closing refl where
            by_closing : (b : Bool) → x.closing ≡ b → is_none (ring_of (start_of rules) log q) ≡ false
            by_closing true e = absurd (unclosed_at rules starts by_regions none_at_start notes now i q posted.entry pending picked_here turns io x here e)
            by_closing false e =
                let queue : Queue = record { region = x.region; cqid = x.cqid; class = x.class } in
                let open_now : open_sq past q ≡ Some queue = open_as ∙ ap as_open here ∙ rw e refl in
                let it = at.queue q io in
                by_stage queue open_now it.stage it.phase it.seen

        unattached : is_specific cqe.status 0x00 ≡ true → (not (cqid == 0) && is_settled (cq_asks log cqid) mark && is_some (qsize_of (start_of rules) log cqid)) ≡ false
        unattached told_so = false_from_ne_true (not (cqid == 0) && is_settled (cq_asks log cqid) mark && is_some (qsize_of (start_of rules) log cqid)) (λ h.
            let outer = and_parts (not (cqid == 0) && is_settled (cq_asks log cqid) mark) (is_some (qsize_of (start_of rules) log cqid)) h in
            let inner = and_parts (not (cqid == 0)) (is_settled (cq_asks log cqid) mark) outer.0 in
            let shut : is_some (cq_at rules.start then_table cqid) ≡ false =
            none_some_not (cq_at rules.start then_table cqid) (sq_unattached rules.start then_table posted.entry q qsize prp1 cqid qprio pc is (ap (λ (x : StatusCode). is_specific x 0x00) (sym status) ∙ told_so)) in
            let none : finds rules log cqid ≡ false = found_as unmet inner.1 ∙ shut in
            cc (none, outer.1))

        unnamed : (is_specific cqe.status 0x01 && is_sq_within (numbers log) q && is_none (ring_of (start_of rules) log q) && is_cq_within (numbers log) cqid) ≡ false
        unnamed = false_from_ne_true (is_specific cqe.status 0x01 && is_sq_within (numbers log) q && is_none (ring_of (start_of rules) log q) && is_cq_within (numbers log) cqid) (λ h.
            let to = and_parts (is_specific cqe.status 0x01 && is_sq_within (numbers log) q && is_none (ring_of (start_of rules) log q)) (is_cq_within (numbers log) cqid) h in
            let none = and_parts (is_specific cqe.status 0x01 && is_sq_within (numbers log) q) (is_none (ring_of (start_of rules) log q)) to.0 in
            let own = and_parts (is_specific cqe.status 0x01) (is_sq_within (numbers log) q) none.0 in
            elim (sq_unnamed rules.start then_table posted.entry q qsize prp1 cqid qprio pc is (ap (λ (x : StatusCode). is_specific x 0x01) (sym status) ∙ own.0)) [
              | inl mine ↦ elim (or_cases (q == 0 || nat_lt (queue_table rules.start then_table).nsq q) (is_some (sq_at rules.start then_table q)) mine) [
                | inr used ↦
                    let io : q ≡ 0 → ⊥ = λ zero. let never : is_sq_within (numbers log) q ≡ false = ap (is_sq_within (numbers log)) zero ∙ no_sq_zero (numbers log) in cc (never, own.1) in
                    let there : is_none (ring_of (start_of rules) log q) ≡ false = ring_there io used in
                    cc (there, none.1)
                | inl outside ↦ elim (or_cases (q == 0) (nat_lt (queue_table rules.start then_table).nsq q) outside) [
                  | inl zero ↦ (let never : is_sq_within (numbers log) q ≡ false = ap (is_sq_within (numbers log)) (eqb-true q 0 zero) ∙ no_sq_zero (numbers log) in cc (never, own.1))
                  | inr more ↦ (let never : is_sq_within (numbers log) q ≡ false = sq_beyond rules starts by_regions notes now i picked_here sqs q more in cc (never, own.1))
                ]
              ]
              | inr its ↦ elim (or_cases (cqid == 0) (nat_lt (queue_table rules.start then_table).ncq cqid) its) [
                | inl zero ↦ (let never : is_cq_within (numbers log) cqid ≡ false = ap (is_cq_within (numbers log)) (eqb-true cqid 0 zero) ∙ no_cq_zero (numbers log) in cc (never, to.1))
                | inr more ↦ (let never : is_cq_within (numbers log) cqid ≡ false = cq_beyond rules starts by_regions notes now i picked_here cqs cqid more in cc (never, to.1))
              ]
            ])

      true_if : have_met log ≡ false → is_untrue_of_create_sq (sq_after (start_of rules) log q) (cq_after (start_of rules) log cqid) (numbers log) mark q qsize cqid cqe.status ≡ false
      true_if unmet = elim (cases_Bool (is_success cqe.status)) [
        | inl success ↦ rw success (succeeds unmet success)
        | inr fails ↦ elim (cases_Bool (is_specific cqe.status 0x00)) [
          | inl closed_cq ↦ rw (fails, closed_cq) (unattached unmet fails closed_cq)
          | inr other ↦ rw (fails, other) (unnamed unmet fails)
        ]
      ]

      true_create : (not (have_met log) && is_untrue_of_create_sq (sq_after (start_of rules) log q) (cq_after (start_of rules) log cqid) (numbers log) mark q qsize cqid cqe.status) ≡ false
      true_create = elim (cases_Bool (have_met log)) [ inl met ↦ rw met refl | inr unmet ↦ rw unmet (true_if unmet) ]

    pub true_creates : (p : ℕ) → IsTrueOf is_create_sq (start_of rules) log p (completion_of cqe)
    true_creates p kind =
        let it = create_is answers kind in
        subst (λ (k : AdminCommand). status_rules (sq_after (start_of rules) log (sq_named k)) (cq_after (start_of rules) log (cq_named k)) (admin_after log) (mark_in (outstanding log cqe.sqid cqe.cid)) (completion_of cqe) k ≡ Kept) (sym it.6)
        (kept_unless (not (have_met log) && is_untrue_of_create_sq (sq_after (start_of rules) log it.0) (cq_after (start_of rules) log it.3) (numbers log) mark it.0 it.1 it.3 cqe.status) (Broken rule.StatusCreate)
        (elim (cases_eq r 0) [
          | inl z ↦ true_create it.0 it.1 it.2 it.3 it.4 it.5 z (sym (answers_own rules starts by_regions notes c r i cqe s z) ∙ it.6)
          | inr io ↦ absurd (let never : Other ≡ CreateSq it.0 it.1 it.2 it.3 it.4 it.5 = sym (answers_none rules starts by_regions notes c r i cqe s io) ∙ it.6 in cc never)
        ]))

pub sq_creates_are_true : SqCreatesAreTrue
sq_creates_are_true rules notes starts by_regions h duties sqs few cqs =
    each_post rules (IsTrueOf is_create_sq (start_of rules)) (λ past note. Unit {0}) (λ past c r i q cqe s d into. true_creates rules starts by_regions (no_deletion rules starts few) sqs cqs past c r i cqe s q) notes (standing rules notes h duties) (none notes) where
      none : (notes : Notes) → EachNote (λ past note. Unit {0}) notes
      none [] = tt
      none (note ∷ notes) = (tt, none notes)
