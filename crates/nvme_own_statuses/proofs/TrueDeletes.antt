-- Deletes of submission queues are answered as the judge asks.
use Rattle.std.proofs.Common.{◌≡◌, ℕ, ◌<◌, ◌==◌, ◌&&◌, ◌||◌, Bool, true, false, not, if◌then◌else◌, [], ◌∷◌, ◌++◌, Option, Some, None, is_some, is_none, refl, sym, ap, ◌∙◌, subst, inl, inr}
use Rattle.std.proofs.lemmas.Bool.{cases_eq, eq-eqb, ne_eqb, and_parts, or_cases, or_from, false_from_ne_true}
use Rattle.std.proofs.lemmas.Option.{none-some, same_Some}
use Rattle.nvme_entry.specs.Status.{StatusCode, success, invalid_field, invalid_queue_identifier}
use Rattle.nvme_entry.specs.Checks.{first_failed}
use Rattle.nvme_entry.specs.Submission.{fuse_of}
use Rattle.nvme_entry.specs.AdminCommand.{admin_command_of}
use Rattle.nvme_entry.specs.declared.submission.Sqe.{Sqe}
use Rattle.nvme_entry.specs.declared.completion.Cqe.{Cqe}
use Rattle.nvme_entry.specs.declared.admin.AdminCommand.{AdminCommand}
use Rattle.nvme_entry.specs.declared.admin.AdminCommand.TheVariants.{DeleteSq, CreateSq, DeleteCq, CreateCq, Abort, SetFeatures, GetFeatures, Other}
use Rattle.nvme_admin.specs.History.{Start, TableHistory, Placing}
use Rattle.nvme_admin.specs.QueueTable.{QueueTable}
use Rattle.nvme_admin.specs.Checks.{is_open, rows_of, placing_rows_of, placing_rows, status_over}
use Rattle.nvme_admin.specs.Accepted.{queue_table, sq_at, status_of}
use Rattle.nvme_admin.specs.declared.verdict.SqEntry.{SqEntry}
use Rattle.nvme_admin.proofs.Reached.{Passes, delete_sq-found}
use Rattle.nvme_log.specs.declared.event.Event.TheVariants.{Post, OpenSq}
use Rattle.nvme_log.specs.Rules.{FrontRules, Past}
use Rattle.nvme_log.specs.Queues.{Queue, open_sq}
use Rattle.nvme_log.specs.Places.{picked, entry_at, fate_of, is_waiting, is_aborted}
use Rattle.nvme_log.specs.Completions.{table_before}
use Rattle.nvme_log.specs.Laws.{as_open, StartsWithAdmin}
use Rattle.nvme_log.proofs.Promise.{first-is_made}
use Rattle.nvme_log.proofs.Turns.{admin-unaborted}
use Rattle.nvme_ctrl_log.specs.Notes.{Notes, Logged, EachNote, logged}
use Rattle.nvme_ctrl_log.specs.Tags.{is_passed, is_of_device}
use Rattle.nvme_ctrl_log.specs.Own.{command_may_be_own}
use Rattle.nvme_ctrl_log.specs.Making.{placing_in}
use Rattle.nvme_ctrl_log.proofs.TakenCommands.{admin_picked}
use Rattle.nvme_audit.specs.declared.facts.Ring.{Ring}
use Rattle.nvme_audit.specs.declared.verdict.Verdict.TheVariants.{Kept, Broken}
use Rattle.nvme_audit.specs.declared.verdict.Rule.TheVariants as rule
use Rattle.nvme_audit.specs.Lives as lives
use Rattle.nvme_audit.specs.Lives.{is_success, turns_sq}
use Rattle.nvme_audit.specs.Queues.{ring_of}
use Rattle.nvme_audit.specs.Turns.{sq_named, cq_named, have_met}
use Rattle.nvme_audit.specs.Facts.{sq_after, cq_after, admin_after, outstanding}
use Rattle.nvme_audit.specs.Answers.{mark_in, answered_in, is_specific, is_untrue_of_delete_sq, status_rules}
use Rattle.nvme_own_log.specs.Shown.{start_of, completion_of, shown}
use Rattle.nvme_own_statuses.specs.Statuses.{IsTrueOf, is_delete_sq}
use Rattle.nvme_own_statuses.specs.Laws.{DeletesAreTrue}
use Rattle.nvme_own_log.proofs.AdminQueues.{effects_of}
use Rattle.nvme_own_log.proofs.Answered.{IsPosted, posted_so, of_device, passes}
use Rattle.nvme_own_statuses.proofs.Features.{FeaturesAt, accepted_here, pending_here, features_at}
use Rattle.nvme_own_log.proofs.IoQueues.{QueuesAt}
use Rattle.nvme_own_log.proofs.Phases.{IsPending, IsAccepted, Stage, untold, told_on, Phase, closed, creating, made, told, deleting_it, going}
use Rattle.nvme_own_log.proofs.Queues.{QueueAt, Seen}
use Rattle.nvme_own_statuses.proofs.Refused.{not_turning, refused_at}
use Rattle.nvme_own_statuses.proofs.Standing.{Stands, stands_before, io_at, each_post}
use Rattle.nvme_own_statuses.proofs.StatusBy.{StatusBy, by_device, by_abort, by_checks, status_by}
use Rattle.nvme_own_statuses.proofs.Statuses.{answers_own, answers_none, standing}
use Rattle.nvme_own_statuses.proofs.TrueFeatures.{kept_unless}

delete_is : (command : AdminCommand) → is_delete_sq command ≡ true → (q : ℕ) × (command ≡ DeleteSq q)
delete_is (DeleteSq qid) h = (qid, refl)
delete_is (CreateSq qid qsize prp1 cqid qprio pc) h = cc h
delete_is (DeleteCq qid) h = cc h
delete_is (CreateCq qid qsize prp1 pc) h = cc h
delete_is (Abort sqid cid) h = cc h
delete_is (SetFeatures fid sv cdw11) h = cc h
delete_is (GetFeatures fid) h = cc h
delete_is Other h = cc h

-- a Delete is refused as Invalid Queue Identifier where no such queue is open
last_row : (b : Bool) → is_specific (if b then invalid_queue_identifier else success) 0x01 ≡ true → b ≡ true
last_row true e = refl
last_row false e = cc e

refused_over : (t : QueueTable) (entry : Sqe) (q : ℕ) → admin_command_of entry ≡ DeleteSq q → is_specific (status_over t entry) 0x01 ≡ true → (q == 0 || not (is_open (t.sq q))) ≡ true
refused_over t entry q is h = by (not (fuse_of entry == 0)) t.placing h where
  by : (f : Bool) (o : Option Placing) → is_specific (if f then invalid_field else first_failed (placing_rows o entry ++ rows_of t (admin_command_of entry))) 0x01 ≡ true → (q == 0 || not (is_open (t.sq q))) ≡ true
  by true o e = cc e
  by false None e = last_row (q == 0 || not (is_open (t.sq q))) (subst (λ (c : AdminCommand). is_specific (first_failed (rows_of t c)) 0x01 ≡ true) is e)
  by false (Some p) e = last_row (q == 0 || not (is_open (t.sq q))) (subst (λ (c : AdminCommand). is_specific (first_failed (placing_rows_of p entry c ++ rows_of t c)) 0x01 ≡ true) is e)

refused_is : (start : Start) (h : TableHistory) (entry : Sqe) (q : ℕ) → admin_command_of entry ≡ DeleteSq q → is_specific (status_of start h entry) 0x01 ≡ true → (q == 0 || not (is_open (sq_at start h q))) ≡ true
unfolding status_of
refused_is start h entry q is e = refused_over (queue_table start h) entry q is e

closed_as : (o : Option SqEntry) → not (is_open o) ≡ true → as_open o ≡ None
closed_as None h = refl
closed_as (Some x) h = by x.closing h where
  by : (b : Bool) → not (not b) ≡ true → if◌then◌else◌ {A = Option Queue} b None (Some (record { region = x.region; cqid = x.cqid; class = x.class })) ≡ None
  by true e = refl
  by false e = cc e

module _ (rules : FrontRules) (starts : StartsWithAdmin rules) (by_regions : placing_in rules ≡ None) where
  module _ (notes : Notes) (c r i : ℕ) (cqe : Cqe) (s : Stands rules (Logged (Post c r i cqe) ∷ notes)) where
    abbrev past : Past
    past = logged notes

    abbrev log : lives.Past
    log = shown rules notes

    abbrev now : Stands rules notes
    now = stands_before rules (Logged (Post c r i cqe)) notes s

    abbrev posted : IsPosted rules notes c r i cqe
    posted = posted_so rules notes c r i cqe now.each s.each.0.posts_own

    abbrev answers : AdminCommand
    answers = answered_in (outstanding log cqe.sqid cqe.cid) (completion_of cqe)

    abbrev features : FeaturesAt rules log past
    features = features_at rules starts by_regions notes now

    abbrev at : QueuesAt rules notes
    at = io_at rules starts by_regions notes now

    -- a command of a kind that can't be the device's is answered by its checks
    pub own_checks : r ≡ 0 → command_may_be_own posted.entry (admin_command_of posted.entry) ≡ false → cqe.status ≡ status_of rules.start (table_before rules past i) posted.entry
    own_checks z never = by (status_by rules notes now.each c r i cqe posted.entry posted.is_there s.each.0.posts_own) where
      by : StatusBy rules notes r i posted.entry cqe → cqe.status ≡ status_of rules.start (table_before rules past i) posted.entry
      by (by_device g) = absurd (
          let own = (and_parts (is_of_device notes r i) (not (is_aborted past r i)) g).0 in
          let passed : is_passed notes i ≡ true = subst (λ (y : Bool). (not y || is_passed notes i) ≡ true) (eq-eqb r 0 z) own in
          let device = of_device rules notes now.each i passed in
          let same : device.entry ≡ posted.entry = same_Some device.entry posted.entry (sym device.is_there ∙ (pending_here rules starts by_regions c r i cqe notes s features z).0) in
          let may : command_may_be_own posted.entry (admin_command_of posted.entry) ≡ true = subst (λ (x : Sqe). command_may_be_own x (admin_command_of x) ≡ true) same device.may_be in
          cc (may, never))
      by (by_abort a status) = absurd (admin-unaborted rules past (effects_of rules notes now.each) i (subst (λ (k : ℕ). is_aborted past k i ≡ true) z a))
      by (by_checks first none status dw0) = status

    module _ (q : ℕ) (z : r ≡ 0) (is : admin_command_of posted.entry ≡ DeleteSq q) where
      status : cqe.status ≡ status_of rules.start (table_before rules past i) posted.entry
      status = own_checks z (ap (command_may_be_own posted.entry) is)

      turns : turns_sq (admin_command_of posted.entry) q ≡ true
      turns = ap (λ (k : AdminCommand). turns_sq k q) is ∙ eq-eqb q q refl

      pending : IsPending rules past i posted.entry
      pending = pending_here rules starts by_regions c r i cqe notes s features z

      -- one that succeeds is of a queue that the host was told of
      found : is_success cqe.status ≡ true → (q ≡ 0 → ⊥)
      found success = (delete_sq-found (queue_table rules.start (table_before rules past i)) q (subst (Passes (queue_table rules.start (table_before rules past i))) is (passes rules.start (table_before rules past i) posted.entry (ap is_success (sym status) ∙ success)))).0

      accepted : is_success cqe.status ≡ true → IsAccepted rules past i posted.entry
      accepted success = accepted_here rules starts by_regions c r i cqe notes s features z (ap is_success (sym status) ∙ success)

      there : IsAccepted rules past i posted.entry → (x : QueueAt rules notes q) → is_none (ring_of (start_of rules) log q) ≡ false
      there a x = by x.stage x.phase x.seen where
        by : (st : Stage) → Phase rules past q st → Seen rules notes q st → is_none (ring_of (start_of rules) log q) ≡ false
        by (told_on t cqid) phase seen = ap (λ (o : Option Ring). is_none o) seen.ring_is
        by untold (closed o served none y) seen = absurd (none i posted.entry pending a turns)
        by untold (creating k e t cqid class create p ok o none made_is fresh served) seen =
            absurd (let same : Post c r i cqe ≡ OpenSq q t cqid class = first-is_made rules past (Post c r i cqe) (OpenSq q t cqid class) [] s.each.0.effects_at_once none made_is in cc same)
        by untold (made k e queue create p ok o served y) seen = absurd (
            let turns_too : turns_sq (admin_command_of e) q ≡ true = ap (λ (x : AdminCommand). turns_sq x q) create.command_is ∙ eq-eqb q q refl in
            let same : i ≡ k = at.alone q i k posted.entry e pending p turns turns_too in
            let entry : posted.entry ≡ e = same_Some posted.entry e (sym pending.0 ∙ ap (entry_at past 0) same ∙ p.0) in
            let both : DeleteSq q ≡ CreateSq q create.qsize create.prp1 queue.cqid create.qprio create.pc = sym is ∙ ap (λ (x : Sqe). admin_command_of x) entry ∙ create.command_is in
            cc both)

      -- one that is refused so is of a queue that isn't there
      gone : is_success cqe.status ≡ false → open_sq past q ≡ None → (x : QueueAt rules notes q) → is_some (ring_of (start_of rules) log q) ≡ false
      gone refused none_open x = by x.stage x.phase x.seen where
        fails : is_success (status_of rules.start (table_before rules past i) posted.entry) ≡ false
        fails = ap is_success (sym status) ∙ refused

        by : (st : Stage) → Phase rules past q st → Seen rules notes q st → is_some (ring_of (start_of rules) log q) ≡ false
        by untold phase seen = ap (λ (o : Option Ring). is_some o) seen.0
        by (told_on t cqid) (told queue o served none y) seen = absurd (none-some queue (sym none_open ∙ o))
        by (told_on t cqid) (deleting_it k e queue more delete p ok l o none made_is m served) seen = absurd (none-some queue (sym none_open ∙ o))
        by (told_on t cqid) (going k e v cq delete p ok o own ends served y) seen =
            absurd (not_turning rules past at.alone i q posted.entry pending fails turns
            (record { place = k; entry = e; pending = p; accepted = ok; turns = ap (λ (x : AdminCommand). turns_sq x q) delete ∙ eq-eqb q q refl }))

      picked_here : i < picked past 0
      picked_here = admin_picked rules past (effects_of rules notes now.each) i (subst (λ (k : ℕ). is_waiting (fate_of past k i) ≡ false) z posted.served)

      true_delete : is_untrue_of_delete_sq (sq_after (start_of rules) log q) q cqe.status ≡ false
      true_delete = by (is_success cqe.status) refl where
        by : (b : Bool) → is_success cqe.status ≡ b
            → (if b then (q == 0) || is_none (ring_of (start_of rules) log q) else is_specific cqe.status 0x01 && not (q == 0) && is_some (ring_of (start_of rules) log q)) ≡ false
        by true success = or_from (q == 0) (is_none (ring_of (start_of rules) log q)) (ne_eqb q 0 (found success)) (there (accepted success) (at.queue q (found success)))
        by false refused = false_from_ne_true (is_specific cqe.status 0x01 && not (q == 0) && is_some (ring_of (start_of rules) log q)) (λ h.
            let outer = and_parts (is_specific cqe.status 0x01 && not (q == 0)) (is_some (ring_of (start_of rules) log q)) h in
            let inner = and_parts (is_specific cqe.status 0x01) (not (q == 0)) outer.0 in
            elim (or_cases (q == 0) (not (is_open (sq_at rules.start (table_before rules past i) q))) (refused_is rules.start (table_before rules past i) posted.entry q is (ap (λ (x : StatusCode). is_specific x 0x01) (sym status) ∙ inner.0))) [
              | inl zero_is ↦ (let never : not (q == 0) ≡ false = ap not zero_is in cc (never, inner.1))
              | inr shut ↦
                  let none_open : open_sq past q ≡ None =
                  refused_at rules starts by_regions notes now i q posted.entry pending picked_here (ap is_success (sym status) ∙ refused) turns ∙ closed_as (sq_at rules.start (table_before rules past i) q) shut in
                  let io : q ≡ 0 → ⊥ = λ zero. let yes : (q == 0) ≡ true = eq-eqb q 0 zero in let no : not (q == 0) ≡ false = ap not yes in cc (no, inner.1) in
                  let none : is_some (ring_of (start_of rules) log q) ≡ false = gone refused none_open (at.queue q io) in
                  cc (none, outer.1)
            ])

    and_none : (b : Bool) → (b && false) ≡ false
    and_none true = refl
    and_none false = refl

    pub true_deletes : (p : ℕ) → IsTrueOf is_delete_sq (start_of rules) log p (completion_of cqe)
    true_deletes p kind =
        let it = delete_is answers kind in
        subst (λ (k : AdminCommand). status_rules (sq_after (start_of rules) log (sq_named k)) (cq_after (start_of rules) log (cq_named k)) (admin_after log) (mark_in (outstanding log cqe.sqid cqe.cid)) (completion_of cqe) k ≡ Kept) (sym it.1)
        (kept_unless (not (have_met log) && is_untrue_of_delete_sq (sq_after (start_of rules) log it.0) it.0 cqe.status) (Broken rule.StatusDelete)
        (elim (cases_eq r 0) [
          | inl z ↦ rw (true_delete it.0 z (sym (answers_own rules starts by_regions notes c r i cqe s z) ∙ it.1)) (and_none (not (have_met log)))
          | inr io ↦ absurd (let never : Other ≡ DeleteSq it.0 = sym (answers_none rules starts by_regions notes c r i cqe s io) ∙ it.1 in cc never)
        ]))

pub deletes_are_true : DeletesAreTrue
deletes_are_true rules notes starts by_regions h duties =
    each_post rules (IsTrueOf is_delete_sq (start_of rules)) (λ past note. Unit {0}) (λ past c r i q cqe s d into. true_deletes rules starts by_regions past c r i cqe s q) notes (standing rules notes h duties) (none notes) where
      none : (notes : Notes) → EachNote (λ past note. Unit {0}) notes
      none [] = tt
      none (note ∷ notes) = (tt, none notes)
