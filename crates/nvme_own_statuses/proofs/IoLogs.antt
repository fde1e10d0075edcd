-- A device that answers I/O commands alone, and says of none that it was aborted, breaks no rule of the judge by its statuses.
use Rattle.std.proofs.Common.{◌≡◌, ℕ, ◌==◌, ◌&&◌, ◌||◌, nat_lt, Bool, true, false, not, [], ◌∷◌, Option, Some, None, refl, sym, ap, subst}
use Rattle.std.proofs.lemmas.Bool.{eq-eqb, and_parts, and_left, or_left}
use Rattle.nvme_entry.specs.Status.{StatusCode}
use Rattle.nvme_entry.specs.declared.completion.Cqe.{Cqe}
use Rattle.nvme_entry.specs.declared.admin.AdminCommand.{AdminCommand}
use Rattle.nvme_entry.specs.declared.admin.AdminCommand.TheVariants.{Other}
use Rattle.nvme_log.specs.declared.event.Event.TheVariants.{Post}
use Rattle.nvme_log.specs.Rules.{FrontRules}
use Rattle.nvme_log.specs.Places.{is_aborted}
use Rattle.nvme_log.specs.Laws.{StartsWithAdmin}
use Rattle.nvme_ctrl_log.specs.Notes.{Notes, Logged, Passed, logged}
use Rattle.nvme_ctrl_log.specs.Tags.{is_passed}
use Rattle.nvme_ctrl_log.specs.Making.{placing_in}
use Rattle.nvme_ctrl_log.specs.Laws.{NonePassed}
use Rattle.nvme_audit.specs.declared.facts.Command.{Command}
use Rattle.nvme_audit.specs.declared.verdict.Verdict.TheVariants.{Kept}
use Rattle.nvme_audit.specs.Lives as lives
use Rattle.nvme_audit.specs.Turns.{sq_named, cq_named}
use Rattle.nvme_audit.specs.Aborts as aborts
use Rattle.nvme_audit.specs.Aborts.{is_abort}
use Rattle.nvme_audit.specs.Facts.{sq_after, cq_after, admin_after, outstanding}
use Rattle.nvme_audit.specs.Answers.{mark_in, answered_in, is_foreign, is_unnamed, status_rules}
use Rattle.nvme_own_log.specs.Shown.{start_of, completion_of, shown}
use Rattle.nvme_own_statuses.specs.Statuses.{is_given, SaysNoAbort, IsUnaborted, IsAnswerKept, DeviceKeeps, DeviceTakesOwn}
use Rattle.nvme_own_statuses.specs.Laws.{IoLogsAreLawful}
use Rattle.nvme_own_statuses.proofs.Standing.{Stands, stands_before}
use Rattle.nvme_own_statuses.proofs.Statuses.{first_two, answers_none, standing}
use Rattle.nvme_own_statuses.proofs.Tells.{has_passed, passed_some}
use Rattle.nvme_own_statuses.proofs.TrueAborts.{told_by_none}
use Rattle.nvme_own_statuses.proofs.LawfulLogs.{all_kept, logs_are_lawful}

-- ---- nothing is passed on
none_has : (notes : Notes) → NonePassed notes → has_passed notes ≡ false
none_has [] none = refl
none_has (Passed i ∷ notes) none = absurd (let no = none i in let yes : (i == i || is_passed notes i) ≡ true = or_left (i == i) (is_passed notes i) (eq-eqb i i refl) in cc (no, yes))
none_has (note ∷ notes) none = none_has notes none

-- so the device says of no command that it aborted it
takes_none : (notes : Notes) → has_passed notes ≡ false → DeviceTakesOwn notes
takes_none [] none = tt
takes_none (Logged (Post c r i cqe) ∷ notes) none = (λ z passed. absurd (let some = passed_some notes i passed in cc (some, none)), takes_none notes none)
takes_none (Passed i ∷ notes) none = absurd (cc none)
takes_none (note ∷ notes) none = (tt, takes_none notes none)

-- ---- what the judge reads
unnamed : (command : Option Command) (status : StatusCode) → aborts.is_aborted status ≡ false → is_unnamed command status ≡ false
unnamed None status h = refl
unnamed (Some command) status h = and_left (aborts.is_aborted status) (not command.named) h

no_abort : (a b c d : Bool) → a ≡ false → (a && b && c && d) ≡ false
no_abort true b c d h = cc h
no_abort false b c d h = refl

last_false : (a b : Bool) → (a && b && false) ≡ false
last_false true true = refl
last_false true false = refl
last_false false b = refl

of_other : (command : AdminCommand) (status : StatusCode) → command ≡ Other → is_foreign command status ≡ false
of_other command status is = subst (λ (k : AdminCommand). is_foreign k status ≡ false) (sym is) (last_false (status.sct == 1) (nat_lt status.sc 0xc0))

-- what the device answers is of an I/O command
of_io : (r : ℕ) (passed aborted : Bool) → ((not (r == 0) || passed) && not aborted) ≡ true → passed ≡ false → r ≡ 0 → ⊥
of_io r passed aborted given none z =
    let own : (not (r == 0) || passed) ≡ true = (and_parts (not (r == 0) || passed) (not aborted) given).0 in
    let other : (not (r == 0) || passed) ≡ false = rw (eq-eqb r 0 z) none in
    cc (own, other)

module _ (rules : FrontRules) (starts : StartsWithAdmin rules) (by_regions : placing_in rules ≡ None) where
  module _ (notes : Notes) (c r i : ℕ) (cqe : Cqe) (s : Stands rules (Logged (Post c r i cqe) ∷ notes)) (none : has_passed notes ≡ false) (given : is_given notes r i ≡ true) (plain : SaysNoAbort cqe.status) where
    abbrev log : lives.Past
    log = shown rules notes

    abbrev answers : AdminCommand
    answers = answered_in (outstanding log cqe.sqid cqe.cid) (completion_of cqe)

    other : answers ≡ Other
    other = answers_none rules starts by_regions notes c r i cqe s (of_io r (is_passed notes i) (is_aborted (logged notes) r i) given (unpassed (is_passed notes i) (passed_some notes i))) where
      unpassed : (b : Bool) → (b ≡ true → has_passed notes ≡ true) → b ≡ false
      unpassed true h = absurd (let some = h refl in cc (some, none))
      unpassed false h = refl

    true_status : status_rules (sq_after (start_of rules) log (sq_named answers)) (cq_after (start_of rules) log (cq_named answers)) (admin_after log) (mark_in (outstanding log cqe.sqid cqe.cid)) (completion_of cqe) answers ≡ Kept
    true_status =
        subst (λ (k : AdminCommand). status_rules (sq_after (start_of rules) log (sq_named k)) (cq_after (start_of rules) log (cq_named k)) (admin_after log) (mark_in (outstanding log cqe.sqid cqe.cid)) (completion_of cqe) k ≡ Kept)
        (sym other) refl

    given_kept : (cq : ℕ) → IsAnswerKept (start_of rules) log cq (completion_of cqe)
    given_kept cq =
        all_kept _ _ _ _ _ _ _ _ _ _ _
        (first_two (cqe.status.sct == 0) (cqe.status.sc == 0x08) _ plain.undeleted)
        (unnamed (outstanding log cqe.sqid cqe.cid) cqe.status plain.unrequested)
        (told_by_none rules starts by_regions notes c r i cqe s (takes_none (Logged (Post c r i cqe) ∷ notes) none) none given)
        (no_abort (is_abort answers) _ _ _ (ap is_abort other))
        (of_other answers cqe.status other)
        true_status

  -- ---- all notes
  device_keeps : (notes : Notes) → Stands rules notes → has_passed notes ≡ false → DeviceKeeps rules IsUnaborted notes → DeviceKeeps rules (IsAnswerKept (start_of rules)) notes
  device_keeps [] s none d = tt
  device_keeps (Logged (Post c r i cqe) ∷ notes) s none d =
      (λ given q into. given_kept notes c r i cqe s none given (d.0 given q into) q, device_keeps notes (stands_before rules (Logged (Post c r i cqe)) notes s) none d.1)
  device_keeps (Passed i ∷ notes) s none d = absurd (cc none)
  device_keeps (note ∷ notes) s none d = (tt, device_keeps notes (stands_before rules note notes s) none d.1)

pub io_logs_are_lawful : IoLogsAreLawful
io_logs_are_lawful rules notes starts by_regions h duties turns sqs few cqs none device =
    let none_there : has_passed notes ≡ false = none_has notes none in
    logs_are_lawful rules notes starts by_regions h duties turns sqs few cqs (takes_none notes none_there)
    (device_keeps rules starts by_regions notes (standing rules notes h duties) none_there device)
