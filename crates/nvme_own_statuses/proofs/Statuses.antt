-- The statuses that an account shows: what they say of Deletes and of Aborts was asked, and each is one of its command.
use Rattle.std.proofs.Common.{◌≡◌, ℕ, ◌==◌, ◌&&◌, Bool, true, false, not, if◌then◌else◌, ◌∷◌, Option, Some, None, refl, sym, ap, ◌∙◌, subst}
use Rattle.std.proofs.lemmas.Bool.{eq-eqb, ne_eqb, and_left}
use Rattle.std.proofs.lemmas.Option.{same_Some}
use Rattle.nvme_entry.specs.Status.{StatusCode, abort_requested, aborted_by_deletion}
use Rattle.nvme_entry.specs.AdminCommand.{admin_command_of}
use Rattle.nvme_entry.specs.declared.completion.Cqe.{Cqe}
use Rattle.nvme_entry.specs.declared.admin.AdminCommand.{AdminCommand}
use Rattle.nvme_entry.specs.declared.admin.AdminCommand.TheVariants.{Other}
use Rattle.nvme_admin.specs.Accepted.{status_of}
use Rattle.nvme_log.specs.declared.event.Event.TheVariants.{Post}
use Rattle.nvme_log.specs.Rules.{FrontRules, Past}
use Rattle.nvme_log.specs.Queues.{qid_of_region}
use Rattle.nvme_log.specs.Places.{is_aborted}
use Rattle.nvme_log.specs.Aborts.{is_abort_requested}
use Rattle.nvme_log.specs.Completions.{table_before}
use Rattle.nvme_log.specs.Laws.{StartsWithAdmin}
use Rattle.nvme_ctrl_log.specs.Notes.{Notes, Logged, logged}
use Rattle.nvme_ctrl_log.specs.Making.{placing_in}
use Rattle.nvme_ctrl_log.specs.Account.{IsAccount}
use Rattle.nvme_audit.specs.Lives as lives
use Rattle.nvme_audit.specs.Lives.{asked}
use Rattle.nvme_audit.specs.Turns.{was_doomed, answered_by}
use Rattle.nvme_audit.specs.Rings.{number_of}
use Rattle.nvme_audit.specs.Marks.{mark_of, owes}
use Rattle.nvme_audit.specs.Aborts as aborts
use Rattle.nvme_audit.specs.Aborts.{was_named}
use Rattle.nvme_audit.specs.Facts.{sq_after, command_with, outstanding}
use Rattle.nvme_audit.specs.Answers.{mark_in, is_foreign, is_undoomed, is_unnamed, answered_in}
use Rattle.nvme_own_log.specs.Shown.{start_of, completion_of, shown}
use Rattle.nvme_own_log.specs.Duties.{KeepsDuties}
use Rattle.nvme_own_statuses.specs.Statuses.{is_given, IsSqdelAsked, IsAbortAsked, IsOfCommand, OfGiven}
use Rattle.nvme_own_statuses.specs.Laws.{SqdelsAreAsked, AbortsAreAsked, StatusesAreOfCommands}
use Rattle.nvme_own_log.proofs.Answered.{IsPosted, posted_so}
use Rattle.nvme_own_statuses.proofs.Caused.{IsCaused, causes_at}
use Rattle.nvme_own_statuses.proofs.Outs.{posted_out, posted_asked, command_is}
use Rattle.nvme_own_log.proofs.OwnRegions.{admin_qid, admin_region}
use Rattle.nvme_own_log.proofs.AdminQueues.{effects_of}
use Rattle.nvme_own_statuses.proofs.OwnRows.{IsPlain, status_plain}
use Rattle.nvme_own_statuses.proofs.Standing.{Stands, stands_before, each_post}
use Rattle.nvme_own_statuses.proofs.StatusBy.{StatusBy, by_device, by_abort, by_checks, status_by}

-- ---- by what an abort came
undoomed_by : (requested doomed : Bool) → (requested ≡ false → doomed ≡ true)
    → let status : StatusCode = if requested then abort_requested else aborted_by_deletion in ((status.sct == 0) && (status.sc == 0x08) && not doomed) ≡ false
undoomed_by true doomed h = refl
undoomed_by false doomed h = rw (h refl) refl

unnamed_by : (requested named : Bool) → (requested ≡ true → named ≡ true) → (aborts.is_aborted (if requested then abort_requested else aborted_by_deletion) && not named) ≡ false
unnamed_by true named h = rw (h refl) refl
unnamed_by false named h = refl

own_by : (requested : Bool) (command : AdminCommand) → is_foreign command (if requested then abort_requested else aborted_by_deletion) ≡ false
own_by true command = refl
own_by false command = refl

-- ---- what the judge reads
unnamed_is : (o : Option AdminCommand) (number mark : ℕ) (named owed : Bool) (status : StatusCode) → (aborts.is_aborted status && not named) ≡ false → is_unnamed (command_with o number mark named owed) status ≡ false
unnamed_is None number mark named owed status h = refl
unnamed_is (Some command) number mark named owed status h = h

pub mark_is : (o : Option AdminCommand) (command : AdminCommand) (number mark : ℕ) (named owed : Bool) → o ≡ Some command → mark_in (command_with o number mark named owed) ≡ mark
mark_is None command number mark named owed e = cc e
mark_is (Some found) command number mark named owed e = refl

pub first_two : (a b c : Bool) → (a && b) ≡ false → (a && b && c) ≡ false
first_two true true c h = cc h
first_two true false c h = refl
first_two false b c h = refl

module _ (rules : FrontRules) (starts : StartsWithAdmin rules) (by_regions : placing_in rules ≡ None) where
  module _ (notes : Notes) (c r i : ℕ) (cqe : Cqe) (s : Stands rules (Logged (Post c r i cqe) ∷ notes)) where
    abbrev past : Past
    past = logged notes

    abbrev log : lives.Past
    log = shown rules notes

    abbrev now : Stands rules notes
    now = stands_before rules (Logged (Post c r i cqe)) notes s

    abbrev posted : IsPosted rules notes c r i cqe
    posted = posted_so rules notes c r i cqe now.each s.each.0.posts_own

    given_by : StatusBy rules notes r i posted.entry cqe
    given_by = status_by rules notes now.each c r i cqe posted.entry posted.is_there s.each.0.posts_own

    cause : is_aborted past r i ≡ true → IsCaused rules (is_abort_requested past r i) log cqe.sqid posted.entry.cid
    cause a = (causes_at rules starts by_regions notes now).aborted r i cqe.sqid posted.entry a (posted_out rules starts by_regions notes now c r i cqe posted)

    plain : cqe.status ≡ status_of rules.start (table_before rules past i) posted.entry → IsPlain (admin_command_of posted.entry) cqe.status
    plain is = subst (IsPlain (admin_command_of posted.entry)) (sym is) (status_plain rules.start (table_before rules past i) posted.entry)

    pub sqdel_asked : (is_given notes r i ≡ true → is_undoomed (sq_after (start_of rules) log cqe.sqid) cqe.status ≡ false) → is_undoomed (sq_after (start_of rules) log cqe.sqid) cqe.status ≡ false
    sqdel_asked device = by given_by where
      by : StatusBy rules notes r i posted.entry cqe → is_undoomed (sq_after (start_of rules) log cqe.sqid) cqe.status ≡ false
      by (by_device g) = device g
      by (by_abort a is) = ap (is_undoomed (sq_after (start_of rules) log cqe.sqid)) is ∙ undoomed_by (is_abort_requested past r i) (was_doomed log cqe.sqid) (cause a).1
      by (by_checks z none is dw0) = first_two (cqe.status.sct == 0) (cqe.status.sc == 0x08) (not (was_doomed log cqe.sqid)) (plain is).undeleted

    pub abort_asked : (is_given notes r i ≡ true → is_unnamed (outstanding log cqe.sqid cqe.cid) cqe.status ≡ false) → is_unnamed (outstanding log cqe.sqid cqe.cid) cqe.status ≡ false
    abort_asked device = by given_by where
      unnamed : (aborts.is_aborted cqe.status && not (was_named log cqe.sqid cqe.cid)) ≡ false → is_unnamed (outstanding log cqe.sqid cqe.cid) cqe.status ≡ false
      unnamed = unnamed_is (asked log cqe.sqid cqe.cid) (number_of log cqe.sqid cqe.cid) (mark_of log cqe.sqid cqe.cid) (was_named log cqe.sqid cqe.cid) (owes log cqe.sqid cqe.cid) cqe.status

      by : StatusBy rules notes r i posted.entry cqe → is_unnamed (outstanding log cqe.sqid cqe.cid) cqe.status ≡ false
      by (by_device g) = device g
      by (by_abort a is) =
          unnamed (ap (λ (x : StatusCode). aborts.is_aborted x && not (was_named log cqe.sqid cqe.cid)) is
          ∙ unnamed_by (is_abort_requested past r i) (was_named log cqe.sqid cqe.cid) (λ t. ap (was_named log cqe.sqid) posted.cid ∙ (cause a).0 t))
      by (by_checks z none is dw0) = unnamed (and_left (aborts.is_aborted cqe.status) (not (was_named log cqe.sqid cqe.cid)) (plain is).unaborted)

    -- the command of an admin place is that which its completion answers
    pub answers_own : r ≡ 0 → answered_in (outstanding log cqe.sqid cqe.cid) (completion_of cqe) ≡ admin_command_of posted.entry
    answers_own z =
        let sqid : cqe.sqid ≡ 0 = same_Some cqe.sqid 0 (sym posted.sqid ∙ ap (qid_of_region past) z ∙ admin_qid rules past (effects_of rules notes now.each)) in
        ap (λ (o : Option AdminCommand). answered_by o (completion_of cqe))
        (command_is (asked log cqe.sqid cqe.cid) (number_of log cqe.sqid cqe.cid) (mark_of log cqe.sqid cqe.cid) (was_named log cqe.sqid cqe.cid) (owes log cqe.sqid cqe.cid)
        ∙ posted_asked rules starts by_regions notes now c r i cqe posted)
        ∙ rw (eq-eqb cqe.sqid 0 sqid) refl

    -- a command of an I/O queue answers no admin command
    pub answers_none : (r ≡ 0 → ⊥) → answered_in (outstanding log cqe.sqid cqe.cid) (completion_of cqe) ≡ Other
    answers_none io =
        let other : cqe.sqid ≡ 0 → ⊥ = λ z. io (admin_region rules past (effects_of rules notes now.each) r (posted.sqid ∙ ap (λ (k : ℕ). Some k) z)) in
        ap (λ (o : Option AdminCommand). answered_by o (completion_of cqe))
        (command_is (asked log cqe.sqid cqe.cid) (number_of log cqe.sqid cqe.cid) (mark_of log cqe.sqid cqe.cid) (was_named log cqe.sqid cqe.cid) (owes log cqe.sqid cqe.cid)
        ∙ posted_asked rules starts by_regions notes now c r i cqe posted)
        ∙ rw (ne_eqb cqe.sqid 0 other) refl

    -- the mark of an admin command
    pub mark_own : r ≡ 0 → mark_in (outstanding log cqe.sqid cqe.cid) ≡ mark_of log 0 posted.entry.cid
    mark_own z =
        let sqid : cqe.sqid ≡ 0 = same_Some cqe.sqid 0 (sym posted.sqid ∙ ap (qid_of_region past) z ∙ admin_qid rules past (effects_of rules notes now.each)) in
        mark_is (asked log cqe.sqid cqe.cid) (admin_command_of posted.entry) (number_of log cqe.sqid cqe.cid) (mark_of log cqe.sqid cqe.cid) (was_named log cqe.sqid cqe.cid) (owes log cqe.sqid cqe.cid)
        (posted_asked rules starts by_regions notes now c r i cqe posted)
        ∙ ap (λ (k : ℕ). mark_of log k cqe.cid) sqid ∙ ap (mark_of log 0) posted.cid

    pub of_command : (is_given notes r i ≡ true → is_foreign (answered_in (outstanding log cqe.sqid cqe.cid) (completion_of cqe)) cqe.status ≡ false)
        → is_foreign (answered_in (outstanding log cqe.sqid cqe.cid) (completion_of cqe)) cqe.status ≡ false
    of_command device = by given_by where
      by : StatusBy rules notes r i posted.entry cqe → is_foreign (answered_in (outstanding log cqe.sqid cqe.cid) (completion_of cqe)) cqe.status ≡ false
      by (by_device g) = device g
      by (by_abort a is) = ap (is_foreign (answered_in (outstanding log cqe.sqid cqe.cid) (completion_of cqe))) is ∙ own_by (is_abort_requested past r i) (answered_in (outstanding log cqe.sqid cqe.cid) (completion_of cqe))
      by (by_checks z none is dw0) = ap (λ (k : AdminCommand). is_foreign k cqe.status) (answers_own z) ∙ (plain is).own

pub standing : (rules : FrontRules) (notes : Notes) → IsAccount rules notes → KeepsDuties (start_of rules) (shown rules notes) → Stands rules notes
standing rules notes h duties = record { each = h.each; lawful = h.lawful; duties = duties }

pub sqdels_are_asked : SqdelsAreAsked
sqdels_are_asked rules notes starts by_regions h duties device =
    each_post rules (IsSqdelAsked (start_of rules)) (OfGiven rules (IsSqdelAsked (start_of rules))) (λ past c r i q cqe s d into. sqdel_asked rules starts by_regions past c r i cqe s (λ g. d.0 g q into)) notes (standing rules notes h duties) device

pub aborts_are_asked : AbortsAreAsked
aborts_are_asked rules notes starts by_regions h duties device =
    each_post rules (IsAbortAsked (start_of rules)) (OfGiven rules (IsAbortAsked (start_of rules))) (λ past c r i q cqe s d into. abort_asked rules starts by_regions past c r i cqe s (λ g. d.0 g q into)) notes (standing rules notes h duties) device

pub statuses_are_of_commands : StatusesAreOfCommands
statuses_are_of_commands rules notes starts by_regions h duties device =
    each_post rules (IsOfCommand (start_of rules)) (OfGiven rules (IsOfCommand (start_of rules))) (λ past c r i q cqe s d into. of_command rules starts by_regions past c r i cqe s (λ g. d.0 g q into)) notes (standing rules notes h duties) device
