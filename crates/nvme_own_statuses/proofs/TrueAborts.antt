-- What Aborts say is true: a command that one says was aborted is there, and ends so.
use Rattle.std.proofs.Common.{◌≡◌, ℕ, ◌&&◌, ◌||◌, Bool, true, false, not, if◌then◌else◌, [], ◌∷◌, Option, Some, None, is_none, refl, sym, ap, ◌∙◌, subst, inl, inr}
use Rattle.std.proofs.lemmas.Bool.{cases_Bool, eq-eqb, and_parts, false_from_ne_true}
use Rattle.std.proofs.lemmas.Option.{same_Some}
use Rattle.nvme_entry.specs.Status.{StatusCode, abort_requested, aborted_by_deletion}
use Rattle.nvme_entry.specs.AdminCommand.{admin_command_of}
use Rattle.nvme_entry.specs.declared.completion.Cqe.{Cqe}
use Rattle.nvme_entry.specs.declared.admin.AdminCommand.{AdminCommand}
use Rattle.nvme_entry.specs.declared.admin.AdminCommand.TheVariants.{DeleteSq, CreateSq, DeleteCq, CreateCq, Abort, SetFeatures, GetFeatures, Other}
use Rattle.nvme_log.specs.declared.event.Event.TheVariants.{Post}
use Rattle.nvme_log.specs.Rules.{FrontRules, Past}
use Rattle.nvme_log.specs.Queues.{qid_of_region}
use Rattle.nvme_log.specs.Places.{is_aborted}
use Rattle.nvme_log.specs.Aborts.{is_abort_requested}
use Rattle.nvme_log.specs.Laws.{StartsWithAdmin}
use Rattle.nvme_log.proofs.Turns.{admin-unaborted}
use Rattle.nvme_ctrl_log.specs.Notes.{Notes, Note, Logged, EachNote, logged}
use Rattle.nvme_ctrl_log.specs.Tags.{is_passed, is_of_device}
use Rattle.nvme_ctrl_log.specs.Making.{placing_in}
use Rattle.nvme_ctrl_log.proofs.AbortRequests.{requested_aborted}
use Rattle.nvme_audit.specs.Lives as lives
use Rattle.nvme_audit.specs.Lives.{asked}
use Rattle.nvme_audit.specs.Turns.{sq_named, cid_named}
use Rattle.nvme_audit.specs.Rings.{number_of}
use Rattle.nvme_audit.specs.Marks.{mark_of, owes}
use Rattle.nvme_audit.specs.Aborts as aborts
use Rattle.nvme_audit.specs.Aborts.{is_abort, was_named, stirred, told_of}
use Rattle.nvme_audit.specs.Facts.{sq_after, command_with, outstanding}
use Rattle.nvme_audit.specs.Answers.{mark_in, answered_in, is_not_as_told, is_untrue_abort}
use Rattle.nvme_own_log.specs.Shown.{start_of, completion_of, shown}
use Rattle.nvme_own_statuses.specs.Statuses.{is_given, IsAsTold, IsTrueAbort, OfGiven, TakesOwn, DeviceTakesOwn}
use Rattle.nvme_own_statuses.specs.Laws.{AbortedAreAsTold, AbortsAreTrue}
use Rattle.nvme_own_log.proofs.AdminQueues.{effects_of}
use Rattle.nvme_own_log.proofs.Answered.{IsPosted, posted_so}
use Rattle.nvme_own_statuses.proofs.Outs.{out_asked, posted_out, posted_asked}
use Rattle.nvme_own_log.proofs.OwnRegions.{admin_qid}
use Rattle.nvme_own_statuses.proofs.Standing.{Stands, stands_before, each_post}
use Rattle.nvme_own_statuses.proofs.StatusBy.{StatusBy, by_device, by_abort, by_checks, status_by}
use Rattle.nvme_own_statuses.proofs.Statuses.{answers_own, answers_none, mark_is, standing}
use Rattle.nvme_own_statuses.proofs.Tells.{has_passed, had_by, IsTaken, IsHeld, TellsAt}
use Rattle.nvme_own_statuses.proofs.TellsNotes.{told_own, tells_at}

-- ---- what the judge reads
told_is : (o : Option AdminCommand) (number mark : ℕ) (named owed : Bool) (status : StatusCode) → (owed && not (aborts.is_aborted status)) ≡ false → is_not_as_told (command_with o number mark named owed) status ≡ false
told_is None number mark named owed status h = refl
told_is (Some command) number mark named owed status h = h

none_is : (o : Option AdminCommand) (number mark : ℕ) (named owed : Bool) → is_none (command_with o number mark named owed) ≡ is_none o
none_is None number mark named owed = refl
none_is (Some command) number mark named owed = refl

abort_is : (command : AdminCommand) → is_abort command ≡ true → (q : ℕ) × (cid : ℕ) × (command ≡ Abort q cid)
abort_is (DeleteSq qid) h = cc h
abort_is (CreateSq qid qsize prp1 cqid qprio pc) h = cc h
abort_is (DeleteCq qid) h = cc h
abort_is (CreateCq qid qsize prp1 pc) h = cc h
abort_is (Abort sqid cid) h = (sqid, cid, refl)
abort_is (SetFeatures fid sv cdw11) h = cc h
abort_is (GetFeatures fid) h = cc h
abort_is Other h = cc h

-- something else holds of each note too
pub both_each : (A B : Notes → Note → Type 0) (notes : Notes) → EachNote A notes → EachNote B notes → EachNote (λ past note. A past note × B past note) notes
both_each A B [] a b = tt
both_each A B (note ∷ notes) a b = ((a.0, b.0), both_each A B notes a.1 b.1)

pub second_each : (A B : Notes → Note → Type 0) (notes : Notes) → EachNote (λ past note. A past note × B past note) notes → EachNote B notes
second_each A B [] h = tt
second_each A B (note ∷ notes) h = (h.0.1, second_each A B notes h.1)

module _ (rules : FrontRules) (starts : StartsWithAdmin rules) (by_regions : placing_in rules ≡ None) where
  module _ (notes : Notes) (c r i : ℕ) (cqe : Cqe) (s : Stands rules (Logged (Post c r i cqe) ∷ notes)) (d : DeviceTakesOwn (Logged (Post c r i cqe) ∷ notes)) where
    abbrev past : Past
    past = logged notes

    abbrev log : lives.Past
    log = shown rules notes

    abbrev now : Stands rules notes
    now = stands_before rules (Logged (Post c r i cqe)) notes s

    abbrev posted : IsPosted rules notes c r i cqe
    posted = posted_so rules notes c r i cqe now.each s.each.0.posts_own

    given_by : StatusBy rules notes r i posted.entry cqe
    given_by = status_by rules notes now.each c r i cqe posted.entry posted.is_there s.each.0.posts_own

    tells : TellsAt rules log past (had_by notes)
    tells = tells_at rules starts by_regions notes now d.1

    unaborted : r ≡ 0 → is_aborted past r i ≡ true → ⊥
    unaborted z a = admin-unaborted rules past (effects_of rules notes now.each) i (subst (λ (k : ℕ). is_aborted past k i ≡ true) z a)

    -- what is owed
    owed_is : owes log cqe.sqid cqe.cid ≡ true → (is_abort_requested past r i ≡ true → aborts.is_aborted cqe.status ≡ true) → (IsHeld rules past (had_by notes) r i → aborts.is_aborted cqe.status ≡ true) → aborts.is_aborted cqe.status ≡ true
    owed_is w one other = elim (tells.owed r i cqe.sqid posted.entry (posted_out rules starts by_regions notes now c r i cqe posted) (ap (owes log cqe.sqid) (sym posted.cid) ∙ w)) [
      | inl ok ↦ one ok
      | inr h ↦ other h
    ]

    told_so : (owes log cqe.sqid cqe.cid ≡ true → aborts.is_aborted cqe.status ≡ true) → is_not_as_told (outstanding log cqe.sqid cqe.cid) cqe.status ≡ false
    told_so h =
        told_is (asked log cqe.sqid cqe.cid) (number_of log cqe.sqid cqe.cid) (mark_of log cqe.sqid cqe.cid) (was_named log cqe.sqid cqe.cid) (owes log cqe.sqid cqe.cid) cqe.status
        (elim (cases_Bool (owes log cqe.sqid cqe.cid)) [
          | inl ok ↦ rw (ok, h ok) refl
          | inr none ↦ rw none refl
        ])

    pub as_told : (is_given notes r i ≡ true → is_not_as_told (outstanding log cqe.sqid cqe.cid) cqe.status ≡ false) → is_not_as_told (outstanding log cqe.sqid cqe.cid) cqe.status ≡ false
    as_told device = by given_by where
      by : StatusBy rules notes r i posted.entry cqe → is_not_as_told (outstanding log cqe.sqid cqe.cid) cqe.status ≡ false
      by (by_device g) = device g
      by (by_abort a is) = told_so (λ w. owed_is w
          (λ yes. ap aborts.is_aborted is ∙ ap (λ (b : Bool). aborts.is_aborted (if b then abort_requested else aborted_by_deletion)) yes)
          (λ h. absurd (let none : is_aborted past r i ≡ false = h.unaborted in cc (none, a))))
      by (by_checks z none is dw0) = told_so (λ w. owed_is w
          (λ yes. absurd (unaborted z (requested_aborted past r i yes)))
          (λ h. absurd (
          let own : is_of_device notes r i ≡ true = (and_parts (is_of_device notes r i) (has_passed notes) h.of_device).0 in
          let passed : is_passed notes i ≡ true = subst (λ (b : Bool). (not b || is_passed notes i) ≡ true) (eq-eqb r 0 z) own in
          cc (passed, none))))

    -- where no admin command was passed on, no Abort says of a command that the device answered that it was aborted
    pub told_by_none : has_passed notes ≡ false → is_given notes r i ≡ true → is_not_as_told (outstanding log cqe.sqid cqe.cid) cqe.status ≡ false
    told_by_none none given = told_so (λ w. owed_is w
        (λ yes. absurd (
        let aborted : not (is_aborted past r i) ≡ false = rw (requested_aborted past r i yes) refl in
        let whole = (and_parts (is_of_device notes r i) (not (is_aborted past r i)) given).1 in
        cc (aborted, whole)))
        (λ h. absurd (let some = (and_parts (is_of_device notes r i) (has_passed notes) h.of_device).1 in cc (some, none))))

    abbrev answers : AdminCommand
    answers = answered_in (outstanding log cqe.sqid cqe.cid) (completion_of cqe)

    abbrev Untrue : Bool
    Untrue = is_untrue_abort (start_of rules).tells (sq_after (start_of rules) log (sq_named answers)) (outstanding log (sq_named answers) (cid_named answers)) (mark_in (outstanding log cqe.sqid cqe.cid)) (completion_of cqe) answers

    -- an Abort that says so took a command that is outstanding
    true_own : (q cid : ℕ) → r ≡ 0 → is_passed notes i ≡ false → answers ≡ Abort q cid → IsTaken rules past q cid → is_none (outstanding log (sq_named answers) (cid_named answers)) ≡ true → ⊥
    true_own q cid z none is taken lost =
        let asks : asked log q cid ≡ Some (admin_command_of taken.entry) = ap (asked log q) (sym taken.cid_is) ∙ out_asked rules starts by_regions notes now taken.region taken.index q taken.entry taken.out in
        let there : is_none (outstanding log q cid) ≡ false = none_is (asked log q cid) (number_of log q cid) (mark_of log q cid) (was_named log q cid) (owes log q cid) ∙ ap (λ (o : Option AdminCommand). is_none o) asks in
        let gone : is_none (outstanding log q cid) ≡ true = subst (λ (k : AdminCommand). is_none (outstanding log (sq_named k) (cid_named k)) ≡ true) is lost in
        cc (there, gone)

    pub true_abort : (is_given notes r i ≡ true → Untrue ≡ false) → Untrue ≡ false
    true_abort device = by given_by where
      by : StatusBy rules notes r i posted.entry cqe → Untrue ≡ false
      by (by_device g) = device g
      by (by_abort a is) = false_from_ne_true Untrue (λ h.
          let first = and_parts (is_abort answers && is_none (outstanding log (sq_named answers) (cid_named answers)) && told_of (stirred log (sq_named answers)) (mark_in (outstanding log cqe.sqid cqe.cid)) (completion_of cqe)) _ h in
          let second = and_parts (is_abort answers && is_none (outstanding log (sq_named answers) (cid_named answers))) (told_of (stirred log (sq_named answers)) (mark_in (outstanding log cqe.sqid cqe.cid)) (completion_of cqe)) first.0 in
          let third = and_parts (is_abort answers) (is_none (outstanding log (sq_named answers) (cid_named answers))) second.0 in
          let none : is_abort answers ≡ false = ap is_abort (answers_none rules starts by_regions notes c r i cqe s (λ z. unaborted z a)) in
          cc (none, third.0))
      by (by_checks z none is dw0) = false_from_ne_true Untrue (λ h.
          let first = and_parts (is_abort answers && is_none (outstanding log (sq_named answers) (cid_named answers)) && told_of (stirred log (sq_named answers)) (mark_in (outstanding log cqe.sqid cqe.cid)) (completion_of cqe)) _ h in
          let second = and_parts (is_abort answers && is_none (outstanding log (sq_named answers) (cid_named answers))) (told_of (stirred log (sq_named answers)) (mark_in (outstanding log cqe.sqid cqe.cid)) (completion_of cqe)) first.0 in
          let third = and_parts (is_abort answers) (is_none (outstanding log (sq_named answers) (cid_named answers))) second.0 in
          let it = abort_is answers third.0 in
          let command : admin_command_of posted.entry ≡ Abort it.0 it.1 = sym (answers_own rules starts by_regions notes c r i cqe s z) ∙ it.2 in
          let sqid : cqe.sqid ≡ 0 = same_Some cqe.sqid 0 (sym posted.sqid ∙ ap (qid_of_region past) z ∙ admin_qid rules past (effects_of rules notes now.each)) in
          let mark : mark_in (outstanding log cqe.sqid cqe.cid) ≡ mark_of log 0 cqe.cid =
          mark_is (asked log cqe.sqid cqe.cid) (admin_command_of posted.entry) (number_of log cqe.sqid cqe.cid) (mark_of log cqe.sqid cqe.cid) (was_named log cqe.sqid cqe.cid) (owes log cqe.sqid cqe.cid) (posted_asked rules starts by_regions notes now c r i cqe posted)
          ∙ ap (λ (k : ℕ). mark_of log k cqe.cid) sqid in
          let told : told_of (stirred log it.0) (mark_of log 0 cqe.cid) (completion_of cqe) ≡ true =
          subst (λ (m : ℕ). told_of (stirred log it.0) m (completion_of cqe) ≡ true) mark
          (subst (λ (k : AdminCommand). told_of (stirred log (sq_named k)) (mark_in (outstanding log cqe.sqid cqe.cid)) (completion_of cqe) ≡ true) it.2 second.1) in
          true_own it.0 it.1 z none it.2 (told_own rules starts by_regions c r i cqe notes s d.0 tells it.0 it.1 z none command is dw0 told) third.1)

pub aborted_are_as_told : AbortedAreAsTold
aborted_are_as_told rules notes starts by_regions h duties own device =
    each_post rules (IsAsTold (start_of rules)) (λ past note. OfGiven rules (IsAsTold (start_of rules)) past note × TakesOwn past note)
    (λ past c r i q cqe s d into. as_told rules starts by_regions past c r i cqe s (second_each (OfGiven rules (IsAsTold (start_of rules))) TakesOwn (Logged (Post c r i cqe) ∷ past) d) (λ g. d.0.0 g q into))
    notes (standing rules notes h duties) (both_each (OfGiven rules (IsAsTold (start_of rules))) TakesOwn notes device own)

pub aborts_are_true : AbortsAreTrue
aborts_are_true rules notes starts by_regions h duties own device =
    each_post rules (IsTrueAbort (start_of rules)) (λ past note. OfGiven rules (IsTrueAbort (start_of rules)) past note × TakesOwn past note)
    (λ past c r i q cqe s d into. true_abort rules starts by_regions past c r i cqe s (second_each (OfGiven rules (IsTrueAbort (start_of rules))) TakesOwn (Logged (Post c r i cqe) ∷ past) d) (λ g. d.0.0 g q into))
    notes (standing rules notes h duties) (both_each (OfGiven rules (IsTrueAbort (start_of rules))) TakesOwn notes device own)
