-- What aborts were made for: an Abort that named the command, or a Delete of its queue, was fetched, and shows.
use Rattle.std.proofs.Common.{◌≡◌, ℕ, ◌%◌, ◌==◌, ◌&&◌, ◌||◌, Bool, true, false, if◌then◌else◌, [], ◌∷◌, ◌++◌, length, take, Option, Some, None, is_some, refl, sym, ap, ◌∙◌, subst, inl, inr, eqb-true}
use Rattle.std.specs.Prelude.{slice_get}
use Rattle.std.proofs.lemmas.Bool.{cases_eq, eq-eqb, ne_eqb, or_left, or_right, and_parts, false_from_ne_true}
use Rattle.std.proofs.lemmas.Option.{none-some}
use Rattle.nvme_entry.specs.AdminCommand.{admin_command_of, sqid_of, cid_of}
use Rattle.nvme_entry.specs.declared.submission.Sqe.{Sqe}
use Rattle.nvme_entry.specs.declared.admin.AdminCommand.{AdminCommand}
use Rattle.nvme_entry.specs.declared.admin.AdminCommand.TheVariants.{DeleteSq, Abort}
use Rattle.nvme_admin.specs.History.{Start, TableHistory, EntryApplied}
use Rattle.nvme_admin.specs.Accepted.{queue_table, status_of, verdict_of}
use Rattle.nvme_admin.specs.Checks.{is_success, verdict_by}
use Rattle.nvme_admin.specs.declared.verdict.Verdict.TheVariants as verdict
use Rattle.nvme_log.specs.declared.event.Event.TheVariants as event
use Rattle.nvme_log.specs.Rules.{FrontRules, Past}
use Rattle.nvme_log.specs.Queues.{Queue, qid_of_region}
use Rattle.nvme_log.specs.Places.{fetched, waiting, entry_at}
use Rattle.nvme_log.specs.Effects.{has_cid, named, abort_in, abort_of, target_of}
use Rattle.nvme_log.proofs.AbortEntries.{verdict_is_abort}
use Rattle.nvme_log.proofs.Members.{IsIn, in-take, in-filter}
use Rattle.nvme_log.proofs.Turns.{aborts-in}
use Rattle.nvme_ctrl_log.specs.Notes.{Notes, Note, Logged, Tail, Head, logged}
use Rattle.nvme_ctrl_log.specs.Doorbells.{sq_slots, cq_slots}
use Rattle.nvme_audit.specs.Lives.{asked}
use Rattle.nvme_audit.specs.Queues.{deletes_sq}
use Rattle.nvme_audit.specs.Turns.{was_doomed}
use Rattle.nvme_audit.specs.Aborts.{was_named}
use Rattle.nvme_own_log.specs.Shown.{cqid_of_region, start_of, tail_of, head_of, fetch_of, post_of, shown}
use Rattle.nvme_own_log.specs.Duties.{KeepsDuties}
use Rattle.nvme_log.specs.Completions.{posted_to}
use Rattle.nvme_own_log.proofs.AdminQueues.{effects_of}
use Rattle.nvme_own_log.proofs.AdminTurns.{Turn, opens, deletes, neither, turn_of}
use Rattle.nvme_own_log.proofs.OwnRegions.{admin_qid}
use Rattle.nvme_own_statuses.proofs.Standing.{Stands, stands_before}
use Rattle.nvme_own_log.proofs.Agreeing.{get_push}

-- under another name what was named stays, and under this one it is what is outstanding that counts
keep_named : (x c y z : Bool) → c ≡ false → z ≡ true → (x || (if c then y else z)) ≡ true
keep_named true c y z e h = refl
keep_named false c y z e h = rw e h

pub new_named : (x c y z : Bool) → c ≡ true → y ≡ true → (x || (if c then y else z)) ≡ true
new_named true c y z e h = refl
new_named false c y z e h = rw e h

-- ---- verdicts and their commands
pub abort_command : (start : Start) (h : TableHistory) (entry : Sqe) (sqid cid : ℕ) → verdict_of start h entry ≡ verdict.Abort sqid cid → admin_command_of entry ≡ Abort sqid cid
unfolding verdict_of
abort_command start h entry sqid cid v =
    let code : entry.opcode ≡ 0x08 = eqb-true entry.opcode 0x08 (verdict_is_abort start h entry sqid cid v) in
    let is : admin_command_of entry ≡ Abort (sqid_of entry) (cid_of entry) = rw code refl in
    is ∙ by (is_success (status_of start h entry))
    (subst (λ (c : AdminCommand). verdict_by (status_of start h entry) (queue_table start (EntryApplied entry ∷ h)) c ≡ verdict.Abort sqid cid) is v) where
      by : (b : Bool) → (if b then verdict.Abort (sqid_of entry) (cid_of entry) else verdict.Done (status_of start h entry) 0) ≡ verdict.Abort sqid cid → Abort (sqid_of entry) (cid_of entry) ≡ Abort sqid cid
      by true e = let s : sqid_of entry ≡ sqid = cc e in let c : cid_of entry ≡ cid = cc e in λ t. Abort (s t) (c t)
      by false e = cc e

pub delete_command : (start : Start) (h : TableHistory) (entry : Sqe) (q : ℕ) → verdict_of start h entry ≡ verdict.BeginDelete q → admin_command_of entry ≡ DeleteSq q
delete_command start h entry q v = by (turn_of start h entry q) where
  by : Turn (queue_table start h).placing (queue_table start h).sq_regions (verdict_of start h entry) (admin_command_of entry) (is_success (status_of start h entry)) q → admin_command_of entry ≡ DeleteSq q
  by (opens qsize prp1 cqid qprio pc region class ok is so slots) = absurd (let both : verdict.BeginDelete q ≡ verdict.OpenSq q region cqid class = sym v ∙ so in cc both)
  by (deletes ok is so) = is
  by (neither opened none turns) = absurd (none v)

-- what an Abort takes has the identifier that it names
pub aborted_cid : (past : Past) (sqid cid r i : ℕ) (entry : Sqe) → IsIn (event.Abort r i) (abort_of past sqid cid) → entry_at past r i ≡ Some entry → entry.cid ≡ cid
aborted_cid past sqid cid r i entry h at = by (target_of past sqid) h where
  by : (o : Option Queue) → IsIn (event.Abort r i) (abort_in past cid o) → entry.cid ≡ cid
  by None k = absurd k
  by (Some queue) k =
      let it = aborts-in queue.region r i (take 1 (named past queue.region cid)) k in
      let passes : has_cid cid (entry_at past queue.region i) ≡ true = (in-filter (λ (j : ℕ). has_cid cid (entry_at past queue.region j)) i (waiting past queue.region) (in-take i 1 (named past queue.region cid) it.1)).1 in
      let own : has_cid cid (Some entry) ≡ true = ap (has_cid cid) (sym (ap (λ (z : ℕ). entry_at past z i) it.0 ∙ at)) ∙ passes in
      eqb-true entry.cid cid own

module _ (rules : FrontRules) where
  -- ---- what shows stays
  -- a Delete of the queue was fetched
  pub doomed_stays : (note : Note) (notes : Notes) (q : ℕ) → was_doomed (shown rules notes) q ≡ true → was_doomed (shown rules (note ∷ notes)) q ≡ true
  doomed_stays (Tail r slot) notes q h = by (qid_of_region (logged notes) r) where
    by : (o : Option ℕ) → was_doomed (tail_of o slot (shown rules notes)) q ≡ true
    by None = h
    by (Some p) = h
  doomed_stays (Head c slot) notes q h = by (cqid_of_region (logged notes) c) where
    by : (o : Option ℕ) → was_doomed (head_of o slot (shown rules notes)) q ≡ true
    by None = h
    by (Some p) = h
  doomed_stays (Logged (event.Fetch r i entry)) notes q h = by (qid_of_region (logged notes) r) where
    by : (o : Option ℕ) → was_doomed (fetch_of o (i % sq_slots rules r) entry (shown rules notes)) q ≡ true
    by None = h
    by (Some p) = or_right _ _ h
  doomed_stays (Logged (event.Post c r i cqe)) notes q h = by (cqid_of_region (logged notes) c) where
    by : (o : Option ℕ) → was_doomed (post_of o (length (posted_to (logged notes) c) % cq_slots rules c) cqe (shown rules notes)) q ≡ true
    by None = h
    by (Some p) = h
  doomed_stays (Logged e) notes q h = h
  doomed_stays note notes q h = h

  -- an Abort named the outstanding command of a name
  pub named_stays : (note : Note) (notes : Notes) (q cid : ℕ) → Stands rules (note ∷ notes) → is_some (asked (shown rules notes) q cid) ≡ true → was_named (shown rules notes) q cid ≡ true
      → was_named (shown rules (note ∷ notes)) q cid ≡ true
  named_stays (Tail r slot) notes q cid s out h = by (qid_of_region (logged notes) r) where
    by : (o : Option ℕ) → was_named (tail_of o slot (shown rules notes)) q cid ≡ true
    by None = h
    by (Some p) = h
  named_stays (Head c slot) notes q cid s out h = by (cqid_of_region (logged notes) c) where
    by : (o : Option ℕ) → was_named (head_of o slot (shown rules notes)) q cid ≡ true
    by None = h
    by (Some p) = h
  named_stays (Logged (event.Fetch r i entry)) notes q cid s out h = by (qid_of_region (logged notes) r) (s.duties) where
    by : (o : Option ℕ) → KeepsDuties (start_of rules) (fetch_of o (i % sq_slots rules r) entry (shown rules notes)) → was_named (fetch_of o (i % sq_slots rules r) entry (shown rules notes)) q cid ≡ true
    by None d = h
    by (Some p) d = keep_named _ (p == q && entry.cid == cid) _ _ (false_from_ne_true (p == q && entry.cid == cid) (λ same.
        let parts = and_parts (p == q) (entry.cid == cid) same in
        let free : is_some (asked (shown rules notes) q cid) ≡ false =
        subst (λ (z : ℕ). is_some (asked (shown rules notes) z cid) ≡ false) (eqb-true p q parts.0) (subst (λ (z : ℕ). is_some (asked (shown rules notes) p z) ≡ false) (eqb-true entry.cid cid parts.1) d.0.0) in
        cc (free, out))) h
  named_stays (Logged (event.Post c r i cqe)) notes q cid s out h = by (cqid_of_region (logged notes) c) where
    by : (o : Option ℕ) → was_named (post_of o (length (posted_to (logged notes) c) % cq_slots rules c) cqe (shown rules notes)) q cid ≡ true
    by None = h
    by (Some p) = h
  named_stays (Logged e) notes q cid s out h = h
  named_stays note notes q cid s out h = h

  -- a Delete that was fetched shows
  pub delete_shows : (notes : Notes) → Stands rules notes → (k q : ℕ) (entry : Sqe) → entry_at (logged notes) 0 k ≡ Some entry → admin_command_of entry ≡ DeleteSq q → was_doomed (shown rules notes) q ≡ true
  delete_shows [] s k q entry at is = absurd (none-some entry at)
  delete_shows (Logged (event.Fetch r i x) ∷ notes) s k q entry at is =
      let before : Stands rules notes = stands_before rules (Logged (event.Fetch r i x)) notes s in
      elim (cases_eq r 0) [
        | inl z ↦
            let own : qid_of_region (logged notes) r ≡ Some 0 = ap (qid_of_region (logged notes)) z ∙ admin_qid rules (logged notes) (effects_of rules notes before.each) in
            subst (λ (o : Option ℕ). was_doomed (fetch_of o (i % sq_slots rules r) x (shown rules notes)) q ≡ true) (sym own)
            (elim (get_push (fetched (logged notes) 0) x k entry (subst (λ (b : Bool). slice_get (if b then fetched (logged notes) 0 ++ x ∷ [] else fetched (logged notes) 0) k ≡ Some entry) (eq-eqb r 0 z) at)) [
              | inl earlier ↦ or_right _ _ (delete_shows notes before k q entry earlier is)
              | inr last ↦ or_left _ _ (ap (λ (y : Sqe). deletes_sq (admin_command_of y) q) last.1 ∙ ap (λ (c : AdminCommand). deletes_sq c q) is ∙ eq-eqb q q refl)
            ])
        | inr io ↦
            doomed_stays (Logged (event.Fetch r i x)) notes q
            (delete_shows notes before k q entry (subst (λ (b : Bool). slice_get (if b then fetched (logged notes) 0 ++ x ∷ [] else fetched (logged notes) 0) k ≡ Some entry) (ne_eqb r 0 io) at) is)
      ]
  delete_shows (Logged e ∷ notes) s k q entry at is = doomed_stays (Logged e) notes q (delete_shows notes (stands_before rules (Logged e) notes s) k q entry at is)
  delete_shows (note ∷ notes) s k q entry at is = doomed_stays note notes q (delete_shows notes (stands_before rules note notes s) k q entry at is)
