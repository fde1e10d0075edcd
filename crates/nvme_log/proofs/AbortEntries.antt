-- Which admin entries are Abort commands.
use Rattle.std.proofs.Common.{◌≡◌, ℕ, ◌==◌, Bool, true, false, if◌then◌else◌, ◌∷◌, Option, Some, None, refl, sym, ◌∙◌, eqb-true}
use Rattle.nvme_entry.specs.Status.{StatusCode, success}
use Rattle.nvme_entry.specs.AdminCommand.{admin_command_of, qid_of, qsize_of, cqid_of, qprio_of, pc_of, sqid_of, cid_of, fid_of, sv_of}
use Rattle.nvme_entry.specs.declared.submission.Sqe.{Sqe}
use Rattle.nvme_entry.specs.declared.admin.AdminCommand.{AdminCommand}
use Rattle.nvme_entry.specs.declared.admin.AdminCommand.TheVariants.{DeleteSq, CreateSq, DeleteCq, CreateCq, Abort, SetFeatures, GetFeatures, Other}
use Rattle.nvme_arbiter.specs.Settings.{ArbitrationFields}
use Rattle.nvme_admin.specs.declared.verdict.SqEntry.{SqEntry}
use Rattle.nvme_admin.specs.declared.verdict.Verdict.TheVariants as verdict
use Rattle.nvme_admin.specs.History.{Start, TableHistory, EntryApplied}
use Rattle.nvme_admin.specs.QueueTable.{QueueTable, number_of_queues}
use Rattle.nvme_admin.specs.Checks.{is_success, verdict_after, opened_sq, opened_cq, dw0_after}
use Rattle.nvme_admin.specs.Accepted.{queue_table, status_of, verdict_of}
use Rattle.nvme_log.specs.Aborts.{is_abort_entry}

-- ---- what has the opcode of Abort
-- a choice among commands whose result is an Abort
abort_chosen : (b0 b1 b4 b5 b8 b9 ba : Bool) (delete_sq create_sq delete_cq create_cq set get : AdminCommand) (sqid cid s c : ℕ)
    → (delete_sq ≡ Abort s c → ⊥) → (create_sq ≡ Abort s c → ⊥) → (delete_cq ≡ Abort s c → ⊥) → (create_cq ≡ Abort s c → ⊥) → (set ≡ Abort s c → ⊥) → (get ≡ Abort s c → ⊥)
    → (if b0 then delete_sq else (if b1 then create_sq else (if b4 then delete_cq else (if b5 then create_cq
    else (if b8 then Abort sqid cid else (if b9 then set else (if ba then get else Other))))))) ≡ Abort s c
    → b8 ≡ true
abort_chosen true b1 b4 b5 b8 b9 ba delete_sq create_sq delete_cq create_cq set get sqid cid s c d1 d2 d3 d4 d5 d6 h = absurd (d1 h)
abort_chosen false true b4 b5 b8 b9 ba delete_sq create_sq delete_cq create_cq set get sqid cid s c d1 d2 d3 d4 d5 d6 h = absurd (d2 h)
abort_chosen false false true b5 b8 b9 ba delete_sq create_sq delete_cq create_cq set get sqid cid s c d1 d2 d3 d4 d5 d6 h = absurd (d3 h)
abort_chosen false false false true b8 b9 ba delete_sq create_sq delete_cq create_cq set get sqid cid s c d1 d2 d3 d4 d5 d6 h = absurd (d4 h)
abort_chosen false false false false true b9 ba delete_sq create_sq delete_cq create_cq set get sqid cid s c d1 d2 d3 d4 d5 d6 h = refl
abort_chosen false false false false false true ba delete_sq create_sq delete_cq create_cq set get sqid cid s c d1 d2 d3 d4 d5 d6 h = absurd (d5 h)
abort_chosen false false false false false false true delete_sq create_sq delete_cq create_cq set get sqid cid s c d1 d2 d3 d4 d5 d6 h = absurd (d6 h)
abort_chosen false false false false false false false delete_sq create_sq delete_cq create_cq set get sqid cid s c d1 d2 d3 d4 d5 d6 h = absurd (cc h)

-- an Abort command has its opcode
pub command_is_abort : (entry : Sqe) (sqid cid : ℕ) → admin_command_of entry ≡ Abort sqid cid → is_abort_entry (Some entry) ≡ true
command_is_abort entry sqid cid h =
    abort_chosen (entry.opcode == 0x00) (entry.opcode == 0x01) (entry.opcode == 0x04) (entry.opcode == 0x05) (entry.opcode == 0x08) (entry.opcode == 0x09) (entry.opcode == 0x0a)
    (DeleteSq (qid_of entry)) (CreateSq (qid_of entry) (qsize_of entry) entry.prp1 (cqid_of entry) (qprio_of entry) (pc_of entry)) (DeleteCq (qid_of entry))
    (CreateCq (qid_of entry) (qsize_of entry) entry.prp1 (pc_of entry)) (SetFeatures (fid_of entry) (sv_of entry) entry.cdw11) (GetFeatures (fid_of entry))
    (sqid_of entry) (cid_of entry) sqid cid (λ e. cc e) (λ e. cc e) (λ e. cc e) (λ e. cc e) (λ e. cc e) (λ e. cc e) h

-- an entry of that opcode is an Abort command
abort_is : (entry : Sqe) → entry.opcode ≡ 0x08 → admin_command_of entry ≡ Abort (sqid_of entry) (cid_of entry)
abort_is entry h = rw h refl

-- so a Delete hasn't it
pub delete_is_no_abort : (entry : Sqe) (qid : ℕ) → admin_command_of entry ≡ DeleteSq qid → is_abort_entry (Some entry) ≡ false
delete_is_no_abort entry qid h = by (entry.opcode == 0x08) refl where
  by : (b : Bool) → (entry.opcode == 0x08) ≡ b → b ≡ false
  by false e = refl
  by true e = let both : DeleteSq qid ≡ Abort (sqid_of entry) (cid_of entry) = sym h ∙ abort_is entry (eqb-true entry.opcode 0x08 e) in absurd (cc both)

-- ---- verdicts
not_opened_sq : (q sqid cid : ℕ) (o : Option SqEntry) → opened_sq q o ≡ verdict.Abort sqid cid → ⊥
not_opened_sq q sqid cid None h = absurd (cc h)
not_opened_sq q sqid cid (Some entry) h = absurd (cc h)

not_opened_cq : (q sqid cid : ℕ) (o : Option ℕ) → opened_cq q o ≡ verdict.Abort sqid cid → ⊥
not_opened_cq q sqid cid None h = absurd (cc h)
not_opened_cq q sqid cid (Some region) h = absurd (cc h)

not_set : (b : Bool) (dw0 sqid cid : ℕ) (settings : ArbitrationFields) → (if b then verdict.Done success dw0 else verdict.SetArbitration settings) ≡ verdict.Abort sqid cid → ⊥
not_set true dw0 sqid cid settings h = absurd (cc h)
not_set false dw0 sqid cid settings h = absurd (cc h)

-- an accepted command whose verdict is an Abort is an Abort command
aborts_after : (t : QueueTable) (command : AdminCommand) (sqid cid : ℕ) → verdict_after t command ≡ verdict.Abort sqid cid → command ≡ Abort sqid cid
aborts_after t (CreateSq q qsize prp1 cqid qprio pc) sqid cid h = absurd (not_opened_sq q sqid cid (t.sq q) h)
aborts_after t (CreateCq q qsize prp1 pc) sqid cid h = absurd (not_opened_cq q sqid cid (t.cq q) h)
aborts_after t (DeleteSq q) sqid cid h = absurd (cc h)
aborts_after t (DeleteCq q) sqid cid h = absurd (cc h)
aborts_after t (Abort s c) sqid cid h = cc h
aborts_after t (SetFeatures fid sv cdw11) sqid cid h = absurd (not_set (fid == number_of_queues) (dw0_after t (SetFeatures fid sv cdw11)) sqid cid t.settings h)
aborts_after t (GetFeatures fid) sqid cid h = absurd (cc h)
aborts_after t Other sqid cid h = absurd (cc h)

aborts_by : (accepted : Bool) (status : StatusCode) (t : QueueTable) (command : AdminCommand) (sqid cid : ℕ)
    → (if accepted then verdict_after t command else verdict.Done status 0) ≡ verdict.Abort sqid cid → command ≡ Abort sqid cid
aborts_by true status t command sqid cid h = aborts_after t command sqid cid h
aborts_by false status t command sqid cid h = absurd (cc h)

-- an entry whose verdict is an Abort is an Abort command
pub verdict_is_abort : (start : Start) (h : TableHistory) (entry : Sqe) (sqid cid : ℕ) → verdict_of start h entry ≡ verdict.Abort sqid cid → is_abort_entry (Some entry) ≡ true
unfolding verdict_of
verdict_is_abort start h entry sqid cid e =
    command_is_abort entry sqid cid
    (aborts_by (is_success (status_of start h entry)) (status_of start h entry) (queue_table start (EntryApplied entry ∷ h)) (admin_command_of entry) sqid cid e)

begins_not_sq : (q qid : ℕ) (o : Option SqEntry) → opened_sq q o ≡ verdict.BeginDelete qid → ⊥
begins_not_sq q qid None h = absurd (cc h)
begins_not_sq q qid (Some entry) h = absurd (cc h)

begins_not_cq : (q qid : ℕ) (o : Option ℕ) → opened_cq q o ≡ verdict.BeginDelete qid → ⊥
begins_not_cq q qid None h = absurd (cc h)
begins_not_cq q qid (Some region) h = absurd (cc h)

begins_not_set : (b : Bool) (dw0 qid : ℕ) (settings : ArbitrationFields) → (if b then verdict.Done success dw0 else verdict.SetArbitration settings) ≡ verdict.BeginDelete qid → ⊥
begins_not_set true dw0 qid settings h = absurd (cc h)
begins_not_set false dw0 qid settings h = absurd (cc h)

-- an accepted command that begins the deletion of a submission queue is its Delete
begins_after : (t : QueueTable) (command : AdminCommand) (qid : ℕ) → verdict_after t command ≡ verdict.BeginDelete qid → command ≡ DeleteSq qid
begins_after t (CreateSq q qsize prp1 cqid qprio pc) qid h = absurd (begins_not_sq q qid (t.sq q) h)
begins_after t (CreateCq q qsize prp1 pc) qid h = absurd (begins_not_cq q qid (t.cq q) h)
begins_after t (DeleteSq q) qid h = cc h
begins_after t (DeleteCq q) qid h = absurd (cc h)
begins_after t (Abort s c) qid h = absurd (cc h)
begins_after t (SetFeatures fid sv cdw11) qid h = absurd (begins_not_set (fid == number_of_queues) (dw0_after t (SetFeatures fid sv cdw11)) qid t.settings h)
begins_after t (GetFeatures fid) qid h = absurd (cc h)
begins_after t Other qid h = absurd (cc h)

begins_by : (accepted : Bool) (status : StatusCode) (t : QueueTable) (command : AdminCommand) (qid : ℕ)
    → (if accepted then verdict_after t command else verdict.Done status 0) ≡ verdict.BeginDelete qid → command ≡ DeleteSq qid
begins_by true status t command qid h = begins_after t command qid h
begins_by false status t command qid h = absurd (cc h)

-- an entry that begins the deletion of a submission queue is no Abort command
pub verdict_is_delete : (start : Start) (h : TableHistory) (entry : Sqe) (qid : ℕ) → verdict_of start h entry ≡ verdict.BeginDelete qid → is_abort_entry (Some entry) ≡ false
unfolding verdict_of
verdict_is_delete start h entry qid e =
    delete_is_no_abort entry qid
    (begins_by (is_success (status_of start h entry)) (status_of start h entry) (queue_table start (EntryApplied entry ∷ h)) (admin_command_of entry) qid e)
