-- What a queue table of C is, and what it answers, in the library's terms (profile).
use Rattle.std.specs.Prelude.{ℕ, ◌==◌, ◌&&◌, nat_le, Bool}
use Rattle.nvme_entry.specs.Status.{StatusCode, success}
use Rattle.nvme_arbiter.specs.Settings.{cdw11_of, number_of_class}
use Rattle.nvme_admin.specs.declared.bounds.TheConstants.{MAX_IO_QUEUES}
use Rattle.nvme_admin.specs.declared.verdict.SqEntry.{SqEntry}
use Rattle.nvme_admin.specs.declared.verdict.Verdict.{Verdict}
use Rattle.nvme_admin.specs.declared.verdict.Verdict.TheVariants.{Done, OpenSq, OpenCq, BeginDelete, CloseCq, Abort, SetArbitration}
use Rattle.nvme_capi.specs.Fields.{bit}
use Rattle.nvme_capi.specs.declared.fields.StatusFields.{StatusFields}
use Rattle.nvme_capi.specs.declared.table.TheConstants.{MARK}
use Rattle.nvme_capi.specs.declared.table.TableState.{TableState}
use Rattle.nvme_capi.specs.declared.answers.AnswerFields.{AnswerFields}
use Rattle.nvme_capi.specs.declared.answers.QueueAnswer.{QueueAnswer}

-- how many queues of a kind can be allotted
abbrev pub is_limit : ℕ → Bool
is_limit n = nat_le 1 n && nat_le n MAX_IO_QUEUES

-- a queue table is one that was made, by its mark
abbrev pub is_table : TableState → Bool
is_table s = s.mark == MARK

-- ---- answers
abbrev pub status_fields_of : StatusCode → StatusFields
status_fields_of s = record { sct = s.sct; sc = s.sc }

-- the answer that says success, and nothing else
abbrev pub plain_answer : ℕ → AnswerFields
plain_answer verdict = record { verdict = verdict; dw0 = 0; cdw11 = 0; qid = 0; region = 0; cqid = 0; priority = 0; status = status_fields_of success; cid = 0 }

-- what a verdict says, with 0 for what verdicts of its kind don't have. Dword 0 of an Abort is the caller's, and 0 here
abbrev pub answer_of : Verdict → AnswerFields
answer_of (Done status dw0) = record (plain_answer 0) { status = status_fields_of status; dw0 = dw0 }
answer_of (OpenSq qid region cqid class) = record (plain_answer 1) { qid = qid; region = region; cqid = cqid; priority = number_of_class class }
answer_of (OpenCq qid region) = record (plain_answer 2) { qid = qid; region = region }
answer_of (BeginDelete qid) = record (plain_answer 3) { qid = qid }
answer_of (CloseCq qid) = record (plain_answer 4) { qid = qid }
answer_of (SetArbitration settings) = record (plain_answer 5) { cdw11 = cdw11_of settings }
answer_of (Abort sqid cid) = record (plain_answer 6) { qid = sqid; cid = cid }

-- what is said of a submission queue
abbrev pub queue_answer_of : SqEntry → QueueAnswer
queue_answer_of queue = record { region = queue.region; cqid = queue.cqid; priority = number_of_class queue.class; closing = bit queue.closing }
