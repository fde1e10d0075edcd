-- The entry that bytes hold.
use Rattle.std.proofs.Common.{◌≡◌, ℕ, List}
use Rattle.nvme_entry.specs.Submission.{IsSubmissionEntry}
use Rattle.nvme_entry.specs.declared.submission.Sqe.{Sqe}
use Rattle.nvme_audit_text.specs.Entries.{entry_of}

pub entry_is : (bytes : List ℕ) (entry : Sqe) → IsSubmissionEntry bytes entry → entry ≡ entry_of bytes
entry_is bytes entry is = rw (← is.opcode, ← is.flags, ← is.cid, ← is.nsid, ← is.cdw2, ← is.cdw3, ← is.mptr, ← is.prp1, ← is.prp2, ← is.cdw10, ← is.cdw11, ← is.cdw12, ← is.cdw13, ← is.cdw14, ← is.cdw15)
