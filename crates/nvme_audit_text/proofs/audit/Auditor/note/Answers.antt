use Rattle.nvme_audit_text.proofs.audit.Auditor.note.Goals as goal

pub returns-in-Some-clause-taken : goal.returns-in-Some-clause-taken
returns-in-Some-clause-taken c = λ start past found at. rw c.in-Some.is (c.take.ensures.taken start past found at)
