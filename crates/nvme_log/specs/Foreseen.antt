-- The answers of admin commands, by the commands before them alone. A front begins none before the deletion that the one before it began is
-- finished. (Base Specification, Admin Command Set; the waiting: profile)
use Rattle.std.specs.Prelude.{◌≡◌, ℕ, List, [], ◌∷◌, ◌++◌, take, reverse, Some, slice_get}
use Rattle.nvme_entry.specs.declared.submission.Sqe.{Sqe}
use Rattle.nvme_entry.specs.declared.completion.Cqe.{Cqe}
use Rattle.nvme_admin.specs.History.{Start, TableHistory, EntryApplied, DeletionFinished}
use Rattle.nvme_admin.specs.Accepted.{status_of, verdict_of}
use Rattle.nvme_admin.specs.declared.verdict.Verdict.{Verdict}
use Rattle.nvme_admin.specs.declared.verdict.Verdict.TheVariants.{BeginDelete}
use Rattle.nvme_log.specs.declared.event.Event.TheVariants.{Post}
use Rattle.nvme_log.specs.Rules.{Past, FrontRules}
use Rattle.nvme_log.specs.Account.{IsAccount}
use Rattle.nvme_log.specs.Laws.{StartsWithAdmin}

-- a deletion that a verdict begins is finished at once
abbrev pub finished_after : Verdict → TableHistory → TableHistory
finished_after (BeginDelete qid) h = DeletionFinished qid ∷ h
finished_after verdict h = h

-- the table history after these admin commands more, of which the latest comes first
abbrev pub foreseen : Start → TableHistory → List Sqe → TableHistory
foreseen start h [] = h
foreseen start h (entry ∷ earlier) = finished_after (verdict_of start (foreseen start h earlier) entry) (EntryApplied entry ∷ foreseen start h earlier)

-- the status that the completion of an admin command says is that which the commands submitted before it let foresee
abbrev pub AnswersAreForeseen : Type 0
AnswersAreForeseen = (rules : FrontRules) (sent : ℕ → List Sqe) (past : Past) (collected : ℕ → List Cqe) → StartsWithAdmin rules → IsAccount rules sent past collected
    → (later before : Past) (c k : ℕ) (cqe : Cqe) (entry : Sqe) → past ≡ later ++ Post c 0 k cqe ∷ before → slice_get (sent 0) k ≡ Some entry
    → cqe.status ≡ status_of rules.start (foreseen rules.start rules.regions (reverse (take k (sent 0)))) entry
