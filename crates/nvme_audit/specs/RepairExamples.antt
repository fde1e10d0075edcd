-- Worked examples of what is said after breaches of the controller. Two pairs of I/O queues are open; no doorbell, slot or head is told.
use Rattle.std.specs.Prelude.{◌≡◌, ℕ, List, [], ◌∷◌, map, Some, None}
use Rattle.nvme_entry.specs.Status.{success}
use Rattle.nvme_entry.specs.declared.admin.AdminCommand.TheVariants.{DeleteSq, DeleteCq, Abort}
use Rattle.nvme_audit.specs.declared.event.Event.{Event}
use Rattle.nvme_audit.specs.declared.facts.Start.{Start}
use Rattle.nvme_audit.specs.declared.verdict.Verdict.{Verdict}
use Rattle.nvme_audit.specs.declared.verdict.Verdict.TheVariants.{Kept, Broken}
use Rattle.nvme_audit.specs.declared.verdict.Rule.TheVariants as rule
use Rattle.nvme_audit.specs.Lives.{Past}
use Rattle.nvme_audit.specs.Examples.{Case, after}
use Rattle.nvme_audit.specs.StatusExamples.{ask, reply, reply_with, create_sq, create_cq, bad_deletion, opened}
use Rattle.nvme_audit.specs.Repairs.{said}

abbrev pub AreSaid : Start → List Case → Type 0
AreSaid start cases = map {A = Case} {B = Verdict} (λ c. said start c.past c.event) cases ≡ map {A = Case} {B = Verdict} (λ c. c.verdict) cases

abbrev pub two_pairs : Past
two_pairs = reply 4 success ∷ ask 4 (create_sq 2 1 2) ∷ reply 3 success ∷ ask 3 (create_cq 2 1) ∷ opened

-- a completion of a command that isn't outstanding
abbrev pub stray : (q cid : ℕ) → Event
stray q cid = reply_with None q cid success

-- after a breach at queue 1 nothing is said of that queue, and what there is of another
abbrev pub own_queues : List Case
own_queues =
    after two_pairs (stray 1 7) (Broken rule.Life)
    ∷ after (stray 1 7 ∷ two_pairs) (stray 1 8) Kept
    ∷ after (stray 1 7 ∷ two_pairs) (stray 2 8) (Broken rule.Life)
    ∷ after (stray 2 8 ∷ stray 1 7 ∷ two_pairs) (stray 2 9) Kept
    ∷ []

-- after one at queue 0 nothing is said any more, not even after its Creates
abbrev pub made_0_again : Past
made_0_again = reply 6 success ∷ ask 6 (create_cq 0 1) ∷ reply 5 success ∷ ask 5 (create_sq 0 1 0) ∷ stray 0 7 ∷ two_pairs

abbrev pub every_queue : List Case
every_queue =
    after two_pairs (stray 0 7) (Broken rule.Life)
    ∷ after (stray 0 7 ∷ two_pairs) (stray 1 8) Kept
    ∷ after (stray 0 7 ∷ two_pairs) (stray 2 8) Kept
    ∷ after made_0_again (stray 1 8) Kept
    ∷ []

-- both queues 1 are deleted after a breach, and created again
abbrev pub closed : Past
closed = reply 6 success ∷ ask 6 (DeleteCq 1) ∷ reply 5 success ∷ ask 5 (DeleteSq 1) ∷ stray 1 7 ∷ two_pairs

abbrev pub created_again : Past
created_again = reply 2 success ∷ ask 2 (create_sq 1 1 1) ∷ reply 1 success ∷ ask 1 (create_cq 1 1) ∷ closed

abbrev pub queues_created_again : List Case
queues_created_again =
    after created_again (stray 1 8) (Broken rule.Life)
    ∷ after (stray 1 8 ∷ created_again) (stray 1 9) Kept
    ∷ []

-- a wrong status lets no queue go, and is told beside what follows
abbrev pub foreign : Past
foreign = reply 5 bad_deletion ∷ ask 5 (create_sq 3 1 1) ∷ two_pairs

abbrev pub wrong_statuses : List Case
wrong_statuses =
    after (ask 5 (create_sq 3 1 1) ∷ two_pairs) (reply 5 bad_deletion) (Broken rule.StatusForeign)
    ∷ after foreign (stray 1 7) (Broken rule.Life)
    ∷ after foreign (stray 0 7) (Broken rule.Life)
    ∷ []

-- of a queue that was let go no Abort is judged
abbrev pub aborts : List Case
aborts =
    after (ask 5 (Abort 1 7) ∷ two_pairs) (reply_with (Some 0) 0 5 success) (Broken rule.AbortUntrue)
    ∷ after (ask 5 (Abort 1 7) ∷ stray 1 8 ∷ two_pairs) (reply_with (Some 0) 0 5 success) Kept
    ∷ after (ask 5 (Abort 1 7) ∷ stray 2 8 ∷ two_pairs) (reply_with (Some 0) 0 5 success) (Broken rule.AbortUntrue)
    ∷ []
