-- Worked: of which events a rule asks something.
use Rattle.std.specs.Prelude.{◌≡◌, Bool, true, false, List, [], ◌∷◌, map, Some, None}
use Rattle.nvme_entry.specs.Status.{success, code}
use Rattle.nvme_entry.specs.declared.admin.AdminCommand.TheVariants.{DeleteSq, DeleteCq, Abort, SetFeatures, GetFeatures}
use Rattle.nvme_audit.specs.declared.event.Event.{Event}
use Rattle.nvme_audit.specs.declared.event.Event.TheVariants.{Tail, Head}
use Rattle.nvme_audit.specs.declared.facts.Start.{Start}
use Rattle.nvme_audit.specs.declared.verdict.Rule.{Rule}
use Rattle.nvme_audit.specs.declared.verdict.Rule.TheVariants as rule
use Rattle.nvme_audit.specs.Lives.{Past}
use Rattle.nvme_audit.specs.Coverage.{asks}
use Rattle.nvme_audit.specs.Examples.{fetch, answer, made, taken, full, deleted}
use Rattle.nvme_audit.specs.StatusExamples.{ask, reply, reply_with, create_sq, create_cq, bad_cq, bad_identifier, bad_deletion, opened, numbered_and_opened, read, ends, by_deletion, aborted, says_so, set_numbers}

pub record Question : Type 0 where
  pub past : Past
  pub event : Event
  pub rule : Rule
  pub asked : Bool

abbrev pub question : Rule → Past → Event → Bool → Question
question rule past event asked = record { past = past; event = event; rule = rule; asked = asked }

abbrev pub AreAsked : Start → List Question → Type 0
AreAsked start questions = map {A = Question} {B = Bool} (λ q. asks start q.past q.event q.rule) questions ≡ map {A = Question} {B = Bool} (λ q. q.asked) questions

-- all is told
abbrev pub on_rings : List Question
on_rings =
    question rule.FetchClosed made (fetch 2 0 7) true
    ∷ question rule.FetchClosed (Tail 1 9 ∷ made) (fetch 1 0 7) false
    ∷ question rule.FetchClosed taken (answer 1 0 1 8 2 true) false
    ∷ question rule.FetchBeyondTail made (fetch 1 0 7) true
    ∷ question rule.FetchBeyondTail made (fetch 2 0 7) false
    ∷ question rule.FetchSlot made (fetch 1 0 7) true
    ∷ question rule.FetchSlot made (fetch 2 0 7) false
    ∷ question rule.PostClosed taken (answer 2 0 1 8 2 true) true
    ∷ question rule.PostClosed (Head 1 1 ∷ taken) (answer 1 0 1 8 2 true) false
    ∷ question rule.PostClosed made (fetch 1 0 7) false
    ∷ question rule.Slot taken (answer 1 0 1 8 2 true) true
    ∷ question rule.Slot taken (answer 2 0 1 8 2 true) false
    ∷ question rule.Phase taken (answer 1 0 1 8 2 true) true
    ∷ question rule.Phase taken (answer 2 0 1 8 2 true) false
    ∷ question rule.CqFull full (answer 1 1 1 7 2 true) true
    ∷ question rule.CqFull taken (answer 2 0 1 8 2 true) false
    ∷ question rule.CqWrong taken (answer 0 2 1 8 2 true) true
    ∷ question rule.CqWrong taken (answer 1 0 2 8 2 true) false
    ∷ question rule.Life taken (answer 1 0 2 8 2 true) true
    ∷ question rule.Life deleted (answer 1 1 1 7 2 true) false
    ∷ question rule.Sqhd taken (answer 1 0 1 8 2 true) true
    ∷ question rule.Sqhd taken (answer 1 0 1 9 2 true) false
    ∷ []

-- no doorbell, slot, phase tag or head is
abbrev pub of_names : List Question
of_names =
    question rule.FetchBeyondTail opened read false
    ∷ question rule.FetchSlot opened read false
    ∷ question rule.Slot (read ∷ opened) (ends success) false
    ∷ question rule.Phase (read ∷ opened) (ends success) false
    ∷ question rule.CqFull (read ∷ opened) (ends success) false
    ∷ question rule.Sqhd (read ∷ opened) (ends success) false
    ∷ []

-- a status asks for what its rule speaks of
abbrev pub of_statuses : List Question
of_statuses =
    question rule.SqdelUnasked (read ∷ opened) (reply_with None 1 7 by_deletion) true
    ∷ question rule.SqdelUnasked (read ∷ opened) (ends success) false
    ∷ question rule.AbortUnasked (read ∷ opened) (ends aborted) true
    ∷ question rule.AbortUnasked opened (ends aborted) false
    ∷ question rule.AbortUnasked (read ∷ opened) (ends success) false
    ∷ question rule.AbortUntrue (says_so 3 ∷ ask 3 (Abort 1 7) ∷ read ∷ opened) (ends aborted) true
    ∷ question rule.AbortUntrue (ask 3 (Abort 1 7) ∷ read ∷ opened) (ends aborted) false
    ∷ question rule.AbortUntrue (ask 3 (Abort 1 7) ∷ opened) (says_so 3) true
    ∷ question rule.AbortUntrue (ask 3 (Abort 1 7) ∷ Tail 1 9 ∷ opened) (says_so 3) false
    ∷ question rule.AbortUntrue (ask 3 (Abort 1 7) ∷ opened) (reply_with (Some 1) 0 3 success) false
    ∷ question rule.StatusForeign (ask 3 (Abort 1 7) ∷ []) (reply 3 bad_cq) true
    ∷ question rule.StatusForeign (ask 3 (Abort 1 7) ∷ []) (reply 3 (code 1 0xc0)) false
    ∷ question rule.StatusForeign (ask 3 (Abort 1 7) ∷ []) (reply 3 success) false
    ∷ question rule.StatusForeign (ask 3 (GetFeatures 7) ∷ []) (reply 3 bad_cq) false
    ∷ question rule.Features (ask 3 set_numbers ∷ []) (reply 3 success) true
    ∷ question rule.Features (ask 3 set_numbers ∷ []) (reply 3 bad_cq) false
    ∷ question rule.Features (ask 3 (SetFeatures 1 false 0) ∷ []) (reply 3 success) false
    ∷ []

-- of Creates and Deletes
abbrev pub of_queues : List Question
of_queues =
    question rule.StatusCreate (ask 3 (create_cq 2 1) ∷ opened) (reply 3 success) true
    ∷ question rule.StatusCreate (ask 3 (create_cq 2 1) ∷ opened) (reply 3 bad_identifier) false
    ∷ question rule.StatusCreate (ask 3 (create_cq 2 1) ∷ numbered_and_opened) (reply 3 bad_identifier) true
    ∷ question rule.StatusCreate (ask 3 (create_cq 33 1) ∷ numbered_and_opened) (reply 3 bad_identifier) false
    ∷ question rule.StatusCreate (ask 3 (create_sq 2 1 1) ∷ opened) (reply 3 success) true
    ∷ question rule.StatusCreate (ask 3 (create_sq 2 1 1) ∷ opened) (reply 3 bad_cq) true
    ∷ question rule.StatusCreate (ask 3 (create_sq 2 1 0) ∷ opened) (reply 3 bad_cq) false
    ∷ question rule.StatusCreate (ask 3 (create_sq 2 1 2) ∷ ask 4 (create_cq 2 1) ∷ opened) (reply 3 bad_cq) false
    ∷ question rule.StatusCreate (ask 3 (create_sq 2 1 1) ∷ numbered_and_opened) (reply 3 bad_identifier) true
    ∷ question rule.StatusCreate (ask 3 (create_sq 17 1 1) ∷ numbered_and_opened) (reply 3 bad_identifier) false
    ∷ question rule.StatusCreate (ask 3 (create_sq 2 1 33) ∷ numbered_and_opened) (reply 3 bad_identifier) false
    ∷ question rule.StatusCreate (ask 3 (DeleteSq 1) ∷ opened) (reply 3 success) false
    ∷ question rule.StatusCreate (ask 3 (create_cq 2 1) ∷ ask 4 (create_cq 2 1) ∷ opened) (reply 3 success) false
    ∷ question rule.StatusDelete (ask 3 (DeleteSq 1) ∷ opened) (reply 3 success) true
    ∷ question rule.StatusDelete (ask 3 (DeleteSq 1) ∷ opened) (reply 3 bad_identifier) true
    ∷ question rule.StatusDelete (ask 3 (DeleteSq 0) ∷ opened) (reply 3 bad_identifier) false
    ∷ question rule.StatusDelete (ask 3 (DeleteSq 1) ∷ opened) (reply 3 bad_deletion) false
    ∷ question rule.StatusDelete (ask 3 (DeleteCq 1) ∷ opened) (reply 3 bad_deletion) true
    ∷ question rule.StatusDelete (ask 3 (DeleteCq 1) ∷ ask 4 (DeleteSq 1) ∷ opened) (reply 3 bad_deletion) false
    ∷ question rule.StatusDelete (ask 3 (DeleteCq 0) ∷ opened) (reply 3 bad_deletion) false
    ∷ question rule.StatusDelete (ask 3 (DeleteCq 0) ∷ opened) (reply 3 bad_identifier) false
    ∷ question rule.StatusDelete (ask 3 (DeleteCq 1) ∷ opened) (reply 3 success) true
    ∷ question rule.StatusDelete (ask 3 (create_cq 2 1) ∷ opened) (reply 3 success) false
    ∷ question rule.StatusDelete (ask 3 (DeleteSq 1) ∷ ask 4 (DeleteSq 1) ∷ opened) (reply 3 success) false
    ∷ []

-- completions that may be read late ask nothing by their names
abbrev pub of_late_reads : List Question
of_late_reads =
    question rule.Life deleted (answer 1 1 1 7 2 true) false
    ∷ question rule.Phase deleted (answer 1 1 1 7 2 true) true
    ∷ question rule.Life taken (answer 1 0 1 9 2 true) true
    ∷ []
