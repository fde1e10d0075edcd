-- Worked statuses: what is said of a completion by its status, each rule kept and broken. No doorbell, slot or head is told.
-- (Base Specification, the sections that the definitions name)
use Rattle.std.specs.Prelude.{ℕ, true, false, List, [], ◌∷◌, Some, None, Option}
use Rattle.nvme_entry.specs.Status.{StatusCode, success, code}
use Rattle.nvme_entry.specs.declared.admin.AdminCommand.{AdminCommand}
use Rattle.nvme_entry.specs.declared.admin.AdminCommand.TheVariants.{DeleteSq, CreateSq, DeleteCq, CreateCq, Abort, SetFeatures, GetFeatures, Other}
use Rattle.nvme_audit.specs.declared.event.Event.{Event}
use Rattle.nvme_audit.specs.declared.event.Event.TheVariants.{Tail, Head, Fetch, Post}
use Rattle.nvme_audit.specs.declared.facts.Start.{Start}
use Rattle.nvme_audit.specs.declared.verdict.Verdict.{Verdict}
use Rattle.nvme_audit.specs.declared.verdict.Verdict.TheVariants.{Kept, Broken}
use Rattle.nvme_audit.specs.declared.verdict.Rule.TheVariants as rule
use Rattle.nvme_audit.specs.Lives.{Past}
use Rattle.nvme_audit.specs.Examples.{Case, after}

abbrev pub by_name : Start
by_name = record { tells = record { tails = false; heads = false; posts = true }; asqs = 3; acqs = 3 }

abbrev pub as_read_by_name : Start
as_read_by_name = record { tells = record { tails = false; heads = false; posts = false }; asqs = 3; acqs = 3 }

-- ---- events
abbrev pub ask : ℕ → AdminCommand → Event
ask cid command = Fetch 0 None cid command

abbrev pub reply_with : Option ℕ → (sq cid : ℕ) → StatusCode → Event
reply_with dw0 sq cid status = Post sq None (record { sq = sq; cid = cid; sqhd = None; phase = None; status = status; dw0 = dw0 })

abbrev pub reply : ℕ → StatusCode → Event
reply cid status = reply_with None 0 cid status

abbrev pub create_sq : (qid qsize cqid : ℕ) → AdminCommand
create_sq qid qsize cqid = CreateSq qid qsize 0 cqid 0 true

abbrev pub create_cq : (qid qsize : ℕ) → AdminCommand
create_cq qid qsize = CreateCq qid qsize 0 true

abbrev pub bad_cq : StatusCode
bad_cq = code 1 0x00

abbrev pub bad_identifier : StatusCode
bad_identifier = code 1 0x01

abbrev pub bad_size : StatusCode
bad_size = code 1 0x02

abbrev pub bad_deletion : StatusCode
bad_deletion = code 1 0x0c

-- ---- logs
-- both queues 1 are open, and submission queue 1 is on completion queue 1
abbrev pub opened : Past
opened = reply 2 success ∷ ask 2 (create_sq 1 1 1) ∷ reply 1 success ∷ ask 1 (create_cq 1 1) ∷ []

-- 16 submission queues and 32 completion queues were told
abbrev pub numbered : Past
numbered = reply_with (Some 0x001f000f) 0 9 success ∷ ask 9 (SetFeatures 0x07 false 0x001f000f) ∷ []

abbrev pub numbered_and_opened : Past
numbered_and_opened = reply 2 success ∷ ask 2 (create_sq 1 1 1) ∷ reply 1 success ∷ ask 1 (create_cq 1 1) ∷ numbered

-- a command is fetched after these events, and then answered
abbrev pub answered_with : StatusCode → Past → AdminCommand → Verdict → Case
answered_with status past command verdict = after (ask 3 command ∷ past) (reply 3 status) verdict

abbrev pub creates : List Case
creates =
    answered_with success opened (create_cq 2 1) Kept
    ∷ answered_with success opened (create_cq 0 1) (Broken rule.StatusCreate)
    ∷ answered_with success opened (create_cq 1 1) (Broken rule.StatusCreate)
    ∷ answered_with success opened (create_cq 2 0) (Broken rule.StatusCreate)
    ∷ answered_with bad_identifier opened (create_cq 2 1) Kept
    ∷ answered_with bad_identifier numbered_and_opened (create_cq 1 1) Kept
    ∷ answered_with bad_identifier numbered_and_opened (create_cq 0 1) Kept
    ∷ answered_with bad_identifier numbered_and_opened (create_cq 32 1) (Broken rule.StatusCreate)
    ∷ answered_with bad_identifier numbered_and_opened (create_cq 33 1) Kept
    ∷ answered_with success opened (create_sq 2 1 1) Kept
    ∷ answered_with success opened (create_sq 0 1 1) (Broken rule.StatusCreate)
    ∷ answered_with success opened (create_sq 1 1 1) (Broken rule.StatusCreate)
    ∷ answered_with success opened (create_sq 2 0 1) (Broken rule.StatusCreate)
    ∷ answered_with success opened (create_sq 2 1 2) (Broken rule.StatusCreate)
    ∷ answered_with bad_cq opened (create_sq 2 1 2) Kept
    ∷ answered_with bad_cq opened (create_sq 2 1 0) Kept
    ∷ answered_with bad_cq opened (create_sq 2 1 1) (Broken rule.StatusCreate)
    ∷ answered_with bad_identifier opened (create_sq 2 1 1) Kept
    ∷ answered_with bad_identifier numbered_and_opened (create_sq 1 1 1) Kept
    ∷ answered_with bad_identifier numbered_and_opened (create_sq 16 1 32) (Broken rule.StatusCreate)
    ∷ answered_with bad_identifier numbered_and_opened (create_sq 17 1 32) Kept
    ∷ answered_with bad_identifier numbered_and_opened (create_sq 16 1 33) Kept
    ∷ answered_with bad_identifier numbered_and_opened (create_sq 16 1 0) Kept
    ∷ answered_with (code 0 0x02) opened (create_sq 2 1 1) Kept
    ∷ answered_with (code 2 0x00) opened (create_sq 2 1 1) Kept
    ∷ []

abbrev pub deletes : List Case
deletes =
    answered_with success opened (DeleteSq 1) Kept
    ∷ answered_with success opened (DeleteSq 0) (Broken rule.StatusDelete)
    ∷ answered_with success opened (DeleteSq 2) (Broken rule.StatusDelete)
    ∷ answered_with bad_identifier opened (DeleteSq 2) Kept
    ∷ answered_with bad_identifier opened (DeleteSq 0) Kept
    ∷ answered_with bad_identifier opened (DeleteSq 1) (Broken rule.StatusDelete)
    ∷ answered_with success opened (DeleteCq 1) (Broken rule.StatusDelete)
    ∷ answered_with bad_deletion opened (DeleteCq 1) Kept
    ∷ answered_with bad_identifier opened (DeleteCq 1) (Broken rule.StatusDelete)
    ∷ answered_with success opened (DeleteCq 2) (Broken rule.StatusDelete)
    ∷ answered_with success opened (DeleteCq 0) (Broken rule.StatusDelete)
    ∷ answered_with bad_identifier opened (DeleteCq 2) Kept
    ∷ answered_with bad_identifier opened (DeleteCq 0) Kept
    ∷ answered_with bad_deletion opened (DeleteCq 0) Kept
    ∷ answered_with bad_deletion opened (DeleteCq 2) (Broken rule.StatusDelete)
    ∷ answered_with success (reply 4 success ∷ ask 4 (DeleteSq 1) ∷ opened) (DeleteCq 1) Kept
    ∷ answered_with bad_deletion (reply 4 success ∷ ask 4 (DeleteSq 1) ∷ opened) (DeleteCq 1) (Broken rule.StatusDelete)
    ∷ []

-- what is in flight beside a command may have taken effect or not
abbrev pub meetings : List Case
meetings =
    -- the completion queue is created in the time of the command
    answered_with success (ask 4 (create_cq 2 1) ∷ opened) (create_sq 2 1 2) Kept
    ∷ answered_with bad_cq (ask 4 (create_cq 2 1) ∷ opened) (create_sq 2 1 2) Kept
    ∷ after (reply 4 success ∷ ask 3 (create_sq 2 1 2) ∷ ask 4 (create_cq 2 1) ∷ opened) (reply 3 bad_cq) Kept
    ∷ after (reply 4 success ∷ ask 4 (create_cq 2 1) ∷ ask 3 (create_sq 2 1 2) ∷ opened) (reply 3 bad_cq) Kept
    ∷ answered_with bad_cq (reply 4 success ∷ ask 4 (create_cq 2 1) ∷ opened) (create_sq 2 1 2) (Broken rule.StatusCreate)
    -- another completion queue is
    ∷ answered_with success (ask 4 (create_cq 3 1) ∷ opened) (create_sq 2 1 2) (Broken rule.StatusCreate)
    -- the attached queue is deleted in the time of the command
    ∷ answered_with success (ask 4 (DeleteSq 1) ∷ opened) (DeleteCq 1) Kept
    ∷ after (reply 4 success ∷ ask 3 (DeleteCq 1) ∷ ask 4 (DeleteSq 1) ∷ opened) (reply 3 bad_deletion) Kept
    -- two commands of one queue meet
    ∷ answered_with success (ask 4 (create_cq 2 1) ∷ opened) (create_cq 2 1) Kept
    ∷ after (reply 4 success ∷ ask 3 (create_cq 2 1) ∷ ask 4 (create_cq 2 1) ∷ opened) (reply 3 success) Kept
    ∷ after (ask 3 (DeleteSq 1) ∷ ask 4 (DeleteSq 1) ∷ opened) (reply 3 bad_identifier) Kept
    ∷ after (ask 3 (DeleteCq 1) ∷ ask 4 (DeleteCq 1) ∷ opened) (reply 3 bad_identifier) Kept
    ∷ after (ask 3 (create_sq 1 1 1) ∷ ask 4 (DeleteSq 1) ∷ opened) (reply 3 success) Kept
    -- those of two queues don't
    ∷ after (ask 3 (DeleteSq 1) ∷ ask 4 (DeleteSq 2) ∷ opened) (reply 3 bad_identifier) (Broken rule.StatusDelete)
    ∷ []

abbrev pub foreign : List Case
foreign =
    answered_with bad_cq opened (DeleteCq 2) (Broken rule.StatusForeign)
    ∷ answered_with bad_cq opened (DeleteSq 2) (Broken rule.StatusForeign)
    ∷ answered_with bad_cq opened (create_cq 2 1) (Broken rule.StatusForeign)
    ∷ answered_with bad_cq opened (Abort 1 7) (Broken rule.StatusForeign)
    ∷ answered_with (code 1 0x03) opened (Abort 1 7) Kept
    ∷ answered_with (code 1 0x03) opened (create_sq 2 1 2) (Broken rule.StatusForeign)
    ∷ answered_with bad_size opened (create_sq 2 1 2) Kept
    ∷ answered_with bad_size opened (create_cq 2 1) Kept
    ∷ answered_with bad_size opened (DeleteSq 2) (Broken rule.StatusForeign)
    ∷ answered_with (code 1 0x08) opened (create_cq 2 1) Kept
    ∷ answered_with (code 1 0x08) opened (DeleteCq 2) (Broken rule.StatusForeign)
    ∷ answered_with bad_deletion opened (DeleteSq 2) (Broken rule.StatusForeign)
    ∷ answered_with (code 1 0xbf) opened (DeleteCq 2) (Broken rule.StatusForeign)
    ∷ answered_with (code 1 0xc0) opened (DeleteCq 2) Kept
    ∷ answered_with (code 0 0x06) opened (DeleteCq 2) Kept
    ∷ answered_with (code 1 0x0d) opened (SetFeatures 0x01 true 0) Kept
    ∷ answered_with bad_cq opened (GetFeatures 0x01) Kept
    ∷ answered_with bad_cq opened Other Kept
    ∷ []

-- a command of submission queue 1
abbrev pub read : Event
read = Fetch 1 None 7 Other

abbrev pub by_deletion : StatusCode
by_deletion = code 0 0x08

abbrev pub deletions : List Case
deletions =
    after (read ∷ opened) (reply_with None 1 7 by_deletion) (Broken rule.SqdelUnasked)
    ∷ after (read ∷ opened) (reply_with None 1 7 (code 1 0x08)) Kept
    ∷ after (ask 3 (DeleteSq 1) ∷ read ∷ opened) (reply_with None 1 7 by_deletion) Kept
    ∷ after (ask 3 (DeleteSq 2) ∷ read ∷ opened) (reply_with None 1 7 by_deletion) (Broken rule.SqdelUnasked)
    ∷ after (ask 3 (create_sq 1 1 1) ∷ read ∷ opened) (reply_with None 1 7 by_deletion) (Broken rule.SqdelUnasked)
    ∷ after (Fetch 1 None 3 (DeleteSq 1) ∷ read ∷ opened) (reply_with None 1 7 by_deletion) (Broken rule.SqdelUnasked)
    ∷ []

-- ---- Aborts
abbrev pub aborted : StatusCode
aborted = code 0 0x07

-- command 7 of queue 1 ends
abbrev pub ends : StatusCode → Event
ends status = reply_with None 1 7 status

-- an Abort that says that it aborted a command
abbrev pub says_so : ℕ → Event
says_so cid = reply_with (Some 0) 0 cid success

abbrev pub opened_anew : Past
opened_anew = reply 6 success ∷ ask 6 (create_sq 1 1 1) ∷ reply 5 success ∷ ask 5 (DeleteSq 1) ∷ opened

abbrev pub unasked_aborts : List Case
unasked_aborts =
    after (read ∷ opened) (ends aborted) (Broken rule.AbortUnasked)
    ∷ after (ask 3 (Abort 1 7) ∷ read ∷ opened) (ends aborted) Kept
    ∷ after (ask 3 (Abort 1 8) ∷ read ∷ opened) (ends aborted) (Broken rule.AbortUnasked)
    ∷ after (ask 3 (Abort 2 7) ∷ read ∷ opened) (ends aborted) (Broken rule.AbortUnasked)
    ∷ after (Fetch 1 None 3 (Abort 1 7) ∷ read ∷ opened) (ends aborted) (Broken rule.AbortUnasked)
    ∷ after (reply 3 success ∷ ask 3 (Abort 1 7) ∷ read ∷ opened) (ends aborted) Kept
    -- it may meet a command that is fetched after it
    ∷ after (read ∷ ask 3 (Abort 1 7) ∷ opened) (ends aborted) Kept
    ∷ after (read ∷ reply 3 success ∷ ask 3 (Abort 1 7) ∷ opened) (ends aborted) (Broken rule.AbortUnasked)
    ∷ after (read ∷ opened_anew) (ends aborted) (Broken rule.AbortUnasked)
    ∷ []

abbrev pub untrue_aborts : List Case
untrue_aborts =
    -- the command is there, and ends otherwise
    after (ask 3 (Abort 1 7) ∷ read ∷ opened) (says_so 3) Kept
    ∷ after (says_so 3 ∷ ask 3 (Abort 1 7) ∷ read ∷ opened) (ends aborted) Kept
    ∷ after (says_so 3 ∷ ask 3 (Abort 1 7) ∷ read ∷ opened) (ends success) (Broken rule.AbortUntrue)
    ∷ after (reply_with (Some 1) 0 3 success ∷ ask 3 (Abort 1 7) ∷ read ∷ opened) (ends success) Kept
    ∷ after (reply_with (Some 0) 0 3 (code 1 0x03) ∷ ask 3 (Abort 1 7) ∷ read ∷ opened) (ends success) Kept
    ∷ after (read ∷ ends aborted ∷ says_so 3 ∷ ask 3 (Abort 1 7) ∷ read ∷ opened) (ends success) Kept
    -- there is none
    ∷ after (ask 3 (Abort 1 7) ∷ opened) (says_so 3) (Broken rule.AbortUntrue)
    ∷ after (ask 3 (Abort 1 8) ∷ read ∷ opened) (says_so 3) (Broken rule.AbortUntrue)
    ∷ after (ask 3 (Abort 2 7) ∷ read ∷ opened) (says_so 3) (Broken rule.AbortUntrue)
    ∷ after (ask 3 (Abort 1 7) ∷ opened) (reply_with (Some 2) 0 3 success) (Broken rule.AbortUntrue)
    ∷ after (ask 3 (Abort 1 7) ∷ opened) (reply_with (Some 1) 0 3 success) Kept
    ∷ after (ask 3 (Abort 1 7) ∷ opened) (reply 3 success) Kept
    ∷ after (ask 3 (create_cq 2 1) ∷ opened) (says_so 3) Kept
    ∷ after (ask 3 (Abort 1 7) ∷ Tail 1 9 ∷ opened) (says_so 3) Kept
    ∷ after (ask 3 (Abort 1 7) ∷ opened_anew) (says_so 3) (Broken rule.AbortUntrue)
    -- it ended in the time of the Abort
    ∷ after (ends aborted ∷ ask 3 (Abort 1 7) ∷ read ∷ opened) (says_so 3) Kept
    ∷ after (ends success ∷ ask 3 (Abort 1 7) ∷ read ∷ opened) (says_so 3) (Broken rule.AbortUntrue)
    -- or another of its queue did, by another Abort: which of them isn't looked at. Told in the other order, as a host may read them, it counts
    ∷ after (ends aborted ∷ ask 4 (Abort 1 7) ∷ ask 3 (Abort 1 9) ∷ read ∷ opened) (says_so 3) Kept
    ∷ after (ask 4 (Abort 1 7) ∷ ask 3 (Abort 1 9) ∷ read ∷ opened) (says_so 3) (Broken rule.AbortUntrue)
    ∷ after (ask 3 (Abort 1 7) ∷ ends aborted ∷ ask 4 (Abort 1 7) ∷ read ∷ opened) (says_so 3) (Broken rule.AbortUntrue)
    ∷ after (says_so 3 ∷ read ∷ ends aborted ∷ ask 3 (Abort 1 7) ∷ read ∷ opened) (ends success) Kept
    ∷ after (reply 4 success ∷ ask 4 (DeleteSq 1) ∷ ask 3 (Abort 1 7) ∷ read ∷ opened) (says_so 3) Kept
    ∷ []

abbrev pub set_numbers : AdminCommand
set_numbers = SetFeatures 0x07 false 0

abbrev pub features : List Case
features =
    after (ask 3 set_numbers ∷ []) (reply_with (Some 0xfffefffe) 0 3 success) Kept
    ∷ after (ask 3 set_numbers ∷ []) (reply_with (Some 0xfffeffff) 0 3 success) (Broken rule.Features)
    ∷ after (ask 3 set_numbers ∷ []) (reply_with (Some 0xfffffffe) 0 3 success) (Broken rule.Features)
    ∷ after (ask 3 set_numbers ∷ []) (reply_with (Some 0xffffffff) 0 3 (code 0 0x02)) Kept
    ∷ after (ask 3 (SetFeatures 0x01 false 0) ∷ []) (reply_with (Some 0xffffffff) 0 3 success) Kept
    ∷ after (ask 3 set_numbers ∷ numbered) (reply_with (Some 0x001f000f) 0 3 success) Kept
    ∷ after (ask 3 set_numbers ∷ numbered) (reply_with (Some 0x000f000f) 0 3 success) (Broken rule.Features)
    ∷ after (ask 3 set_numbers ∷ numbered) (reply_with None 0 3 success) Kept
    ∷ after (ask 3 set_numbers ∷ reply_with (Some 0) 0 4 success ∷ ask 4 set_numbers ∷ numbered) (reply_with (Some 0x001f000f) 0 3 success) Kept
    ∷ after (ask 3 set_numbers ∷ opened) (reply_with (Some 0) 0 3 success) (Broken rule.Features)
    ∷ after (ask 3 set_numbers ∷ opened) (reply_with (Some 0) 0 3 (code 0 0x0c)) Kept
    ∷ after (reply 1 success ∷ ask 1 (create_cq 1 1) ∷ ask 3 set_numbers ∷ []) (reply_with (Some 0) 0 3 success) Kept
    ∷ []

-- the host broke a rule: nothing is said
abbrev pub excused : List Case
excused =
    answered_with success (Head 0 1 ∷ []) (create_cq 0 1) Kept
    ∷ answered_with success (Tail 0 9 ∷ []) (create_cq 0 1) Kept
    ∷ after (Tail 1 9 ∷ read ∷ opened) (reply_with None 1 7 by_deletion) Kept
    ∷ []

-- a completion of a deleted queue may be read late
abbrev pub late_statuses : List Case
late_statuses =
    after (read ∷ opened) (reply_with None 1 7 by_deletion) (Broken rule.SqdelUnasked)
    ∷ answered_with success opened (create_cq 0 1) (Broken rule.StatusCreate)
    ∷ after (read ∷ opened) (ends aborted) (Broken rule.AbortUnasked)
    ∷ after (read ∷ opened_anew) (ends aborted) Kept
    ∷ after (ask 3 (Abort 1 7) ∷ opened) (says_so 3) (Broken rule.AbortUntrue)
    ∷ after (ask 3 (Abort 1 7) ∷ opened_anew) (says_so 3) Kept
    ∷ []
