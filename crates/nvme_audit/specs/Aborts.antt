-- Aborts, and the commands that they name. (Base Specification, Abort; Command Abort Requested; by memory)
use Rattle.std.specs.Prelude.{ℕ, ◌+◌, ◌%◌, ◌==◌, ◌&&◌, ◌||◌, nat_lt, Bool, true, false, [], ◌∷◌, Option, Some, None, if◌then◌else◌}
use Rattle.nvme_entry.specs.Status.{StatusCode}
use Rattle.nvme_entry.specs.declared.admin.AdminCommand.{AdminCommand}
use Rattle.nvme_entry.specs.declared.admin.AdminCommand.TheVariants.{DeleteSq, CreateSq, DeleteCq, CreateCq, Abort, SetFeatures, GetFeatures, Other}
use Rattle.nvme_audit.specs.declared.event.Event.TheVariants.{Tail, Head, Fetch, Post}
use Rattle.nvme_audit.specs.declared.event.Completion.{Completion}
use Rattle.nvme_audit.specs.Lives.{Past, is_success, turns_sq, done}
use Rattle.nvme_audit.specs.Turns.{asking, asks_of, replies_of}

abbrev pub is_abort : AdminCommand → Bool
is_abort (DeleteSq qid) = false
is_abort (CreateSq qid qsize prp1 cqid qprio pc) = false
is_abort (DeleteCq qid) = false
is_abort (CreateCq qid qsize prp1 pc) = false
is_abort (Abort sqid cid) = true
is_abort (SetFeatures fid sv cdw11) = false
is_abort (GetFeatures fid) = false
is_abort Other = false

-- an Abort of the command with this name
abbrev pub names : AdminCommand → (sq cid : ℕ) → Bool
names (DeleteSq qid) q c = false
names (CreateSq qid qsize prp1 cqid qprio pc) q c = false
names (DeleteCq qid) q c = false
names (CreateCq qid qsize prp1 pc) q c = false
names (Abort sqid cid) q c = (sqid == q) && (cid == c)
names (SetFeatures fid sv cdw11) q c = false
names (GetFeatures fid) q c = false
names Other q c = false

abbrev pub aborts_asked : Past → ℕ
aborts_asked past = asks_of is_abort past

abbrev pub aborts_answered : Past → ℕ
aborts_answered past = replies_of is_abort past

-- an Abort named the newest command fetched with this name, or may have: one was outstanding when that was fetched
abbrev pub was_named : Past → (sq cid : ℕ) → Bool
was_named [] q c = false
was_named (Tail sq slot ∷ past) q c = was_named past q c
was_named (Head cq slot ∷ past) q c = was_named past q c
was_named (Fetch sq slot cid command ∷ past) q c =
    names (asking sq command) q c || (if (sq == q) && (cid == c) then nat_lt (aborts_answered past) (aborts_asked past) else was_named past q c)
was_named (Post cq slot completion ∷ past) q c = was_named past q c

-- Command Abort Requested
abbrev pub is_aborted : StatusCode → Bool
is_aborted status = (status.sct == 0) && (status.sc == 0x07)

-- how often a command of this submission queue ended with that, or all ended with their queue
abbrev pub stirred : Past → ℕ → ℕ
stirred [] q = 0
stirred (Tail sq slot ∷ past) q = stirred past q
stirred (Head cq slot ∷ past) q = stirred past q
stirred (Fetch sq slot cid command ∷ past) q = stirred past q
stirred (Post cq slot completion ∷ past) q =
    if turns_sq (done past completion) q then (if (completion.sq == q) && is_aborted completion.status then stirred past q + 1 else stirred past q) + 1
    else (if (completion.sq == q) && is_aborted completion.status then stirred past q + 1 else stirred past q)

-- Dword 0 of an Abort that succeeds says that the command was aborted: its bit 0 is 0
abbrev pub says_aborted : Option ℕ → Bool
says_aborted None = false
says_aborted (Some dw0) = dw0 % 2 == 0

-- an Abort is answered so, and since its fetch, when this mark was noted, no command of its queue ended so
abbrev pub told_of : (stirred mark : ℕ) → Completion → Bool
told_of stirred mark completion = is_success completion.status && says_aborted completion.dw0 && (stirred == mark)
