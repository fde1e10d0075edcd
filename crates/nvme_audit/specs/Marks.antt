-- What is noted of a command at its fetch, and what an Abort says of it. (Abort)
use Rattle.std.specs.Prelude.{ℕ, ◌==◌, ◌&&◌, ◌||◌, Bool, false, [], ◌∷◌, Option, Some, None, if◌then◌else◌}
use Rattle.nvme_entry.specs.declared.admin.AdminCommand.{AdminCommand}
use Rattle.nvme_entry.specs.declared.admin.AdminCommand.TheVariants.{DeleteSq, CreateSq, DeleteCq, CreateCq, Abort, SetFeatures, GetFeatures, Other}
use Rattle.nvme_audit.specs.declared.event.Event.TheVariants.{Tail, Head, Fetch, Post}
use Rattle.nvme_audit.specs.Lives.{Past, asked}
use Rattle.nvme_audit.specs.Turns.{answered, sq_named, cq_replies, sqs_replies, was_created}
use Rattle.nvme_audit.specs.Aborts.{names, stirred, told_of}

-- ---- what stood at the fetch of a command
-- how many of the commands that may change what it depends on were answered: of a Create of a submission queue those of its completion
-- queue, of a Delete of a completion queue those of submission queues. Of an Abort how often
-- a command of the queue that it names ended so. Of Set Features, whether an I/O queue was created
abbrev pub mark_for : Past → AdminCommand → ℕ
mark_for past (DeleteSq qid) = 0
mark_for past (CreateSq qid qsize prp1 cqid qprio pc) = cq_replies past cqid
mark_for past (DeleteCq qid) = sqs_replies past
mark_for past (CreateCq qid qsize prp1 pc) = 0
mark_for past (Abort sqid cid) = stirred past sqid
mark_for past (SetFeatures fid sv cdw11) = if was_created past then 1 else 0
mark_for past (GetFeatures fid) = 0
mark_for past Other = 0

-- of the newest command fetched under a name
abbrev pub mark_of : Past → (sq cid : ℕ) → ℕ
mark_of [] q c = 0
mark_of (Tail sq slot ∷ past) q c = mark_of past q c
mark_of (Head cq slot ∷ past) q c = mark_of past q c
mark_of (Fetch sq slot cid command ∷ past) q c = if (sq == q) && (cid == c) then mark_for past command else mark_of past q c
mark_of (Post cq slot completion ∷ past) q c = mark_of past q c

abbrev pub mark_if : Option AdminCommand → ℕ → ℕ
mark_if None mark = 0
mark_if (Some command) mark = mark

-- an Abort says that the newest command fetched with this name was aborted
abbrev pub owes : Past → (sq cid : ℕ) → Bool
owes [] q c = false
owes (Tail sq slot ∷ past) q c = owes past q c
owes (Head cq slot ∷ past) q c = owes past q c
owes (Fetch sq slot cid command ∷ past) q c = if (sq == q) && (cid == c) then false else owes past q c
owes (Post cq slot completion ∷ past) q c =
    (names (answered past completion) q c && told_of (stirred past (sq_named (answered past completion))) (mark_if (asked past 0 completion.cid) (mark_of past 0 completion.cid)) completion)
    || owes past q c
