-- Commands by their names, and the admin commands that succeeded. A log is read backwards, the newest event first.
-- (Base Specification, Command Identifier; Completion Queue Entry; Create and Delete I/O Submission Queue)
use Rattle.std.specs.Prelude.{ℕ, ◌==◌, ◌&&◌, Bool, false, List, [], ◌∷◌, Option, Some, None, if◌then◌else◌}
use Rattle.nvme_entry.specs.Status.{StatusCode}
use Rattle.nvme_entry.specs.declared.admin.AdminCommand.{AdminCommand}
use Rattle.nvme_entry.specs.declared.admin.AdminCommand.TheVariants.{DeleteSq, CreateSq, DeleteCq, CreateCq, Abort, SetFeatures, GetFeatures, Other}
use Rattle.nvme_audit.specs.declared.event.Event.{Event}
use Rattle.nvme_audit.specs.declared.event.Event.TheVariants.{Tail, Head, Fetch, Post}
use Rattle.nvme_audit.specs.declared.event.Completion.{Completion}

abbrev pub Past : Type 0
Past = List Event

-- Successful Completion
abbrev pub is_success : StatusCode → Bool
is_success status = (status.sct == 0) && (status.sc == 0)

-- whether a command with success opened or closed this submission queue
abbrev pub turns_sq : AdminCommand → ℕ → Bool
turns_sq (DeleteSq qid) q = qid == q
turns_sq (CreateSq qid qsize prp1 cqid qprio pc) q = qid == q
turns_sq (DeleteCq qid) q = false
turns_sq (CreateCq qid qsize prp1 pc) q = false
turns_sq (Abort sqid cid) q = false
turns_sq (SetFeatures fid sv cdw11) q = false
turns_sq (GetFeatures fid) q = false
turns_sq Other q = false

-- what a completion did: the admin command that it answers, where that succeeded
abbrev pub done_by : Option AdminCommand → Completion → AdminCommand
done_by None completion = Other
done_by (Some command) completion = if (completion.sq == 0) && is_success completion.status then command else Other

-- what the outstanding command of a name asks: the newest fetched with it, where no completion of that name came since, and its queue
-- was neither created nor deleted
abbrev pub asked : Past → (sq cid : ℕ) → Option AdminCommand
asked [] q c = None
asked (Tail sq slot ∷ past) q c = asked past q c
asked (Head cq slot ∷ past) q c = asked past q c
asked (Fetch sq slot cid command ∷ past) q c = if (sq == q) && (cid == c) then Some command else asked past q c
asked (Post cq slot completion ∷ past) q c =
    if turns_sq (done_by (asked past 0 completion.cid) completion) q then None
    else (if (completion.sq == q) && (completion.cid == c) then None else asked past q c)

-- the admin command that a completion after these events carries to its end
abbrev pub done : Past → Completion → AdminCommand
done past completion = done_by (asked past 0 completion.cid) completion
