-- Where a rule asks something: what it reads stands there, so the event keeps the rule or breaks it. Each rule is taken by itself,
-- whatever came out, and whatever is said of others. (profile)
use Rattle.std.specs.Prelude.{ℕ, ◌+◌, ◌==◌, ◌&&◌, ◌||◌, nat_lt, Bool, true, false, not, is_some, [], ◌∷◌, Option, Some, None, if◌then◌else◌}
use Rattle.nvme_entry.specs.Status.{StatusCode}
use Rattle.nvme_entry.specs.declared.admin.AdminCommand.{AdminCommand}
use Rattle.nvme_entry.specs.declared.admin.AdminCommand.TheVariants.{DeleteSq, CreateSq, DeleteCq, CreateCq, Abort, SetFeatures, GetFeatures, Other}
use Rattle.nvme_audit.specs.declared.event.Event.{Event}
use Rattle.nvme_audit.specs.declared.event.Event.TheVariants.{Tail, Head, Fetch, Post}
use Rattle.nvme_audit.specs.declared.facts.Start.{Start}
use Rattle.nvme_audit.specs.declared.facts.Cq.{Cq}
use Rattle.nvme_audit.specs.declared.facts.Admin.{Admin}
use Rattle.nvme_audit.specs.declared.facts.Command.{Command}
use Rattle.nvme_audit.specs.declared.verdict.Rule.{Rule}
use Rattle.nvme_audit.specs.declared.verdict.Rule.TheVariants as rule
use Rattle.nvme_audit.specs.declared.scene.FetchScene.{FetchScene}
use Rattle.nvme_audit.specs.declared.scene.PostScene.{PostScene}
use Rattle.nvme_audit.specs.declared.scene.Scene.{Scene}
use Rattle.nvme_audit.specs.declared.scene.Scene.TheVariants as scene
use Rattle.nvme_audit.specs.declared.scene.Count.{Count}
use Rattle.nvme_audit.specs.Lives.{Past, is_success}
use Rattle.nvme_audit.specs.Turns.{sq_named, cq_named, number_of_queues}
use Rattle.nvme_audit.specs.Aborts.{is_abort, is_aborted, told_of}
use Rattle.nvme_audit.specs.Answers.{is_specific, is_settled, is_sq_within, is_cq_within, answered_in, mark_in}
use Rattle.nvme_audit.specs.Facts.{sq_after, cq_after, admin_after, outstanding}
use Rattle.nvme_audit.specs.Host.{is_lost}
use Rattle.nvme_audit.specs.Laws.{one_if}

-- ---- fetches
-- the host broke no rule of the queue
abbrev pub is_judged : FetchScene → Bool
is_judged s = not s.sq.excused

-- of a fetch the queue, what the tail announced where that is told, and the slot where that is
abbrev pub fetch_asks : FetchScene → Rule → Bool
fetch_asks s rule.FetchClosed = is_judged s
fetch_asks s rule.FetchBeyondTail = is_judged s && is_some s.sq.ring && s.tells.tails
fetch_asks s rule.FetchSlot = is_judged s && is_some s.sq.ring && is_some s.slot
fetch_asks s rule.PostClosed = false
fetch_asks s rule.Slot = false
fetch_asks s rule.Phase = false
fetch_asks s rule.CqFull = false
fetch_asks s rule.CqWrong = false
fetch_asks s rule.Life = false
fetch_asks s rule.Sqhd = false
fetch_asks s rule.SqdelUnasked = false
fetch_asks s rule.AbortUnasked = false
fetch_asks s rule.AbortUntrue = false
fetch_asks s rule.StatusForeign = false
fetch_asks s rule.StatusCreate = false
fetch_asks s rule.StatusDelete = false
fetch_asks s rule.Features = false

-- ---- completions
-- the host broke no rule of the completion queue: the place is judged
abbrev pub is_placed : PostScene → Bool
is_placed s = not s.cq.excused

-- and it is known how many completions came before
abbrev pub is_counted : PostScene → Bool
is_counted s = is_placed s && is_some s.cq.qsize && not s.cq.early

-- nor of the submission queue, and the completion isn't one that may be read late: name and status are judged
abbrev pub is_named : PostScene → Bool
is_named s = is_placed s && not (s.sq.excused || (not s.tells.posts && s.sq.deleted))

-- the command that is answered
abbrev pub command_of : PostScene → AdminCommand
command_of s = answered_in s.command s.completion

-- Command Aborted due to SQ Deletion
abbrev pub is_by_deletion : StatusCode → Bool
is_by_deletion status = (status.sct == 0) && (status.sc == 0x08)

-- an Abort says of the outstanding command that it was aborted
abbrev pub is_owed : Option Command → Bool
is_owed None = false
is_owed (Some command) = command.owed

-- the completion of an Abort says that it aborted a command of a queue that is judged
abbrev pub says_aborted_one : PostScene → Bool
says_aborted_one s = is_abort (command_of s) && told_of s.own_sq.stirred (mark_in s.command) s.completion && not (s.own_sq.excused || (not s.tells.posts && s.own_sq.deleted))

-- a command of which it is known which command specific statuses it has
abbrev pub has_statuses : AdminCommand → Bool
has_statuses (DeleteSq qid) = true
has_statuses (CreateSq qid qsize prp1 cqid qprio pc) = true
has_statuses (DeleteCq qid) = true
has_statuses (CreateCq qid qsize prp1 pc) = true
has_statuses (Abort sqid cid) = true
has_statuses (SetFeatures fid sv cdw11) = false
has_statuses (GetFeatures fid) = false
has_statuses Other = false

-- a command specific status that isn't the vendor's
abbrev pub is_of_a_command : StatusCode → Bool
is_of_a_command status = (status.sct == 1) && nat_lt status.sc 0xc0

-- a status of a Create that something is asked of
abbrev pub create_asks : Cq → Admin → ℕ → StatusCode → AdminCommand → Bool
create_asks cq admin mark status (DeleteSq qid) = false
create_asks cq admin mark status (CreateSq qid qsize prp1 cqid qprio pc) =
    is_success status
    || (is_specific status 0x00 && not (cqid == 0) && is_settled cq.asked mark)
    || (is_specific status 0x01 && is_sq_within admin.numbers qid && is_cq_within admin.numbers cqid)
create_asks cq admin mark status (DeleteCq qid) = false
create_asks cq admin mark status (CreateCq qid qsize prp1 pc) = is_success status || (is_specific status 0x01 && is_cq_within admin.numbers qid)
create_asks cq admin mark status (Abort sqid cid) = false
create_asks cq admin mark status (SetFeatures fid sv cdw11) = false
create_asks cq admin mark status (GetFeatures fid) = false
create_asks cq admin mark status Other = false

-- and one of a Delete
abbrev pub delete_asks : Admin → ℕ → StatusCode → AdminCommand → Bool
delete_asks admin mark status (DeleteSq qid) = is_success status || (is_specific status 0x01 && not (qid == 0))
delete_asks admin mark status (CreateSq qid qsize prp1 cqid qprio pc) = false
delete_asks admin mark status (DeleteCq qid) =
    is_success status || (is_specific status 0x01 && not (qid == 0)) || (is_specific status 0x0c && not (qid == 0) && is_settled admin.asked mark)
delete_asks admin mark status (CreateCq qid qsize prp1 pc) = false
delete_asks admin mark status (Abort sqid cid) = false
delete_asks admin mark status (SetFeatures fid sv cdw11) = false
delete_asks admin mark status (GetFeatures fid) = false
delete_asks admin mark status Other = false

-- Set Features of Number of Queues
abbrev pub sets_numbers : AdminCommand → Bool
sets_numbers (DeleteSq qid) = false
sets_numbers (CreateSq qid qsize prp1 cqid qprio pc) = false
sets_numbers (DeleteCq qid) = false
sets_numbers (CreateCq qid qsize prp1 pc) = false
sets_numbers (Abort sqid cid) = false
sets_numbers (SetFeatures fid sv cdw11) = fid == number_of_queues
sets_numbers (GetFeatures fid) = false
sets_numbers Other = false

-- of a completion its place, its name, and its status by the command
abbrev pub post_asks : PostScene → Rule → Bool
post_asks s rule.FetchClosed = false
post_asks s rule.FetchBeyondTail = false
post_asks s rule.FetchSlot = false
post_asks s rule.PostClosed = is_placed s
post_asks s rule.Slot = is_counted s && is_some s.slot
post_asks s rule.Phase = is_counted s && is_some s.completion.phase
post_asks s rule.CqFull = is_counted s && s.tells.heads
post_asks s rule.CqWrong = is_named s && is_some s.sq.ring
post_asks s rule.Life = is_named s && (is_some s.sq.ring || not s.sq.deleted)
post_asks s rule.Sqhd = is_named s && is_some s.sq.ring && is_some s.command && is_some s.completion.sqhd
post_asks s rule.SqdelUnasked = is_named s && is_by_deletion s.completion.status
post_asks s rule.AbortUnasked = is_named s && is_some s.command && is_aborted s.completion.status
post_asks s rule.AbortUntrue = is_named s && (is_owed s.command || says_aborted_one s)
post_asks s rule.StatusForeign = is_named s && has_statuses (command_of s) && is_of_a_command s.completion.status
post_asks s rule.StatusCreate = is_named s && not s.admin.met && create_asks s.own_cq s.admin (mark_in s.command) s.completion.status (command_of s)
post_asks s rule.StatusDelete = is_named s && not s.admin.met && delete_asks s.admin (mark_in s.command) s.completion.status (command_of s)
post_asks s rule.Features = is_named s && sets_numbers (command_of s) && is_success s.completion.status

-- ---- any event
abbrev pub scene_asks : Scene → Rule → Bool
scene_asks scene.Unjudged r = false
scene_asks (scene.Fetched s) r = fetch_asks s r
scene_asks (scene.Posted s) r = post_asks s r

-- what the rules read of an event
abbrev pub scene_read : Start → Past → Event → Scene
scene_read start past (Tail sq slot) = scene.Unjudged
scene_read start past (Head cq slot) = scene.Unjudged
scene_read start past (Fetch sq slot cid command) = scene.Fetched (record { tells = start.tells; sq = sq_after start past sq; slot = slot })
scene_read start past (Post cq slot completion) = scene.Posted (record {
  tells = start.tells;
  cq = cq_after start past cq;
  own_cq = cq_after start past (cq_named (answered_in (outstanding past completion.sq completion.cid) completion));
  sq = sq_after start past completion.sq;
  own_sq = sq_after start past (sq_named (answered_in (outstanding past completion.sq completion.cid) completion));
  admin = admin_after past;
  command = outstanding past completion.sq completion.cid;
  slot = slot;
  completion = completion;
})

-- after a log: nothing, where it is lost which queues are open
abbrev pub scene_of : Start → Past → Event → Scene
scene_of start past event = if is_lost past then scene.Unjudged else scene_read start past event

abbrev pub asks : Start → Past → Event → Rule → Bool
asks start past event r = scene_asks (scene_of start past event) r

-- of how many events of a log a rule asks something
abbrev pub times : Start → Past → Rule → ℕ
times start [] r = 0
times start (event ∷ past) r = times start past r + one_if (asks start past event r)

-- one event more is counted
abbrev pub counted : Scene → Count → Count
counted s count = record { rule = count.rule; times = count.times + one_if (scene_asks s count.rule) }
