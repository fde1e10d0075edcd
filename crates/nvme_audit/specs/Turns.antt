-- Creates and Deletes of queues: how many were fetched and how many of them are answered, and what depends on them.
-- (Base Specification, Create and Delete I/O Submission Queue, Create and Delete I/O Completion Queue, Number of Queues)
use Rattle.std.specs.Prelude.{ℕ, ◌+◌, ◌==◌, ◌||◌, nat_lt, Bool, true, false, [], ◌∷◌, Option, Some, None, if◌then◌else◌}
use Rattle.nvme_entry.specs.declared.admin.AdminCommand.{AdminCommand}
use Rattle.nvme_entry.specs.declared.admin.AdminCommand.TheVariants.{DeleteSq, CreateSq, DeleteCq, CreateCq, Abort, SetFeatures, GetFeatures, Other}
use Rattle.nvme_audit.specs.declared.event.Event.TheVariants.{Tail, Head, Fetch, Post}
use Rattle.nvme_audit.specs.declared.event.Completion.{Completion}
use Rattle.nvme_audit.specs.declared.facts.Start.{Start}
use Rattle.nvme_audit.specs.declared.facts.Ring.{Ring}
use Rattle.nvme_audit.specs.Lives.{Past, asked, turns_sq, done}
use Rattle.nvme_audit.specs.Queues.{ring_of, deletes_sq, turns_cq}

-- the admin command that is fetched, if any: an entry of another queue is none
abbrev pub asking : ℕ → AdminCommand → AdminCommand
asking sq command = if sq == 0 then command else Other

-- the admin command that a completion answers, with whatever status
abbrev pub answered_by : Option AdminCommand → Completion → AdminCommand
answered_by None completion = Other
answered_by (Some command) completion = if completion.sq == 0 then command else Other

abbrev pub answered : Past → Completion → AdminCommand
answered past completion = answered_by (asked past 0 completion.cid) completion

-- the submission queue and the completion queue that a command names
abbrev pub sq_named : AdminCommand → ℕ
sq_named (DeleteSq qid) = qid
sq_named (CreateSq qid qsize prp1 cqid qprio pc) = qid
sq_named (DeleteCq qid) = 0
sq_named (CreateCq qid qsize prp1 pc) = 0
sq_named (Abort sqid cid) = sqid
sq_named (SetFeatures fid sv cdw11) = 0
sq_named (GetFeatures fid) = 0
sq_named Other = 0

abbrev pub cq_named : AdminCommand → ℕ
cq_named (DeleteSq qid) = 0
cq_named (CreateSq qid qsize prp1 cqid qprio pc) = cqid
cq_named (DeleteCq qid) = qid
cq_named (CreateCq qid qsize prp1 pc) = qid
cq_named (Abort sqid cid) = 0
cq_named (SetFeatures fid sv cdw11) = 0
cq_named (GetFeatures fid) = 0
cq_named Other = 0

-- the identifier of the command that an Abort names
abbrev pub cid_named : AdminCommand → ℕ
cid_named (DeleteSq qid) = 0
cid_named (CreateSq qid qsize prp1 cqid qprio pc) = 0
cid_named (DeleteCq qid) = 0
cid_named (CreateCq qid qsize prp1 pc) = 0
cid_named (Abort sqid cid) = cid
cid_named (SetFeatures fid sv cdw11) = 0
cid_named (GetFeatures fid) = 0
cid_named Other = 0

-- ---- counts
-- how many admin commands of a kind were fetched
abbrev pub asks_of : (AdminCommand → Bool) → Past → ℕ
asks_of kind [] = 0
asks_of kind (Tail sq slot ∷ past) = asks_of kind past
asks_of kind (Head cq slot ∷ past) = asks_of kind past
asks_of kind (Fetch sq slot cid command ∷ past) = if kind (asking sq command) then asks_of kind past + 1 else asks_of kind past
asks_of kind (Post cq slot completion ∷ past) = asks_of kind past

-- how many of them were answered
abbrev pub replies_of : (AdminCommand → Bool) → Past → ℕ
replies_of kind [] = 0
replies_of kind (Tail sq slot ∷ past) = replies_of kind past
replies_of kind (Head cq slot ∷ past) = replies_of kind past
replies_of kind (Fetch sq slot cid command ∷ past) = replies_of kind past
replies_of kind (Post cq slot completion ∷ past) = if kind (answered past completion) then replies_of kind past + 1 else replies_of kind past

-- a Create or a Delete of a submission queue
abbrev pub is_of_sqs : AdminCommand → Bool
is_of_sqs (DeleteSq qid) = true
is_of_sqs (CreateSq qid qsize prp1 cqid qprio pc) = true
is_of_sqs (DeleteCq qid) = false
is_of_sqs (CreateCq qid qsize prp1 pc) = false
is_of_sqs (Abort sqid cid) = false
is_of_sqs (SetFeatures fid sv cdw11) = false
is_of_sqs (GetFeatures fid) = false
is_of_sqs Other = false

-- of one submission queue, of one completion queue, of any submission queue
abbrev pub sq_asks : Past → ℕ → ℕ
sq_asks past q = asks_of (λ command. turns_sq command q) past

abbrev pub sq_replies : Past → ℕ → ℕ
sq_replies past q = replies_of (λ command. turns_sq command q) past

abbrev pub cq_asks : Past → ℕ → ℕ
cq_asks past q = asks_of (λ command. turns_cq command q) past

abbrev pub cq_replies : Past → ℕ → ℕ
cq_replies past q = replies_of (λ command. turns_cq command q) past

abbrev pub sqs_asks : Past → ℕ
sqs_asks past = asks_of is_of_sqs past

abbrev pub sqs_replies : Past → ℕ
sqs_replies past = replies_of is_of_sqs past

-- ---- commands that meet
-- another command on the queue of a Create or a Delete is outstanding
abbrev pub meets : Past → AdminCommand → Bool
meets past (DeleteSq qid) = nat_lt (sq_replies past qid) (sq_asks past qid)
meets past (CreateSq qid qsize prp1 cqid qprio pc) = nat_lt (sq_replies past qid) (sq_asks past qid)
meets past (DeleteCq qid) = nat_lt (cq_replies past qid) (cq_asks past qid)
meets past (CreateCq qid qsize prp1 pc) = nat_lt (cq_replies past qid) (cq_asks past qid)
meets past (Abort sqid cid) = false
meets past (SetFeatures fid sv cdw11) = false
meets past (GetFeatures fid) = false
meets past Other = false

-- two of one queue were outstanding at once. No log tells which of them took effect first
abbrev pub have_met : Past → Bool
have_met [] = false
have_met (Tail sq slot ∷ past) = have_met past
have_met (Head cq slot ∷ past) = have_met past
have_met (Fetch sq slot cid command ∷ past) = meets past (asking sq command) || have_met past
have_met (Post cq slot completion ∷ past) = have_met past

-- a Delete of this submission queue was fetched
abbrev pub was_doomed : Past → ℕ → Bool
was_doomed [] q = false
was_doomed (Tail sq slot ∷ past) q = was_doomed past q
was_doomed (Head cq slot ∷ past) q = was_doomed past q
was_doomed (Fetch sq slot cid command ∷ past) q = deletes_sq (asking sq command) q || was_doomed past q
was_doomed (Post cq slot completion ∷ past) q = was_doomed past q

-- ---- submission queues of a completion queue (Create I/O Submission Queue, Completion Queue Identifier)
abbrev pub joins : AdminCommand → ℕ → Bool
joins (DeleteSq qid) q = false
joins (CreateSq qid qsize prp1 cqid qprio pc) q = cqid == q
joins (DeleteCq qid) q = false
joins (CreateCq qid qsize prp1 pc) q = false
joins (Abort sqid cid) q = false
joins (SetFeatures fid sv cdw11) q = false
joins (GetFeatures fid) q = false
joins Other q = false

-- how many were created onto it
abbrev pub joined : Past → ℕ → ℕ
joined [] q = 0
joined (Tail sq slot ∷ past) q = joined past q
joined (Head cq slot ∷ past) q = joined past q
joined (Fetch sq slot cid command ∷ past) q = joined past q
joined (Post cq slot completion ∷ past) q = if joins (done past completion) q then joined past q + 1 else joined past q

abbrev pub is_on : ℕ → Option Ring → Bool
is_on q None = false
is_on q (Some ring) = ring.cqid == q

-- the submission queue that a command ends
abbrev pub ring_ended : Start → Past → AdminCommand → Option Ring
ring_ended start past (DeleteSq qid) = ring_of start past qid
ring_ended start past (CreateSq qid qsize prp1 cqid qprio pc) = ring_of start past qid
ring_ended start past (DeleteCq qid) = None
ring_ended start past (CreateCq qid qsize prp1 pc) = None
ring_ended start past (Abort sqid cid) = None
ring_ended start past (SetFeatures fid sv cdw11) = None
ring_ended start past (GetFeatures fid) = None
ring_ended start past Other = None

-- how many of those were deleted, or created anew
abbrev pub parted : Start → Past → ℕ → ℕ
parted start [] q = 0
parted start (Tail sq slot ∷ past) q = parted start past q
parted start (Head cq slot ∷ past) q = parted start past q
parted start (Fetch sq slot cid command ∷ past) q = parted start past q
parted start (Post cq slot completion ∷ past) q = if is_on q (ring_ended start past (done past completion)) then parted start past q + 1 else parted start past q

-- ---- Number of Queues
abbrev pub creates : AdminCommand → Bool
creates (DeleteSq qid) = false
creates (CreateSq qid qsize prp1 cqid qprio pc) = true
creates (DeleteCq qid) = false
creates (CreateCq qid qsize prp1 pc) = true
creates (Abort sqid cid) = false
creates (SetFeatures fid sv cdw11) = false
creates (GetFeatures fid) = false
creates Other = false

-- an I/O queue was created
abbrev pub was_created : Past → Bool
was_created [] = false
was_created (Tail sq slot ∷ past) = was_created past
was_created (Head cq slot ∷ past) = was_created past
was_created (Fetch sq slot cid command ∷ past) = was_created past
was_created (Post cq slot completion ∷ past) = creates (done past completion) || was_created past

-- the feature identifier of Number of Queues
abbrev pub number_of_queues : ℕ
number_of_queues = 0x07

abbrev pub told_first : Option ℕ → Option ℕ → Option ℕ
told_first None dw0 = dw0
told_first (Some numbers) dw0 = Some numbers

abbrev pub numbers_by : AdminCommand → Option ℕ → Option ℕ → Option ℕ
numbers_by (DeleteSq qid) dw0 before = before
numbers_by (CreateSq qid qsize prp1 cqid qprio pc) dw0 before = before
numbers_by (DeleteCq qid) dw0 before = before
numbers_by (CreateCq qid qsize prp1 pc) dw0 before = before
numbers_by (Abort sqid cid) dw0 before = before
numbers_by (SetFeatures fid sv cdw11) dw0 before = if fid == number_of_queues then told_first before dw0 else before
numbers_by (GetFeatures fid) dw0 before = before
numbers_by Other dw0 before = before

-- Dword 0 of the first Set Features of Number of Queues that succeeded and whose Dword 0 is told: NCQA in its upper half, NSQA below
abbrev pub numbers : Past → Option ℕ
numbers [] = None
numbers (Tail sq slot ∷ past) = numbers past
numbers (Head cq slot ∷ past) = numbers past
numbers (Fetch sq slot cid command ∷ past) = numbers past
numbers (Post cq slot completion ∷ past) = numbers_by (done past completion) completion.dw0 (numbers past)
