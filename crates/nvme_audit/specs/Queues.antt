-- Queues: an identifier since its latest creation. (Base Specification, Create and Delete I/O Submission Queue, Create and Delete
-- I/O Completion Queue; Admin Queue Attributes)
use Rattle.std.specs.Prelude.{ℕ, ◌==◌, ◌||◌, Bool, false, [], ◌∷◌, Option, Some, None, if◌then◌else◌}
use Rattle.nvme_entry.specs.declared.admin.AdminCommand.{AdminCommand}
use Rattle.nvme_entry.specs.declared.admin.AdminCommand.TheVariants.{DeleteSq, CreateSq, DeleteCq, CreateCq, Abort, SetFeatures, GetFeatures, Other}
use Rattle.nvme_audit.specs.declared.event.Event.TheVariants.{Tail, Head, Fetch, Post}
use Rattle.nvme_audit.specs.declared.facts.Start.{Start}
use Rattle.nvme_audit.specs.declared.facts.Ring.{Ring}
use Rattle.nvme_audit.specs.Lives.{Past, done}

-- ---- submission queues
-- what a command with success leaves of this submission queue
abbrev pub ring_by : AdminCommand → ℕ → Option Ring → Option Ring
ring_by (DeleteSq qid) q before = if qid == q then None else before
ring_by (CreateSq qid qsize prp1 cqid qprio pc) q before = if qid == q then Some (record { qsize = qsize; cqid = cqid }) else before
ring_by (DeleteCq qid) q before = before
ring_by (CreateCq qid qsize prp1 pc) q before = before
ring_by (Abort sqid cid) q before = before
ring_by (SetFeatures fid sv cdw11) q before = before
ring_by (GetFeatures fid) q before = before
ring_by Other q before = before

-- the size and the completion queue of an open submission queue. The admin queues are open from the start
abbrev pub ring_of : Start → Past → ℕ → Option Ring
ring_of start [] q = if q == 0 then Some (record { qsize = start.asqs; cqid = 0 }) else None
ring_of start (Tail sq slot ∷ past) q = ring_of start past q
ring_of start (Head cq slot ∷ past) q = ring_of start past q
ring_of start (Fetch sq slot cid command ∷ past) q = ring_of start past q
ring_of start (Post cq slot completion ∷ past) q = ring_by (done past completion) q (ring_of start past q)

abbrev pub deletes_sq : AdminCommand → ℕ → Bool
deletes_sq (DeleteSq qid) q = qid == q
deletes_sq (CreateSq qid qsize prp1 cqid qprio pc) q = false
deletes_sq (DeleteCq qid) q = false
deletes_sq (CreateCq qid qsize prp1 pc) q = false
deletes_sq (Abort sqid cid) q = false
deletes_sq (SetFeatures fid sv cdw11) q = false
deletes_sq (GetFeatures fid) q = false
deletes_sq Other q = false

-- whether a submission queue with this identifier was ever deleted
abbrev pub was_deleted : Past → ℕ → Bool
was_deleted [] q = false
was_deleted (Tail sq slot ∷ past) q = was_deleted past q
was_deleted (Head cq slot ∷ past) q = was_deleted past q
was_deleted (Fetch sq slot cid command ∷ past) q = was_deleted past q
was_deleted (Post cq slot completion ∷ past) q = deletes_sq (done past completion) q || was_deleted past q

-- a Create of this submission queue
abbrev pub opens_sq : AdminCommand → ℕ → Bool
opens_sq (DeleteSq qid) q = false
opens_sq (CreateSq qid qsize prp1 cqid qprio pc) q = qid == q
opens_sq (DeleteCq qid) q = false
opens_sq (CreateCq qid qsize prp1 pc) q = false
opens_sq (Abort sqid cid) q = false
opens_sq (SetFeatures fid sv cdw11) q = false
opens_sq (GetFeatures fid) q = false
opens_sq Other q = false

-- ---- completion queues
abbrev pub opens_cq : AdminCommand → ℕ → Bool
opens_cq (DeleteSq qid) q = false
opens_cq (CreateSq qid qsize prp1 cqid qprio pc) q = false
opens_cq (DeleteCq qid) q = false
opens_cq (CreateCq qid qsize prp1 pc) q = qid == q
opens_cq (Abort sqid cid) q = false
opens_cq (SetFeatures fid sv cdw11) q = false
opens_cq (GetFeatures fid) q = false
opens_cq Other q = false

abbrev pub deletes_cq : AdminCommand → ℕ → Bool
deletes_cq (DeleteSq qid) q = false
deletes_cq (CreateSq qid qsize prp1 cqid qprio pc) q = false
deletes_cq (DeleteCq qid) q = qid == q
deletes_cq (CreateCq qid qsize prp1 pc) q = false
deletes_cq (Abort sqid cid) q = false
deletes_cq (SetFeatures fid sv cdw11) q = false
deletes_cq (GetFeatures fid) q = false
deletes_cq Other q = false

abbrev pub turns_cq : AdminCommand → ℕ → Bool
turns_cq (DeleteSq qid) q = false
turns_cq (CreateSq qid qsize prp1 cqid qprio pc) q = false
turns_cq (DeleteCq qid) q = qid == q
turns_cq (CreateCq qid qsize prp1 pc) q = qid == q
turns_cq (Abort sqid cid) q = false
turns_cq (SetFeatures fid sv cdw11) q = false
turns_cq (GetFeatures fid) q = false
turns_cq Other q = false

abbrev pub qsize_by : AdminCommand → ℕ → Option ℕ → Option ℕ
qsize_by (DeleteSq qid) q before = before
qsize_by (CreateSq qid qsize prp1 cqid qprio pc) q before = before
qsize_by (DeleteCq qid) q before = if qid == q then None else before
qsize_by (CreateCq qid qsize prp1 pc) q before = if qid == q then Some qsize else before
qsize_by (Abort sqid cid) q before = before
qsize_by (SetFeatures fid sv cdw11) q before = before
qsize_by (GetFeatures fid) q before = before
qsize_by Other q before = before

-- the size of an open completion queue, zero based
abbrev pub qsize_of : Start → Past → ℕ → Option ℕ
qsize_of start [] q = if q == 0 then Some start.acqs else None
qsize_of start (Tail sq slot ∷ past) q = qsize_of start past q
qsize_of start (Head cq slot ∷ past) q = qsize_of start past q
qsize_of start (Fetch sq slot cid command ∷ past) q = qsize_of start past q
qsize_of start (Post cq slot completion ∷ past) q = qsize_by (done past completion) q (qsize_of start past q)
