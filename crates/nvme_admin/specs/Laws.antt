-- Laws over table histories (profile).
use Rattle.std.specs.Prelude.{◌≡◌, ◌≢◌, ℕ, suc, ◌+◌, ◌==◌, ◌<◌, ◌≤◌, ◌⊎◌, Bool, true, false, if◌then◌else◌, List, [], ◌∷◌, ◌++◌, Option, Some, None, is_some, slice_get}
use Rattle.nvme_entry.specs.AdminCommand.{admin_command_of}
use Rattle.nvme_entry.specs.declared.submission.Sqe.{Sqe}
use Rattle.nvme_entry.specs.declared.admin.AdminCommand.TheVariants.{CreateSq, CreateCq, SetFeatures}
use Rattle.nvme_admin.specs.declared.bounds.TheConstants.{MAX_REGIONS}
use Rattle.nvme_admin.specs.declared.verdict.SqEntry.{SqEntry}
use Rattle.nvme_admin.specs.declared.region.Region.{Region}
use Rattle.nvme_admin.specs.History.{Start, TableHistory, EntryApplied, Effects, Accepted}
use Rattle.nvme_admin.specs.QueueTable.{is_used, sq_named_in, cq_named_in, number_of_queues, class_of}
use Rattle.nvme_admin.specs.Accepted.{effects_of, queue_table, is_accepted, sq_at, cq_at, nsq_at, ncq_at}

-- the completion queue that an I/O submission queue, open or closing, is attached to is open
abbrev pub AttachedStayOpen : Type 0
AttachedStayOpen = (start : Start) (h : TableHistory) (q : ℕ) (queue : SqEntry)
    → start.nsq < MAX_REGIONS → q ≢ 0 → sq_at start h q ≡ Some queue → is_some (cq_at start h queue.cqid) ≡ true

-- region 0 isn't named, and no region is named twice
abbrev pub NamedOnce : List ℕ → Type 0
NamedOnce [] = Unit {0}
NamedOnce (k ∷ named) = (is_used named k ≡ false) × NamedOnce named

-- each region is used at most once: the accepted Creates name different regions, and never the admin queue's
abbrev pub RegionsAreUsedOnce : Type 0
RegionsAreUsedOnce = (start : Start) (h : TableHistory) → NamedOnce (sq_named_in (effects_of start h)) × NamedOnce (cq_named_in (effects_of start h))

-- after an accepted Create, whatever follows it, no request for Number of Queues is accepted
abbrev pub NoRequestAfterCreate : Type 0
NoRequestAfterCreate = (start : Start) (later h : TableHistory) (entry : Sqe) (sv : Bool) (cdw11 : ℕ)
    → (queue_table start h).created ≡ true → admin_command_of entry ≡ SetFeatures number_of_queues sv cdw11
    → is_accepted start (later ++ h) entry ≡ false

-- the allotted numbers are fixed: a Set of Number of Queues, or a Create, was accepted
abbrev pub AreNumbersFixed : Start → TableHistory → Type 0
AreNumbersFixed start h = ((queue_table start h).numbers_set ≡ true) ⊎ ((queue_table start h).created ≡ true)

-- fixed numbers never change
abbrev pub NumbersStayFixed : Type 0
NumbersStayFixed = (start : Start) (later h : TableHistory) → AreNumbersFixed start h
    → (nsq_at start (later ++ h) ≡ nsq_at start h) × (ncq_at start (later ++ h) ≡ ncq_at start h)

-- queues of one region are one queue: of two submission queues, open or closing, that have the same region, both are the same
abbrev pub RegionsTellQueues : Type 0
RegionsTellQueues = (start : Start) (h : TableHistory) (q r : ℕ) (a b : SqEntry)
    → sq_at start h q ≡ Some a → sq_at start h r ≡ Some b → a.region ≡ b.region → q ≡ r

-- an I/O queue's identifier is at most the allotted number: of submission queues, open or closing, and of completion queues
abbrev pub SqsAreAllotted : Type 0
SqsAreAllotted = (start : Start) (h : TableHistory) (q : ℕ) (queue : SqEntry) → q ≢ 0 → sq_at start h q ≡ Some queue → q ≤ nsq_at start h

abbrev pub CqsAreAllotted : Type 0
CqsAreAllotted = (start : Start) (h : TableHistory) (q k : ℕ) → q ≢ 0 → cq_at start h q ≡ Some k → q ≤ ncq_at start h

-- the region that the latest accepted Create of an identifier asked for: PRP1 is its address, and QSIZE + 1 its number of slots
abbrev pub sq_asked_in : Effects → ℕ → Option Region
sq_asked_in [] q = None
sq_asked_in (Accepted (CreateSq qid qsize prp1 cqid qprio pc) ∷ past) q =
    if qid == q then Some (record { address = prp1; slots = qsize + 1 }) else sq_asked_in past q
sq_asked_in (e ∷ past) q = sq_asked_in past q

abbrev pub cq_asked_in : Effects → ℕ → Option Region
cq_asked_in [] q = None
cq_asked_in (Accepted (CreateCq qid qsize prp1 pc) ∷ past) q =
    if qid == q then Some (record { address = prp1; slots = qsize + 1 }) else cq_asked_in past q
cq_asked_in (e ∷ past) q = cq_asked_in past q

-- where queues lie on regions, an I/O queue's region is the one that its Create asked for, of a submission queue, open or closing, and of a completion queue
abbrev pub SqsHaveTheirRegions : Type 0
SqsHaveTheirRegions = (start : Start) (h : TableHistory) (q : ℕ) (queue : SqEntry) → (queue_table start h).placing ≡ None → q ≢ 0 → sq_at start h q ≡ Some queue
    → (r : Region) × (sq_asked_in (effects_of start h) q ≡ Some r) × (slice_get (queue_table start h).sq_regions queue.region ≡ Some r)

abbrev pub CqsHaveTheirRegions : Type 0
CqsHaveTheirRegions = (start : Start) (h : TableHistory) (q k : ℕ) → (queue_table start h).placing ≡ None → q ≢ 0 → cq_at start h q ≡ Some k
    → (r : Region) × (cq_asked_in (effects_of start h) q ≡ Some r) × (slice_get (queue_table start h).cq_regions k ≡ Some r)

-- after an accepted Create, whatever follows it, where queues may lie doesn't change
abbrev pub PlacingStays : Type 0
PlacingStays = (start : Start) (later h : TableHistory) → (queue_table start h).created ≡ true
    → (queue_table start (later ++ h)).placing ≡ (queue_table start h).placing

-- each accepted Create of a kind is counted, wherever queues may lie
abbrev pub SqCreatesAreCounted : Type 0
SqCreatesAreCounted = (start : Start) (h : TableHistory) (entry : Sqe) (qid qsize prp1 cqid qprio : ℕ) (pc : Bool)
    → admin_command_of entry ≡ CreateSq qid qsize prp1 cqid qprio pc → is_accepted start h entry ≡ true
    → (queue_table start (EntryApplied entry ∷ h)).sqs_made ≡ suc (queue_table start h).sqs_made

abbrev pub CqCreatesAreCounted : Type 0
CqCreatesAreCounted = (start : Start) (h : TableHistory) (entry : Sqe) (qid qsize prp1 : ℕ) (pc : Bool)
    → admin_command_of entry ≡ CreateCq qid qsize prp1 pc → is_accepted start h entry ≡ true
    → (queue_table start (EntryApplied entry ∷ h)).cqs_made ≡ suc (queue_table start h).cqs_made

-- where queues may lie anywhere, the region of a new queue is the next after those of the queues of its kind that were made before
abbrev pub SqLivesAreCounted : Type 0
SqLivesAreCounted = (start : Start) (h : TableHistory) (entry : Sqe) (qid qsize prp1 cqid qprio : ℕ) (pc : Bool)
    → is_some (queue_table start h).placing ≡ true
    → admin_command_of entry ≡ CreateSq qid qsize prp1 cqid qprio pc → is_accepted start h entry ≡ true
    → sq_at start (EntryApplied entry ∷ h) qid
    ≡ Some (record { region = suc (queue_table start h).sqs_made; cqid = cqid; class = class_of qprio; closing = false })

abbrev pub CqLivesAreCounted : Type 0
CqLivesAreCounted = (start : Start) (h : TableHistory) (entry : Sqe) (qid qsize prp1 : ℕ) (pc : Bool)
    → is_some (queue_table start h).placing ≡ true
    → admin_command_of entry ≡ CreateCq qid qsize prp1 pc → is_accepted start h entry ≡ true
    → cq_at start (EntryApplied entry ∷ h) qid ≡ Some (suc (queue_table start h).cqs_made)
