-- Rings, and how far each end of a queue came since its creation.
-- (Base Specification, Submission Queue y Tail Doorbell, Completion Queue y Head Doorbell; Empty Queue, Full Queue, Phase Tag)
use Rattle.std.specs.Prelude.{ℕ, ◌+◌, ◌-◌, ◌/◌, ◌%◌, ◌==◌, ◌&&◌, nat_le, Bool, [], ◌∷◌, Option, Some, None, if◌then◌else◌}
use Rattle.nvme_audit.specs.declared.event.Event.TheVariants.{Tail, Head, Fetch, Post}
use Rattle.nvme_audit.specs.declared.facts.Start.{Start}
use Rattle.nvme_audit.specs.declared.facts.Ring.{Ring}
use Rattle.nvme_audit.specs.Lives.{Past, turns_sq, done}
use Rattle.nvme_audit.specs.Queues.{ring_of, qsize_of, turns_cq}

-- a size is zero based
abbrev pub slots_of : ℕ → ℕ
slots_of qsize = qsize + 1

-- how many slots it is from one slot on to another, round the ring
abbrev pub gap : (slots from to : ℕ) → ℕ
gap slots from to = if nat_le from to then to - from else to + slots - from

-- a count after the doorbell names a slot: the next number that stands for it
abbrev pub advanced : (qsize count slot : ℕ) → ℕ
advanced qsize count slot = count + gap (slots_of qsize) (count % slots_of qsize) slot

abbrev pub advanced_where_open : Option ℕ → (count slot : ℕ) → ℕ
advanced_where_open None count slot = count
advanced_where_open (Some qsize) count slot = advanced qsize count slot

-- the phase tag of a completion: 1 in the first pass of the ring, and turned in each further
abbrev pub phase_of : (qsize posted : ℕ) → Bool
phase_of qsize posted = posted / slots_of qsize % 2 == 0

abbrev pub qsize_in : Option Ring → Option ℕ
qsize_in None = None
qsize_in (Some ring) = Some ring.qsize

-- ---- counts since the creation of the queue
-- the commands that the tail doorbell announced
abbrev pub submitted : Start → Past → ℕ → ℕ
submitted start [] q = 0
submitted start (Tail sq slot ∷ past) q = if sq == q then advanced_where_open (qsize_in (ring_of start past q)) (submitted start past q) slot else submitted start past q
submitted start (Head cq slot ∷ past) q = submitted start past q
submitted start (Fetch sq slot cid command ∷ past) q = submitted start past q
submitted start (Post cq slot completion ∷ past) q = if turns_sq (done past completion) q then 0 else submitted start past q

-- the commands that were fetched
abbrev pub fetched : Past → ℕ → ℕ
fetched [] q = 0
fetched (Tail sq slot ∷ past) q = fetched past q
fetched (Head cq slot ∷ past) q = fetched past q
fetched (Fetch sq slot cid command ∷ past) q = if sq == q then fetched past q + 1 else fetched past q
fetched (Post cq slot completion ∷ past) q = if turns_sq (done past completion) q then 0 else fetched past q

-- the completions that were written
abbrev pub posted : Past → ℕ → ℕ
posted [] q = 0
posted (Tail sq slot ∷ past) q = posted past q
posted (Head cq slot ∷ past) q = posted past q
posted (Fetch sq slot cid command ∷ past) q = posted past q
posted (Post cq slot completion ∷ past) q = if turns_cq (done past completion) q then 0 else (if cq == q then posted past q + 1 else posted past q)

-- the completions that the head doorbell released
abbrev pub consumed : Start → Past → ℕ → ℕ
consumed start [] q = 0
consumed start (Tail sq slot ∷ past) q = consumed start past q
consumed start (Head cq slot ∷ past) q = if cq == q then advanced_where_open (qsize_of start past q) (consumed start past q) slot else consumed start past q
consumed start (Fetch sq slot cid command ∷ past) q = consumed start past q
consumed start (Post cq slot completion ∷ past) q = if turns_cq (done past completion) q then 0 else consumed start past q

-- the number of the newest command fetched under a name, among those of its queue
abbrev pub number_of : Past → (sq cid : ℕ) → ℕ
number_of [] q c = 0
number_of (Tail sq slot ∷ past) q c = number_of past q c
number_of (Head cq slot ∷ past) q c = number_of past q c
number_of (Fetch sq slot cid command ∷ past) q c = if (sq == q) && (cid == c) then fetched past q else number_of past q c
number_of (Post cq slot completion ∷ past) q c = number_of past q c
