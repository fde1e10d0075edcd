-- The open submission queues of a board, by identifier (profile).
use Rattle.std.specs.Prelude.{ℕ, ◌+◌, ◌-◌, List, [], ◌∷◌, slice_index_or, Option, Some, None, option_map}
use Rattle.nvme_arbiter.specs.Observation.{IsSeen}
use Rattle.nvme_arbiter.specs.declared.pick.Seen.{Seen}
use Rattle.nvme_arbiter.specs.declared.pick.OpenQueue.{OpenQueue}

-- an open queue as it is seen
abbrev pub seen_as : ℕ → OpenQueue → Seen
seen_as qid queue = record { qid = qid; class = queue.class; count = queue.count }

-- the open queues as they are seen, from an identifier on
abbrev pub seen_from : ℕ → List (Option OpenQueue) → List Seen
seen_from qid [] = []
seen_from qid (None ∷ rest) = seen_from (qid + 1) rest
seen_from qid (Some queue ∷ rest) = seen_as qid queue ∷ seen_from (qid + 1) rest

-- what arbitration sees of the open queues, by ascending identifier
abbrev pub seen_of : List (Option OpenQueue) → List Seen
seen_of queues = seen_from 0 queues

-- the queue of an identifier, where it is open
abbrev pub queue_at : List (Option OpenQueue) → ℕ → Option OpenQueue
queue_at queues qid = slice_index_or queues qid None

-- a queue with some commands fewer
abbrev pub fewer : ℕ → OpenQueue → OpenQueue
fewer n queue = record queue { count = queue.count - n }

-- a queue may be open under an identifier
abbrev pub FitsUnder : ℕ → Option OpenQueue → Type 0
FitsUnder qid None = Unit {0}
FitsUnder qid (Some queue) = IsSeen (seen_as qid queue)

-- the open queue of an identifier, where there is one
abbrev pub shown : List (Option OpenQueue) → Option ℕ → Option Seen
shown queues None = None
shown queues (Some qid) = option_map (seen_as qid) (queue_at queues qid)
