-- How an arbiter and a board lie in memory: in numbers (profile).
use Rattle.std.specs.Prelude.{ℕ, ◌-◌, ◌==◌, ◌&&◌, ◌||◌, nat_le, min, Bool, true, if◌then◌else◌, slice_index_or, Option, Some, None, List, map}
use Rattle.std.specs.List.{range_with_len}
use Rattle.std.specs.Int.{bit_at}
use Rattle.nvme_arbiter.specs.Limits.{highest_count, queue_limit}
use Rattle.nvme_arbiter.specs.Settings.{number_of_class, settings_of}
use Rattle.nvme_arbiter.specs.Board.{BoardView}
use Rattle.nvme_arbiter.specs.declared.settings.Class.{Class}
use Rattle.nvme_arbiter.specs.declared.settings.Class.TheVariants.{Admin, Urgent, High, Medium, Low}
use Rattle.nvme_arbiter.specs.declared.settings.Mechanism.{Mechanism}
use Rattle.nvme_arbiter.specs.declared.settings.Mechanism.TheVariants.{RoundRobin, Weighted}
use Rattle.nvme_arbiter.specs.declared.kept.Kept.{Kept}
use Rattle.nvme_arbiter.specs.declared.kept.Last.{Last}
use Rattle.nvme_arbiter.specs.declared.kept.Used.{Used}
use Rattle.nvme_arbiter.specs.declared.pick.OpenQueue.{OpenQueue}
use Rattle.nvme_arbiter.specs.declared.arbiter_fields.LastFields.{LastFields}
use Rattle.nvme_arbiter.specs.declared.arbiter_fields.UsedFields.{UsedFields}
use Rattle.nvme_arbiter.specs.declared.arbiter_fields.ArbiterFields.{ArbiterFields}
use Rattle.nvme_arbiter.specs.declared.queues.QueueFields.{QueueFields}
use Rattle.nvme_arbiter.specs.declared.queues.QueuesFields.{QueuesFields}
use Rattle.nvme_arbiter.specs.declared.board_fields.BoardFields.{BoardFields}

-- ---- an arbiter
-- an identifier of 16 bits has this place
abbrev pub is_place : ℕ → Bool
is_place n = nat_le n 0x10000

-- the identifier of a place, 0 for none
abbrev pub last_of_place : ℕ → Option ℕ
last_of_place n = if n == 0 then None else Some (n - 1)

-- a mechanism has this number
abbrev pub is_mechanism : ℕ → Bool
is_mechanism n = n == 1 || n == 2

abbrev pub mechanism_of : ℕ → Mechanism
mechanism_of n = if n == 1 then RoundRobin else Weighted

abbrev pub are_places : LastFields → Bool
are_places f = is_place f.all && (is_place f.admin && (is_place f.urgent && (is_place f.high && (is_place f.medium && is_place f.low))))

-- an arbiter can keep this
abbrev pub is_arbiter : ArbiterFields → Bool
is_arbiter s = is_mechanism s.mechanism && are_places s.last

abbrev pub last_in : LastFields → Last
last_in f = record {
  all = last_of_place f.all;
  by_class = record {
    admin = last_of_place f.admin;
    urgent = last_of_place f.urgent;
    high = last_of_place f.high;
    medium = last_of_place f.medium;
    low = last_of_place f.low;
  };
}

abbrev pub used_in : UsedFields → Used
used_in f = record { high = f.high; medium = f.medium; low = f.low }

-- what an arbiter keeps
abbrev pub kept_of : ArbiterFields → Kept
kept_of s = record { mechanism = mechanism_of s.mechanism; settings = settings_of s.cdw11; last = last_in s.last; used = used_in s.used }

-- ---- the open queues
-- the class of a place by its number: 1 is the admin queue's, which is queue 0, and 2 to 5 are those of the others
abbrev pub class_under : ℕ → ℕ → Option Class
class_under qid n =
    if qid == 0 then (if n == 1 then Some Admin else None)
    else (if n == 2 then Some Urgent
    else (if n == 3 then Some High
    else (if n == 4 then Some Medium
    else (if n == 5 then Some Low
    else None))))

-- the mask of a class: bit q - 1 is for queue q. The admin queue has none
abbrev pub mask_in : QueuesFields → Class → ℕ
mask_in b Admin = 0
mask_in b class = slice_index_or b.ready (number_of_class class - 1) 0

-- whether a command of an open queue may wait: an I/O queue's bit in the mask of its class says so
abbrev pub is_marked : QueuesFields → ℕ → Class → Bool
is_marked b qid Admin = true
is_marked b qid class = bit_at (mask_in b class) (qid - 1) == 1

-- how many commands of an open queue wait: none without its bit, and no more than can be seen
abbrev pub waiting_in : QueuesFields → (qid count : ℕ) → Class → ℕ
waiting_in b qid count class = if is_marked b qid class then min count highest_count else 0

abbrev pub open_in : QueuesFields → (qid count : ℕ) → Option Class → Option OpenQueue
open_in b qid count None = None
open_in b qid count (Some class) = Some (record { class = class; count = waiting_in b qid count class })

-- a place without a queue
abbrev pub closed : QueueFields
closed = record { class = 0; count = 0 }

-- the queue of a place, where one of a class of its identifier is open there
abbrev pub slot_in : QueuesFields → ℕ → QueueFields → Option OpenQueue
slot_in b qid f = open_in b qid f.count (class_under qid f.class)

abbrev pub slot_at : QueuesFields → ℕ → Option OpenQueue
slot_at b qid = slot_in b qid (slice_index_or b.places qid closed)

-- the open queues by identifier
unfoldable pub slots_in : QueuesFields → List (Option OpenQueue)
slots_in b = map {A = ℕ} {B = Option OpenQueue} (slot_at b) (range_with_len 0 queue_limit)

-- ---- a board
-- the content of a board. Any numbers are the queues of some board
abbrev pub board_of : BoardFields → BoardView
board_of b = record { kept = kept_of b.arbiter; queues = slots_in b.queues }
