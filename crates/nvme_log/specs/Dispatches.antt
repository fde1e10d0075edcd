-- The I/O commands that are picked, in the order of the picks. (Base Specification, Command Arbitration)
use Rattle.std.specs.Prelude.{ℕ, ◌==◌, if◌then◌else◌, List, [], ◌∷◌, ◌++◌, map, take, Option, Some, None}
use Rattle.nvme_arbiter.specs.declared.pick.Pick.{Pick}
use Rattle.nvme_log.specs.Rules.{Past}
use Rattle.nvme_log.specs.Queues.{Queue, open_sq}
use Rattle.nvme_log.specs.Places.{waiting}
use Rattle.nvme_log.specs.declared.place.Place.{Place}
use Rattle.nvme_log.specs.declared.event.Event.TheVariants as event

abbrev pub place_at : ℕ → ℕ → Place
place_at r i = record { region = r; index = i }

-- the places that a pick dispatches to the workers: the oldest candidates of an I/O queue, in order. A command of the admin queue is executed
-- by the front
abbrev pub dispatched_by : Past → Pick → Option Queue → List Place
dispatched_by past pick None = []
dispatched_by past pick (Some queue) = if pick.qid == 0 then [] else map (place_at queue.region) (take pick.n (waiting past queue.region))

-- the picked places of I/O queues, in the order of the picks
abbrev pub dispatched : Past → List Place
dispatched [] = []
dispatched (event.Pick seen pick ∷ past) = dispatched past ++ dispatched_by past pick (open_sq past pick.qid)
dispatched (e ∷ past) = dispatched past
