-- What an Abort command makes: aborts of one region, one at most.
use Rattle.std.proofs.Common.{◌≡◌, ℕ, List, [], map, take, Option, Some, None, refl}
use Rattle.nvme_log.specs.declared.event.Event.{Event}
use Rattle.nvme_log.specs.declared.event.Event.TheVariants.{Abort}
use Rattle.nvme_log.specs.Rules.{Past}
use Rattle.nvme_log.specs.Queues.{Queue}
use Rattle.nvme_log.specs.Effects.{named, abort_in, abort_of, target_of}

-- aborts of some indices of one region
pub record AreAborts (events : List Event) : Type 0 where
  pub region : ℕ
  pub indices : List ℕ
  pub are : events ≡ map (λ (i : ℕ). Abort region i) indices

-- no event is an abort of none
none : AreAborts []
none = record { region = 0; indices = []; are = refl }

-- an Abort command makes aborts of the queue that it names
pub aborts_in : (past : Past) (cid : ℕ) (o : Option Queue) → AreAborts (abort_in past cid o)
aborts_in past cid None = none
aborts_in past cid (Some queue) = record { region = queue.region; indices = take 1 (named past queue.region cid); are = refl }

pub makes_aborts : (past : Past) (sqid cid : ℕ) → AreAborts (abort_of past sqid cid)
makes_aborts past sqid cid = aborts_in past cid (target_of past sqid)
