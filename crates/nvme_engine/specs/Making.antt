-- The events that the effect of an admin command makes, with the commands that it ends. (Base Specification, Admin Command Set)
use Rattle.std.specs.Prelude.{◌≡◌, ℕ, ◌+◌, List, [], ◌∷◌, map, Some}
use Rattle.nvme_entry.specs.declared.admin.AdminCommand.{AdminCommand}
use Rattle.nvme_entry.specs.declared.admin.AdminCommand.TheVariants as command
use Rattle.nvme_admin.specs.declared.effect.Effect.{Effect}
use Rattle.nvme_admin.specs.declared.effect.Effect.TheVariants as effect
use Rattle.nvme_log.specs.declared.event.Event.{Event}
use Rattle.nvme_log.specs.declared.event.Event.TheVariants.{SetArbitration, OpenSq, OpenCq, Closing, Abort, ClosedCq}
use Rattle.nvme_log.specs.Rules.{Past}
use Rattle.nvme_log.specs.Queues.{Queue, open_sq}
use Rattle.nvme_log.specs.Places.{waiting}
use Rattle.nvme_log.specs.Effects.{abort_of}
use Rattle.nvme_engine.specs.declared.admin.Ending.{Ending}
use Rattle.nvme_engine.specs.declared.admin.Ending.TheVariants.{Dropped, Aborted}

-- the commands of a queue that is deleted
abbrev pub dropped_in : ℕ → Ending → List Event
dropped_in region (Dropped indexes) = map (λ (i : ℕ). Abort region i) indexes.items
dropped_in region ending = []

-- the command that an Abort ends
abbrev pub aborted_in : Ending → List Event
aborted_in (Aborted region index) = Abort region index ∷ []
aborted_in ending = []

-- all of it
abbrev pub made_in : Effect → Ending → List Event
made_in (effect.Done status dw0) ending = []
made_in (effect.OpenSq qid region cqid cq_region class) ending = OpenSq qid region cqid class ∷ []
made_in (effect.OpenCq qid region) ending = OpenCq qid region ∷ []
made_in (effect.BeginDelete qid region) ending = Closing qid region ∷ dropped_in region ending
made_in (effect.CloseCq qid region) ending = ClosedCq qid region ∷ []
made_in (effect.Abort sqid cid) ending = aborted_in ending
made_in (effect.SetArbitration settings) ending = SetArbitration settings ∷ []

-- one more than the identifier of the queue that it opens, 0 where it opens none
abbrev pub above_opened : Effect → ℕ
above_opened (effect.OpenSq qid region cqid cq_region class) = qid + 1
above_opened (effect.OpenCq qid region) = qid + 1
above_opened e = 0

-- the commands that an admin command ends, if it takes effect: a Delete of an open submission queue those that wait in it, an Abort the oldest of that
-- command identifier
abbrev pub IsEnding : Past → AdminCommand → Ending → Type 0
IsEnding past (command.DeleteSq qid) ending = (queue : Queue) → open_sq past qid ≡ Some queue → dropped_in queue.region ending ≡ map (λ (i : ℕ). Abort queue.region i) (waiting past queue.region)
IsEnding past (command.Abort sqid cid) ending = aborted_in ending ≡ abort_of past sqid cid
IsEnding past command ending = Unit {0}
