-- A board: what an arbiter keeps, and the open queues with the number of commands that wait in each (profile).
use Rattle.std.specs.Prelude.{◌≡◌, List, length, Option, option_map, slice_set}
use Rattle.nvme_arbiter.specs.Limits.{queue_limit}
use Rattle.nvme_arbiter.specs.Settings.{ArbitrationFields}
use Rattle.nvme_arbiter.specs.Observation.{IsObservation}
use Rattle.nvme_arbiter.specs.History.{History}
use Rattle.nvme_arbiter.specs.Standing.{StandsAt}
use Rattle.nvme_arbiter.specs.Queues.{seen_of, queue_at, fewer}
use Rattle.nvme_arbiter.specs.declared.settings.Mechanism.{Mechanism}
use Rattle.nvme_arbiter.specs.declared.kept.Kept.{Kept}
use Rattle.nvme_arbiter.specs.declared.pick.OpenQueue.{OpenQueue}
use Rattle.nvme_arbiter.specs.declared.pick.Pick.{Pick}

-- the open queues stand by identifier: place q has queue q, where it is open
pub record BoardView : Type 0 where
  pub kept : Kept
  pub queues : List (Option OpenQueue)

-- what is so of every board: it has a place for each identifier, and its counts are an observation
pub record IsBoard (board : BoardView) : Type 0 where
  pub size : length board.queues ≡ queue_limit
  pub observed : IsObservation (seen_of board.queues)

-- a board stands at a history as its arbiter does, and its counts are an observation
pub record BoardStandsAt (mechanism : Mechanism) (first : ArbitrationFields) (past : History) (board : BoardView) : Type 0 where
  pub stands : StandsAt mechanism first past board.kept
  pub observed : IsObservation (seen_of board.queues)

-- the open queues after a pick
abbrev pub queues_after : List (Option OpenQueue) → Pick → List (Option OpenQueue)
queues_after queues pick = slice_set queues pick.qid (option_map (fewer pick.n) (queue_at queues pick.qid))
