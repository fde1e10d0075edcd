-- What a board served of its queues (Base Specification, Command Arbitration).
use Rattle.std.specs.Prelude.{◌≡◌, ℕ, ◌+◌, ◌==◌, if◌then◌else◌, List, [], ◌∷◌, Option, Some, None, reverse}
use Rattle.nvme_arbiter.specs.Settings.{ArbitrationFields}
use Rattle.nvme_arbiter.specs.History.{History, Picked, Changed}
use Rattle.nvme_arbiter.specs.Lawful.{IsLawfulRun}
use Rattle.nvme_arbiter.specs.Queues.{queue_at}
use Rattle.nvme_arbiter.specs.Board.{BoardView, BoardStandsAt}
use Rattle.nvme_arbiter.specs.declared.settings.Mechanism.{Mechanism}
use Rattle.nvme_arbiter.specs.declared.pick.OpenQueue.{OpenQueue}
use Rattle.nvme_arbiter.specs.declared.pick.Pick.{Pick}

-- how many commands wait in a queue; none where it isn't open
abbrev pub count_of : Option OpenQueue → ℕ
count_of None = 0
count_of (Some queue) = queue.count

abbrev pub waits : BoardView → ℕ → ℕ
waits board q = count_of (queue_at board.queues q)

-- how many commands picks took from a queue
abbrev pub taken : ℕ → List Pick → ℕ
taken q [] = 0
taken q (pick ∷ rest) = (if q == pick.qid then pick.n else 0) + taken q rest

-- the picks of a history, the newest first
abbrev pub picks_of : History → List Pick
picks_of [] = []
picks_of (Picked seen pick ∷ past) = pick ∷ picks_of past
picks_of (Changed settings ∷ past) = picks_of past

-- these picks were made, the oldest first, of a board to which `came q` commands came for each queue q: of each queue what came was taken or
-- waits, and the picks are those of a lawful run of the board's arbitration
pub record HasServed (mechanism : Mechanism) (first : ArbitrationFields) (came : ℕ → ℕ) (picks : List Pick) (board : BoardView) : Type 0 where
  pub all : (q : ℕ) → taken q picks + waits board q ≡ came q
  pub past : History
  pub picks_are : picks_of past ≡ reverse picks
  pub lawful : IsLawfulRun mechanism first past
  pub stands : BoardStandsAt mechanism first past board
