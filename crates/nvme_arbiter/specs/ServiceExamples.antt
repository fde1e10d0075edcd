-- Worked instances of the bounds on service: the first queue behind them waits for as long as the bound allows.
-- (profile)
use Rattle.std.specs.Prelude.{◌≡◌, ℕ, zero, suc, ◌+◌, ◌-◌, ◌*◌, ◌==◌, ◌&&◌, List, [], ◌∷◌, ◌++◌, length, filter, IsTrue, IsFalse}
use Rattle.std.specs.List.{list_any, list_all}
use Rattle.nvme_arbiter.specs.Limits.{highest_qid, queue_limit}
use Rattle.nvme_arbiter.specs.Settings.{settings_of, weight_of}
use Rattle.nvme_arbiter.specs.History.{Picked, History}
use Rattle.nvme_arbiter.specs.Lawful.{IsLawfulRun, IsLawfulPick}
use Rattle.nvme_arbiter.specs.Service.{Turn, events_of, sees_ready, is_picked, is_of_class, sees_where_of, sees_low_without_urgent, taken_in}
use Rattle.nvme_arbiter.specs.Examples.{queue, q, fresh}
use Rattle.nvme_arbiter.specs.declared.settings.Class.{Class}
use Rattle.nvme_arbiter.specs.declared.settings.Class.TheVariants.{Admin, Urgent, High, Medium, Low}
use Rattle.nvme_arbiter.specs.declared.settings.Mechanism.TheVariants.{RoundRobin, Weighted}
use Rattle.nvme_arbiter.specs.declared.pick.Seen.{Seen}
use Rattle.nvme_arbiter.specs.declared.pick.Pick.{Pick}

-- picks made in turn of the same observation, the newest first
abbrev pub turns_on : List Turn → List Seen → List Pick → List Turn
turns_on turns seen [] = turns
turns_on turns seen (pick ∷ picks) = turns_on (record { seen = seen; pick = pick } ∷ turns) seen picks

-- the I/O queues 1 to n, all of a class, each with one command
abbrev pub queues_to : ℕ → Class → List Seen
queues_to zero class = []
queues_to (suc n) class = queues_to n class ++ queue (suc n) class 1 ∷ []

-- a pick of each of them in turn
abbrev pub picks_to : ℕ → List Pick
picks_to zero = []
picks_to (suc n) = picks_to n ++ q (suc n) 1 ∷ []

-- every I/O queue that there may be, all of a class
abbrev pub all_of : Class → List Seen
all_of class = queues_to highest_qid class

-- every queue that there may be
abbrev pub every_queue : List Seen
every_queue = queue 0 Admin 1 ∷ all_of Low

-- a pick of each I/O queue but the last
abbrev pub all_but_last : List Pick
all_but_last = picks_to (highest_qid - 1)

abbrev pub turns_of_all : List Turn
turns_of_all = turns_on [] every_queue (q 0 1 ∷ all_but_last)

-- (round robin) the last queue is ready at 64 picks in a row and none of them picks it; the next does
pub record RoundRobinBoundIsLeast : Type 0 where
  pub lawful : IsLawfulRun RoundRobin (settings_of 0) (events_of turns_of_all ++ [])
  pub is_ready : IsTrue (list_all (sees_ready highest_qid) turns_of_all)
  pub picks : length turns_of_all + 1 ≡ queue_limit
  pub waits : IsFalse (is_picked highest_qid turns_of_all)
  pub then_picked : IsLawfulPick RoundRobin (settings_of 0) (events_of turns_of_all ++ []) every_queue (q highest_qid 1)

abbrev pub turns_of_class : List Turn
turns_of_class = turns_on [] (all_of Urgent) all_but_last

-- (weighted) the last queue is ready at 63 picks of its class in a row and none of them picks it; the next does
pub record ClassBoundIsLeast : Type 0 where
  pub lawful : IsLawfulRun Weighted (settings_of 0) (events_of turns_of_class ++ [])
  pub is_ready : IsTrue (list_all (sees_where_of Urgent highest_qid) turns_of_class)
  pub picks : length (filter (is_of_class Urgent) turns_of_class) + 1 ≡ highest_qid
  pub waits : IsFalse (list_any (λ t. is_of_class Urgent t && (t.pick.qid == highest_qid)) turns_of_class)
  pub then_picked : IsLawfulPick Weighted (settings_of 0) (events_of turns_of_class ++ []) (all_of Urgent) (q highest_qid 1)

-- the low queue used its credit before the others had commands
abbrev pub low_first : History
low_first = Picked (queue 4 Low 9 ∷ []) (q 4 1) ∷ []

abbrev pub three_levels : List Seen
three_levels = queue 1 High 9 ∷ queue 3 Medium 9 ∷ queue 4 Low 9 ∷ []

abbrev pub four_turns : List Turn
four_turns = turns_on [] three_levels (q 1 1 ∷ q 3 1 ∷ fresh 1 1 ∷ q 3 1 ∷ [])

-- (weighted) at weights 1, four commands of High and Medium are picked before the low queue is: twice their weights
pub record LowBoundIsLeast : Type 0 where
  pub lawful : IsLawfulRun Weighted (settings_of 0) (events_of four_turns ++ low_first)
  pub low_waits : IsTrue (list_all sees_low_without_urgent four_turns)
  pub taken : taken_in High four_turns + taken_in Medium four_turns ≡ 2 * (weight_of (settings_of 0) High + weight_of (settings_of 0) Medium)
  pub then_low : IsLawfulPick Weighted (settings_of 0) (events_of four_turns ++ low_first) three_levels (q 4 1)
