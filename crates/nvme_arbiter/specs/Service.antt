-- Bounds on service by count, over stretches of runs that are lawful, with limits or without, in which the settings stay (profile).
use Rattle.std.specs.Prelude.{ℕ, ◌+◌, ◌*◌, ◌≤◌, ◌==◌, ◌&&◌, Bool, true, false, not, List, [], ◌∷◌, ◌++◌, length, map, filter, IsTrue}
use Rattle.std.specs.List.{list_any, list_all}
use Rattle.nvme_arbiter.specs.Limits.{highest_qid, queue_limit}
use Rattle.nvme_arbiter.specs.Settings.{ArbitrationFields, weight_of}
use Rattle.nvme_arbiter.specs.Observation.{ready, ready_of, class_in}
use Rattle.nvme_arbiter.specs.History.{Picked, History, settings_after, is_in_class, taken}
use Rattle.nvme_arbiter.specs.Lawful.{IsLimitedRun}
use Rattle.nvme_arbiter.specs.declared.settings.Class.{Class}
use Rattle.nvme_arbiter.specs.declared.settings.Class.TheVariants.{Admin, Urgent, High, Medium, Low}
use Rattle.nvme_arbiter.specs.declared.settings.Mechanism.TheVariants.{RoundRobin, Weighted}
use Rattle.nvme_arbiter.specs.declared.pick.Seen.{Seen}
use Rattle.nvme_arbiter.specs.declared.pick.Pick.{Pick}

-- a pick with the observation that it was made on
pub record Turn : Type 0 where
  pub seen : List Seen
  pub pick : Pick

-- a stretch of picks, the newest first, as events
abbrev pub events_of : List Turn → History
events_of turns = map (λ t. Picked t.seen t.pick) turns

-- whether a queue is seen ready
abbrev pub sees_ready : ℕ → Turn → Bool
sees_ready qid t = list_any (λ s. s.qid == qid) (ready t.seen)

-- whether a queue is seen ready in a class
abbrev pub sees_ready_in : Class → ℕ → Turn → Bool
sees_ready_in class qid t = list_any (λ s. s.qid == qid) (ready_of class t.seen)

-- whether a turn picks of a class
abbrev pub is_of_class : Class → Turn → Bool
is_of_class class t = is_in_class class (class_in t.seen t.pick.qid)

-- whether a queue is picked in a stretch
abbrev pub is_picked : ℕ → List Turn → Bool
is_picked qid turns = list_any (λ t. t.pick.qid == qid) turns

-- (round robin) a queue that is seen ready at every pick of a stretch is picked within any 65 picks in a row
abbrev pub RoundRobinServes : Type 0
RoundRobinServes = (first : ArbitrationFields) (past : History) (turns : List Turn) (qid : ℕ) → IsLimitedRun RoundRobin first (events_of turns ++ past) → IsTrue (list_all (sees_ready qid) turns) → queue_limit ≤ length turns → IsTrue (is_picked qid turns)

-- whether a turn that picks of a class sees a queue ready in it
abbrev pub sees_where_of : Class → ℕ → Turn → Bool
sees_where_of class qid t = not (is_of_class class t && not (sees_ready_in class qid t))

-- (weighted) a queue that is seen ready in a class at every pick of that class is picked, in it, within any 64 picks of the class in a row
abbrev pub ClassServes : Type 0
ClassServes = (first : ArbitrationFields) (past : History) (turns : List Turn) (class : Class) (qid : ℕ) → IsLimitedRun Weighted first (events_of turns ++ past) → IsTrue (list_all (sees_where_of class qid) turns) → highest_qid ≤ length (filter (is_of_class class) turns) → IsTrue (list_any (λ t. is_of_class class t && (t.pick.qid == qid)) turns)

-- whether no admin or urgent queue is seen ready and some low queue is
abbrev pub is_empty : List Seen → Bool
is_empty [] = true
is_empty (s ∷ rest) = false

abbrev pub sees_low_without_urgent : Turn → Bool
sees_low_without_urgent t = is_empty (ready_of Admin t.seen) && (is_empty (ready_of Urgent t.seen) && not (is_empty (ready_of Low t.seen)))

-- how many commands were picked of a class
abbrev pub taken_in : Class → List Turn → ℕ
taken_in class [] = 0
taken_in class (t ∷ rest) = taken class t.seen t.pick + taken_in class rest

-- (weighted) where no admin or urgent queue is seen ready and some low queue is, at most twice the weights of High and Medium together are picked of these levels before a low queue is
abbrev pub LowIsServed : Type 0
LowIsServed = (first : ArbitrationFields) (past : History) (turns : List Turn) → IsLimitedRun Weighted first (events_of turns ++ past) → IsTrue (list_all sees_low_without_urgent turns) → IsTrue (list_all (λ t. not (is_of_class Low t)) turns) → taken_in High turns + taken_in Medium turns ≤ 2 * (weight_of (settings_after first past) High + weight_of (settings_after first past) Medium)
