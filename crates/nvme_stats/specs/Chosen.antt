-- Which events of a trace are looked at. (profile)
use Rattle.std.specs.Prelude.{◌≡◌, ℕ, ◌+◌, ◌-◌, ◌==◌, ◌&&◌, ◌||◌, Bool, false, true, not, nat_le, nat_lt, if◌then◌else◌, List, [], ◌∷◌, Option, None, Some}
use Rattle.std.specs.List.{list_all}
use Rattle.nvme_arbiter.specs.History.{ArbitrationEvent, Picked, Changed, History}
use Rattle.nvme_arbiter.specs.Observation.{class_in}
use Rattle.nvme_arbiter.specs.Specified.{is_of_level}
use Rattle.nvme_arbiter.specs.declared.pick.Seen.{Seen}
use Rattle.nvme_arbiter.specs.declared.settings.Class.{Class}
use Rattle.nvme_arbiter.specs.declared.settings.Class.TheVariants.{Admin, Urgent, High, Medium, Low}
use Rattle.nvme_arbiter.specs.declared.settings.Mechanism.{Mechanism}
use Rattle.nvme_arbiter.specs.declared.settings.Mechanism.TheVariants.{RoundRobin, Weighted}
use Rattle.nvme_trace.specs.Judged.{picks_in}
use Rattle.nvme_stats.specs.Counted.{capped}
use Rattle.nvme_stats.specs.declared.selection.Selection.{Selection}
use Rattle.nvme_stats.specs.declared.selection.Part.{Part}

-- the number of the pick that follows these events
abbrev pub number_after : History → ℕ
number_after past = capped (picks_in past + 1)

-- an urgent queue
abbrev pub is_urgent : Class → Bool
is_urgent Admin = false
is_urgent Urgent = true
is_urgent High = false
is_urgent Medium = false
is_urgent Low = false

-- a pick is one that urgent queues outrank: it is of a level, under the weighted mechanism
abbrev pub is_outranked : Mechanism → List Seen → ℕ → Bool
is_outranked RoundRobin seen qid = false
is_outranked Weighted seen qid = is_of_level (class_in seen qid)

-- a queue has waiting commands, or needs none: the admin queue at no pick, and an urgent one at none that it outranks
abbrev pub has_backlog : Bool → Seen → Bool
has_backlog outranked queue = (queue.qid == 0) || (nat_lt 0 queue.count || (outranked && is_urgent queue.class))

-- each I/O queue of an observation has waiting commands, but those that outrank the pick
abbrev pub is_backlogged : Mechanism → List Seen → ℕ → Bool
is_backlogged mechanism seen qid = list_all (has_backlog (is_outranked mechanism seen qid)) seen

-- an event is chosen after others: a pick by its number and by what waits, and a change of the settings where it isn't behind the last pick
abbrev pub chooses : Mechanism → Selection → History → ArbitrationEvent → Bool
chooses mechanism s past (Picked seen pick) =
    nat_le (number_after past) s.last && (nat_le s.first (number_after past) && (not s.backlogged || is_backlogged mechanism seen pick.qid))
chooses mechanism s past (Changed settings) = nat_le (number_after past) s.last

-- the events that are looked at
abbrev pub chosen : Mechanism → Selection → History → History
chosen mechanism s [] = []
chosen mechanism s (e ∷ past) = if chooses mechanism s past e then e ∷ chosen mechanism s past else chosen mechanism s past

-- the part is that of a selection in a trace of these events
pub record IsPart (choice : Selection) (past : History) (part : Part) : Type 0 where
  pub selection : part.selection ≡ choice
  pub next : part.next ≡ number_after past

-- the number of the last pick of a trace, where the first that is to be looked at is behind it. From the first pick on all may be looked at, though there is none
abbrev pub last_before : Selection → History → Option ℕ
last_before s past = if nat_lt 1 s.first && nat_le (number_after past) s.first then Some (number_after past - 1) else None
