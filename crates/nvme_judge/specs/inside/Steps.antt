-- One pick more, as it is kept (profile).
use Rattle.std.specs.Prelude.{ℕ, ◌≤◌, ◌&&◌, Bool, true, false, if◌then◌else◌, List, Option, Some, None}
use Rattle.std.specs.List.{list_any}
use Rattle.nvme_arbiter.specs.Settings.{ArbitrationFields, weight_of, IsLevel}
use Rattle.nvme_arbiter.specs.Observation.{class_in, is_wanted}
use Rattle.nvme_arbiter.specs.History.{is_in_class}
use Rattle.nvme_arbiter.specs.Standing.{used_of, used_with, used_before}
use Rattle.nvme_arbiter.specs.Specified.{starts_round}
use Rattle.nvme_arbiter.specs.declared.settings.Class.{Class}
use Rattle.nvme_arbiter.specs.declared.settings.Mechanism.{Mechanism}
use Rattle.nvme_arbiter.specs.declared.settings.Mechanism.TheVariants.{RoundRobin, Weighted}
use Rattle.nvme_arbiter.specs.declared.kept.Used.{Used}
use Rattle.nvme_arbiter.specs.declared.pick.Seen.{Seen}
use Rattle.nvme_arbiter.specs.declared.pick.Pick.{Pick}
use Rattle.nvme_judge.specs.declared.turns.Turn.{Turn}
use Rattle.nvme_judge.specs.Turns.{is_since, or_number, turn_in}

-- what is kept of a queue after the pick of a number
abbrev pub turn_with : ℕ → Bool → Bool → Turn → Turn
turn_with number true ready turn = record { latest = Some number; since = None }
turn_with number false true turn = record { latest = turn.latest; since = Some (or_number turn.since number) }
turn_with number false false turn = record { latest = turn.latest; since = None }

-- whether a ready queue waits since the latest pick of another
abbrev pub some_has_waited : Option Class → List Turn → ℕ → List Seen → Bool
some_has_waited class turns other seen = list_any (λ s. is_wanted class s && is_since (turn_in turns s.qid).since (turn_in turns other).latest) seen

-- how many commands a pick of a class takes of a level
abbrev pub taken_of : Class → Option Class → ℕ → ℕ
taken_of level class n = if is_in_class level class then n else 0

-- what is used after a pick
abbrev pub used_after : ArbitrationFields → Used → List Seen → Pick → Used
used_after settings used seen pick = used_with (used_before (starts_round settings used seen pick) used) (class_in seen pick.qid) pick.n

-- no more of a level is used than its weight
abbrev pub IsWithinWeights : ArbitrationFields → Used → Type 0
IsWithinWeights settings used = (level : Class) → IsLevel level → used_of used level ≤ weight_of settings level

-- the class among whose picks a pick has its turn
abbrev pub turn_class : Mechanism → Option Class → Option Class
turn_class RoundRobin class = None
turn_class Weighted class = class
