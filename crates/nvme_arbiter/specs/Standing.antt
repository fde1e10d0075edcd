-- What an arbiter keeps, and the histories at which it stands (profile).
use Rattle.std.specs.Prelude.{◌≡◌, ℕ, ◌+◌, ◌≤◌, Bool, if◌then◌else◌, List, Option, Some, None}
use Rattle.nvme_arbiter.specs.Settings.{ArbitrationFields, weight_of, IsLevel}
use Rattle.nvme_arbiter.specs.ByClass.{of_class, with_class, same_for_all}
use Rattle.nvme_arbiter.specs.History.{History, settings_after, last_served, last_served_of, used_in_round}
use Rattle.nvme_arbiter.specs.Rules.{round_robin_pick, weighted_pick}
use Rattle.nvme_arbiter.specs.declared.settings.Class.{Class}
use Rattle.nvme_arbiter.specs.declared.settings.Class.TheVariants.{Admin, Urgent, High, Medium, Low}
use Rattle.nvme_arbiter.specs.declared.settings.Mechanism.{Mechanism}
use Rattle.nvme_arbiter.specs.declared.settings.Mechanism.TheVariants.{RoundRobin, Weighted}
use Rattle.nvme_arbiter.specs.declared.kept.Kept.{Kept}
use Rattle.nvme_arbiter.specs.declared.kept.Last.{Last}
use Rattle.nvme_arbiter.specs.declared.kept.Used.{Used}
use Rattle.nvme_arbiter.specs.declared.pick.Seen.{Seen}
use Rattle.nvme_arbiter.specs.declared.pick.Pick.{Pick}

-- the identifier served last of a class, as it is kept
abbrev pub last_of : Last → Class → Option ℕ
last_of last class = of_class last.by_class class

-- the commands used of a level, as they are kept
abbrev pub used_of : Used → Class → ℕ
used_of used High = used.high
used_of used Medium = used.medium
used_of used Low = used.low
used_of used Admin = 0
used_of used Urgent = 0

-- round robin keeps the identifier served last of all
-- the weighted mechanism keeps the identifier served last of each class, and the commands used of each level
abbrev pub Recalls : Mechanism → History → Kept → Type 0
Recalls RoundRobin past k = k.last.all ≡ last_served past
Recalls Weighted past k = ((class : Class) → last_of k.last class ≡ last_served_of class past) × ((level : Class) → IsLevel level → used_of k.used level ≡ used_in_round level past)

-- an arbiter stands at a history, under a mechanism and first settings
pub record StandsAt (mechanism : Mechanism) (first : ArbitrationFields) (past : History) (k : Kept) : Type 0 where
  pub mechanism_is : k.mechanism ≡ mechanism
  pub settings_are : k.settings ≡ settings_after first past
  pub recalls : Recalls mechanism past k

-- the pick that is made of an observation, from what is kept
abbrev pub pick_by : Mechanism → Kept → List Seen → Option Pick
pick_by RoundRobin k seen = round_robin_pick k.settings k.last.all seen
pick_by Weighted k seen = weighted_pick k.settings (last_of k.last) (used_of k.used) seen

abbrev pub pick_of : Kept → List Seen → Option Pick
pick_of k seen = pick_by k.mechanism k seen

-- ---- what is kept after a pick of a class
abbrev pub last_with : Last → Option Class → ℕ → Last
last_with last None qid = last
last_with last (Some class) qid = record last { by_class = with_class last.by_class class (Some qid) }

abbrev pub used_with : Used → Option Class → ℕ → Used
used_with used None n = used
used_with used (Some Admin) n = used
used_with used (Some Urgent) n = used
used_with used (Some High) n = record used { high = used.high + n }
used_with used (Some Medium) n = record used { medium = used.medium + n }
used_with used (Some Low) n = record used { low = used.low + n }

abbrev pub nothing_used : Used
nothing_used = record { high = 0; medium = 0; low = 0 }

-- a fresh pick starts from nothing
abbrev pub used_before : Bool → Used → Used
used_before fresh used = if fresh then nothing_used else used

abbrev pub kept_after : Mechanism → Kept → Option Class → Pick → Kept
kept_after RoundRobin k class pick = record k { last = record k.last { all = Some pick.qid } }
kept_after Weighted k class pick = record k { last = last_with k.last class pick.qid; used = used_with (used_before pick.fresh k.used) class pick.n }

-- what is used of a pick's class stays within its weight, where the class is a level
abbrev pub StaysWithin : ArbitrationFields → Used → Option Class → ℕ → Type 0
StaysWithin settings used None n = Unit {0}
StaysWithin settings used (Some class) n = IsLevel class → used_of used class + n ≤ weight_of settings class

abbrev pub IsWithinWeight : Mechanism → Kept → Option Class → Pick → Type 0
IsWithinWeight RoundRobin k class pick = Unit {0}
IsWithinWeight Weighted k class pick = StaysWithin k.settings (used_before pick.fresh k.used) class pick.n

-- what is kept at first
abbrev pub first_kept : Mechanism → ArbitrationFields → Kept
first_kept mechanism settings = record { mechanism = mechanism; settings = settings; last = record { all = None; by_class = same_for_all None }; used = nothing_used }
